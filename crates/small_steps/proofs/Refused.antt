-- What a call has left by which it was refused, or wasn't, where that alone was asked.
use Rattle.std.proofs.Common.{◌≡◌, Bool, true, false, Result, Ok, Err, is_err, OnErr, OnOk}

pub where_done : {A E : Type 0} (P : Type 0) (r : Result A E) (refused : Bool) → refused ≡ is_err r → refused ≡ false → OnOk r P → P
where_done P (Ok a) refused is done h = h
where_done P (Err e) refused is done h = absurd cc

pub where_refused : {A E : Type 0} (P : Type 0) (r : Result A E) (refused : Bool) → refused ≡ is_err r → refused ≡ true → OnErr r P → P
where_refused P (Ok a) refused is err h = absurd cc
where_refused P (Err e) refused is err h = h
