-- What holds of a result where it is Ok.
use Rattle.std.proofs.Common.{Result, Ok, Err, ◌⊎◌, inl}
use Rattle.std.specs.Prelude.{OnOk, OnErr}

pub on_ok : {A E : Type 0} (P Q : Type 0) → (P → Q) → (r : Result A E) → OnOk r P → OnOk r Q
on_ok P Q f (Ok a) h = f h
on_ok P Q f (Err e) h = h

pub on_err_left : {A E : Type 0} (P Q : Type 0) → P → (r : Result A E) → OnErr r (P ⊎ Q)
on_err_left P Q p (Ok a) = tt
on_err_left P Q p (Err e) = inl p
