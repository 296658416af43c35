-- What is said of a result that is Ok.
use Rattle.std.specs.Prelude.{◌≡◌, Result, Ok, Err, OnOk}

pub on_ok : {E : Type 0} (r : Result (Unit {0}) E) (P : Type 0) → P → OnOk r P
on_ok (Ok u) P h = h
on_ok (Err u) P h = tt

pub not_ok : {E : Type 0} (r : Result (Unit {0}) E) (P : Type 0) (e : E) → r ≡ Err e → OnOk r P
not_ok (Ok u) P e h = absurd cc
not_ok (Err u) P e h = tt
