-- Which errors a session is not ended by.
use Rattle.std.proofs.Common.{◌≡◌, ◌⊎◌, Result, Ok, Err, OnOk, OnErr, inl, inr, ap, sym, ◌∙◌}
use Rattle.program_endings.specs.declared.session_error.SessionError.{SessionError}
use Rattle.program_endings.specs.declared.session_error.SessionError.TheVariants.{Read}
use Rattle.program_endings.specs.Endings.{IsAnswerError, IsWriterError}

pub answer_not_read : (e : SessionError) → IsAnswerError e → e ≡ Read → ⊥
answer_not_read e (inl (inl is)) h = absurd cc
answer_not_read e (inl (inr (inl is))) h = absurd cc
answer_not_read e (inl (inr (inr (m, is)))) h = absurd cc
answer_not_read e (inr is) h = absurd cc

pub writer_not_read : (e : SessionError) → IsWriterError e → e ≡ Read → ⊥
writer_not_read e (inl is) h = absurd cc
writer_not_read e (inr is) h = absurd cc

pub written_not_read : (e : SessionError) → IsAnswerError e ⊎ IsWriterError e → e ≡ Read → ⊥
written_not_read e (inl is) h = answer_not_read e is h
written_not_read e (inr is) h = writer_not_read e is h

-- an error that is handed on and isn't of a read
pub handed_on : (r : Result (Unit {0}) SessionError) (e f : SessionError) → r ≡ Err f → f ≡ e → (e ≡ Read → ⊥) → OnErr r (r ≡ Err Read → ⊥)
handed_on r e f is same h = rw is (λ q. h (let x : f ≡ Read = cc in sym same ∙ x))

-- which error that is
pub same_error : (r : Result (Unit {0}) SessionError) (e f x : SessionError) → r ≡ Err f → f ≡ e → r ≡ Err x → e ≡ x
same_error r e f x is same has = let y : f ≡ x = cc in sym same ∙ y

pub no_such_error : {T : Type 0} (r : Result (Unit {0}) SessionError) (e f x : SessionError) → r ≡ Err f → f ≡ e → (r ≡ Err x → ⊥)
    → (q : Result T SessionError) → q ≡ Err e → q ≡ Err x → ⊥
no_such_error r e f x is same other q this has = other (let y : e ≡ x = cc in is ∙ ap Err (same ∙ y))

pub ok_is_none : {T E : Type 0} (t : T) (e : E) → Ok t ≡ Err e → ⊥
ok_is_none t e h = absurd cc

-- what holds where all went well
pub on_ok : {T E : Type 0} (r : Result T E) (P Q : Type 0) → (P → Q) → OnOk r P → OnOk r Q
on_ok (Ok t) P Q f h = f h
on_ok (Err e) P Q f h = tt

pub also_ok : {T E : Type 0} (r : Result T E) (P : Type 0) → P → OnOk r P
also_ok (Ok t) P h = h
also_ok (Err e) P h = tt

pub on_err : {T E : Type 0} (r : Result T E) (P : Type 0) (e : E) → r ≡ Err e → P → OnErr r P
on_err (Ok t) P e is h = tt
on_err (Err f) P e is h = h

pub on_err_too : {T E : Type 0} (r : Result T E) (P Q : Type 0) → (P → Q) → OnErr r P → OnErr r Q
on_err_too (Ok t) P Q f h = tt
on_err_too (Err e) P Q f h = f h
