-- What holds of a result where something else does.
use Rattle.std.proofs.Common.{ℕ, List, Result, Ok, Err, IfOk, IfErr, inl, inr, sym, subst}
use Rattle.meaning.specs.Tables.{Tables}
use Rattle.report_session.specs.Opened.{IsNoSession, IsUnopened}
use Rattle.report_session.specs.declared.opening.OpenError.{OpenError}

pub of_ok : {T E : Type 0} (r : Result T E) (P Q : T → Type 0) → ((t : T) → P t → Q t) → IfOk r P → IfOk r Q
of_ok (Ok t) P Q f h = f t h
of_ok (Err e) P Q f h = tt

-- a session that isn't begun isn't opened
unopened_by : (text : List ℕ) (tables : Tables) (kits : ℕ) (e : OpenError) → IsNoSession kits e → IsUnopened text tables kits e
unopened_by text tables kits e (inl is) = subst (IsUnopened text tables kits) (sym is) tt
unopened_by text tables kits e (inr (is, none)) = subst (IsUnopened text tables kits) (sym is) none

pub unopened : {T : Type 0} (r : Result T OpenError) (text : List ℕ) (tables : Tables) (kits : ℕ)
    → IfErr r (IsNoSession kits) → IfErr r (IsUnopened text tables kits)
unopened (Ok t) text tables kits h = tt
unopened (Err e) text tables kits h = unopened_by text tables kits e h
