-- What stands in main after a read updates nothing.
use Rattle.std.proofs.Common.{ℕ, Option, Result, Ok, Err, ℤ, pos, true, false, Bool, cond}
use Rattle.std.specs.Ordering.{int_eq}
use Rattle.meaning.specs.Tree.{Name, Deed, bind, enter, read, sync, update, choose, loop, give, Body, end, step, Tree}
use Rattle.meaning.specs.declared.FaultKind.{FaultKind}
use Rattle.meaning.specs.Tables.{Tables}
use Rattle.meaning.specs.Outcome.{Accumulators, Fault, Site, Place}
use Rattle.meaning.specs.Values.{Env, put, value}
use Rattle.meaning.specs.Statements.{reducers, numbered, reading}
use Rattle.meaning.specs.Trail.{Trace, after_answer, evaluated, over, Runner, deed_walk, body_walk}
use Rattle.trail_theory.specs.ReadsAtEnd.{IsPlainDeed, IsPlain, IsEnding}
use Rattle.trail_theory.proofs.Places.{every_append}
use Rattle.trail_theory.proofs.MainElides.{ChangesNothing, Still, still_value}

still_after_answer : {A : Type 0} (doom : Option Fault) (site : Site) (r : Result A FaultKind) (next : A → Trace) → ((a : A) → Still (next a).events) → Still (after_answer doom site r next).events
still_after_answer doom site (Ok a) next h = h a
still_after_answer doom site (Err k) next h = (tt, tt)

value_still : (tables : Tables) (env : Env) (e : _) (doom : Option Fault) (site : Site) (next : ℤ → Trace) → ((v : ℤ) → Still (next v).events) → Still (evaluated doom site (value tables env e) next).events
value_still tables env e doom site next h =
    let o = value tables env e in
    every_append ChangesNothing o.log (after_answer doom site o.answer next).events (still_value tables env e) (still_after_answer doom site o.answer next h)

cond_still : (b : Bool) (x y : Trace) → Still x.events → Still y.events → Still (cond b x y).events
cond_still true x y h k = h
cond_still false x y h k = k

module _ (program : Tree) (tables : Tables) (sight : Accumulators) (sub : Runner) (left : ℕ) (n : Place) where
  abbrev Rests : (Env → ℕ → Option Fault → Trace) → Type 0
  Rests k = (env : Env) (c : ℕ) (doom : Option Fault) → Still (k env c doom).events

  mutual
    plain_deed : (site : Site) (d : Deed) → IsPlainDeed d → (env : Env) (c : ℕ) (doom : Option Fault) (k : Env → ℕ → Option Fault → Trace) → Rests k → Still (deed_walk program tables sight sub left n site d env c doom k).events
    plain_deed site (bind x e) p env c doom k h = value_still tables env e doom site (λ v. k (put env x v) c doom) (λ v. h (put env x v) c doom)
    plain_deed site (enter x way f es) p env c doom k h = absurd p
    plain_deed site (read x r) p env c doom k h = absurd p
    plain_deed site sync p env c doom k h = absurd p
    plain_deed site (update r es) p env c doom k h = absurd p
    plain_deed site (choose e a b) p env c doom k h =
        value_still tables env e doom site _ (λ v. cond_still (int_eq v (pos 0)) _ _ (plain_block site.procedure b p.1 env c doom k h) (plain_block site.procedure a p.0 env c doom k h))
    plain_deed site (loop x e f grain g es) p env c doom k h = absurd p
    plain_deed site (give e) p env c doom k h = value_still tables env e doom site (λ v. over n doom v) (λ v. (tt, tt))

    plain_block : (here : Name) (b : Body) → IsPlain b → (env : Env) (c : ℕ) (doom : Option Fault) (k : Env → ℕ → Option Fault → Trace) → Rests k → Still (body_walk program tables sight sub left n here b env c doom k).events
    plain_block here end p env c doom k h = h env c doom
    plain_block here (step s d b) p env c doom k h = plain_deed (record { procedure = here; statement = s }) d p.0 env c doom (λ env' c' doom'. body_walk program tables sight sub left n here b env' c' doom' k) (λ env' c' doom'. plain_block here b p.1 env' c' doom' k h)

  pub ending_block : (here : Name) (b : Body) → IsEnding b → (env : Env) (c : ℕ) (doom : Option Fault) (k : Env → ℕ → Option Fault → Trace) → Rests k → Still (body_walk program tables sight sub left n here b env c doom k).events
  ending_block here end p env c doom k h = h env c doom
  ending_block here (step s (bind x e) b) p env c doom k h = plain_deed (record { procedure = here; statement = s }) (bind x e) p.0 env c doom (λ env' c' doom'. body_walk program tables sight sub left n here b env' c' doom' k) (λ env' c' doom'. ending_block here b p.1 env' c' doom' k h)
  ending_block here (step s (enter x way f es) b) p env c doom k h = absurd p.0
  ending_block here (step s (read x r) b) p env c doom k h = ending_block here b p (put env x (reading sight (numbered 0 (reducers program) r))) c doom k h
  ending_block here (step s sync b) p env c doom k h = absurd p.0
  ending_block here (step s (update r es) b) p env c doom k h = absurd p.0
  ending_block here (step s (choose e x y) b) p env c doom k h = plain_deed (record { procedure = here; statement = s }) (choose e x y) p.0 env c doom (λ env' c' doom'. body_walk program tables sight sub left n here b env' c' doom' k) (λ env' c' doom'. ending_block here b p.1 env' c' doom' k h)
  ending_block here (step s (loop x e f grain g es) b) p env c doom k h = absurd p.0
  ending_block here (step s (give e) b) p env c doom k h = plain_deed (record { procedure = here; statement = s }) (give e) p.0 env c doom (λ env' c' doom'. body_walk program tables sight sub left n here b env' c' doom' k) (λ env' c' doom'. ending_block here b p.1 env' c' doom' k h)
