-- A right strand's next statement uses no name that waits.
use Rattle.std.proofs.Common.{ℕ, zero, suc, ◌+◌, List, [], ◌∷◌, Option, Some, ℤ, ◌≡◌, refl, subst, arith}
use Rattle.std.specs.Prelude.{slice_get}
use Rattle.meaning.specs.Tree.{Term, number, name, cell, has as has_row, limit, sum, negate, binary, Deed, bind, enter, read, sync, update, choose, loop, give, end, step, Tree}
use Rattle.meaning.specs.declared.tree.Way.TheVariants.{Call, Spawn}
use Rattle.meaning.specs.Tables.{Tables}
use Rattle.meaning.specs.Outcome.{Log, Accumulators, Place}
use Rattle.meaning.specs.Values.{Env}
use Rattle.meaning.specs.SmallStep.{Slot, unset, waits, has, Todo, blocks, halves, second, turns, Phase, entering, running, spawning, returning, leaving, broken, Lookup}
use Rattle.meaning.specs.LayeredStrand.{LayeredStrand}
use Rattle.trail_theory.specs.Order.{In}
use Rattle.trail_theory.specs.Waiting.{IsFree, AreFree, IsOrderlyDeed, IsOrderlyTodo}
use Rattle.trail_theory.specs.TaskFits.{value_in, SlotFits, same, late, lost, EnvFits, IsOrderlyPhase}
use Rattle.trail_theory.specs.Right.{IsRight}
use Rattle.trail_theory.specs.Ready.{NotWaiting, IsReadyTerm, AreReadyTerms, IsReadyDeed, IsReadyTodo, IsReadyPhase, StepsReady}

value_ready : (s : Slot) (o : Option ℤ) → value_in s o → NotWaiting (Some s)
value_ready unset o h = tt
value_ready (waits j) o h = absurd h
value_ready (has v) o h = tt

slot_ready : {B : Log} {n : Place} {W : List ℕ} {x : ℕ} {s : Slot} {o : Option ℤ} → SlotFits B n W x s o → (In x W → ⊥) → NotWaiting (Some s)
slot_ready {s = s} {o = o} (same t) f = value_ready s o t
slot_ready (late i w) f = absurd (f w)
slot_ready (lost k i w) f = absurd (f w)

get_ready : (B : Log) (n : Place) (W : List ℕ) (k : ℕ) (env : List Slot) (E : Env) → EnvFits B n W k env E → (x : ℕ) → (In (k + x) W → ⊥) → NotWaiting (slice_get env x)
get_ready B n W k [] E h x f = tt
get_ready B n W k (s ∷ env) [] h x f = absurd h
get_ready B n W k (s ∷ env) (o ∷ E) h zero f = slot_ready h.0 (let e : k + 0 ≡ k = omega arith in rw e at f)
get_ready B n W k (s ∷ env) (o ∷ E) h (suc x) f = get_ready B n W (suc k) env E h.1 x (let e : k + suc x ≡ suc k + x = omega arith in rw e at f)

module _ (B : Log) (n : Place) (W : List ℕ) (env : List Slot) (E : Env) (h : EnvFits B n W 0 env E) where
  term_ready : (e : Term) → IsFree W e → IsReadyTerm env e
  term_ready (number k) f = tt
  term_ready (name x) f = get_ready B n W 0 env E h x (let e : 0 + x ≡ x = omega arith in rw e f)
  term_ready (cell t e c) f = term_ready e f
  term_ready (has_row t e) f = term_ready e f
  term_ready (limit t) f = tt
  term_ready (sum t c) f = tt
  term_ready (negate e) f = term_ready e f
  term_ready (binary op e e') f = (term_ready e f.0, term_ready e' f.1)

  terms_ready : (es : List Term) → AreFree W es → AreReadyTerms env es
  terms_ready [] f = tt
  terms_ready (e ∷ es) f = (term_ready e f.0, terms_ready es f.1)

  deed_ready : (d : Deed) → IsOrderlyDeed W d → IsReadyDeed env d
  deed_ready (bind x e) f = term_ready e f
  deed_ready (enter x Call g es) f = terms_ready es f
  deed_ready (enter x Spawn g es) f = terms_ready es f
  deed_ready (read x r) f = tt
  deed_ready sync f = tt
  deed_ready (update r es) f = terms_ready es f
  deed_ready (choose e a b) f = term_ready e f.0
  deed_ready (loop x e e' grain g es) f = (term_ready e f.0, (term_ready e' f.1.0, terms_ready es f.1.1))
  deed_ready (give e) f = term_ready e f

  todo_ready : (todo : Todo) → IsOrderlyTodo W todo → IsReadyTodo env todo
  todo_ready (blocks []) f = tt
  todo_ready (blocks (end ∷ bs)) f = tt
  todo_ready (blocks (step s d b ∷ bs)) f = deed_ready d f.0.0
  todo_ready (halves k job count i) f = tt
  todo_ready (second k job count i) f = tt
  todo_ready (turns job count i) f = tt

pub phase_ready : (program : Tree) (tables : Tables) (sight : Accumulators) (lookup : Lookup) (s : LayeredStrand) (ph : Phase) → s.phase ≡ ph → IsRight program tables sight lookup s → IsReadyPhase s.frame.env ph
phase_ready program tables sight lookup s (entering child) e h = tt
phase_ready program tables sight lookup s (running todo) e h =
    let f = h.task.frame_fits in
    todo_ready h.before s.frame.instance f.waiting s.frame.env h.top.env f.slots todo (subst (λ ph. IsOrderlyPhase program f.waiting s.frame ph) e f.orderly)
phase_ready program tables sight lookup s (spawning d x child todo) e h = tt
phase_ready program tables sight lookup s (returning v) e h = tt
phase_ready program tables sight lookup s (leaving v) e h = tt
phase_ready program tables sight lookup s (broken k) e h = tt

pub steps_ready : (program : Tree) (tables : Tables) (sight : Accumulators) (lookup : Lookup) → StepsReady program tables sight lookup
steps_ready program tables sight lookup s h = phase_ready program tables sight lookup s s.phase refl h
