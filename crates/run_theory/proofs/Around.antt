-- The instances that wait below a strand's topmost one, and those whose layers are owed to the right, stand around it.
use Rattle.std.proofs.Common.{◌++◌, ℕ, List, [], ◌∷◌, refl, sym, subst, true, false, Bool}
use Rattle.meaning.specs.Outcome.{Place}
use Rattle.meaning.specs.Trail.{child_of}
use Rattle.meaning.specs.SmallStep.{Start, root, behind, Frame, Parent, Continuation}
use Rattle.meaning.specs.RestOfRun.{lowest}
use Rattle.meaning.specs.Schedules.{place_of_start}
use Rattle.trail_theory.specs.Order.{Every}
use Rattle.trail_theory.specs.TaskFits.{Stacked}
use Rattle.trail_theory.specs.OpenLayers.{recorded_by, recorded_under}
use Rattle.trail_theory.specs.OwedLayers.{parents_behind, IsOver, Precede}
use Rattle.trail_theory.specs.OwnLayers.{IsAround}
use Rattle.trail_theory.proofs.OwnLayers.{around_over, around_parent, around_through}
use Rattle.run_theory.specs.RightRuns.{Begins, Links}

all_further : (n q : Place) (names : List Place) → IsAround n q → Every (IsAround q) names → Every (IsAround n) names
all_further n q [] h k = tt
all_further n q (o ∷ names) h k = (around_through n q o h (around_over q o k.0), all_further n q names h k.1)

with_flag : (n q : Place) (b : Bool) (names right : List Place) → IsAround n q → Every (IsAround n) (names ++ right) → Every (IsAround n) (recorded_by b q names ++ right)
with_flag n q true names right h k = (h, k)
with_flag n q false names right h k = k

-- those that wait below it on the stack, and what is behind them
pub stack_around : (fr : Frame) (t later : List Parent) (right : List Place) → Stacked fr.instance t → Every (IsAround (lowest fr t)) (recorded_under later ++ right) → Every (IsAround fr.instance) (recorded_under (t ++ later) ++ right)
stack_around fr [] later right st h = h
stack_around fr (p ∷ t) later right st h =
    let q = p.frame.instance in
    let near = around_parent fr.instance q st.0.number st.0.is in
    with_flag fr.instance q p.frame.recorded (recorded_under (t ++ later)) right near (all_further fr.instance q (recorded_under (t ++ later) ++ right) near (stack_around p.frame t later right st.1 h))

-- those of the deque, and what is owed to the right
pub deque_around : (n e : Place) (ks : List Continuation) (right : List Place) → Links n ks e → Every (λ k. Stacked k.parent.frame.instance k.under) ks → Every (IsAround e) right → Every (IsAround n) (recorded_under (parents_behind ks) ++ right)
deque_around n e [] right l st h = subst (λ m. Every (IsAround m) right) (sym l) h
deque_around n e (k ∷ ks) right l st h =
    let fr = k.parent.frame in
    let near = around_parent n fr.instance k.child l.0 in
    let later = parents_behind ks in
    with_flag n fr.instance fr.recorded (recorded_under (k.under ++ later)) right near
    (all_further n fr.instance (recorded_under (k.under ++ later) ++ right) near (stack_around fr k.under later right st.0 (deque_around (lowest fr k.under) e ks right l.1 st.1 h)))

child_around : (m : Place) (k : ℕ) (names : List Place) → Every (IsOver m) names → Every (IsAround (child_of m k)) names
child_around m k [] h = tt
child_around m k (o ∷ names) h = (around_through (child_of m k) m o (around_parent (child_of m k) m k refl) h.0, child_around m k names h.1)

pub start_around : (m : Start) (names : List Place) → Begins false m → Precede m names → Every (IsAround (place_of_start m)) names
start_around root names b h = absurd b
start_around (behind m k) names b h = child_around m k names h
