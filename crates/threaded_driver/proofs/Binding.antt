-- A worker's deque is bound to the lowest instance of the strand that it goes on with.
use Rattle.std.proofs.Common.{◌≡◌, ℕ, ◌+◌, ℤ, Bool, true, false, List, [], ◌∷◌, length, Option, Some, None, refl, sym, ap, ◌∙◌, subst, arith}
use Rattle.std.proofs.lemmas.List.{length-append}
use Rattle.positions.specs.declared.phase.Phase.{Phase}
use Rattle.positions.specs.declared.phase.Phase.TheVariants.{Entering, Running, AtSpawn, Returning, Leaving, Broken}
use Rattle.positions.specs.declared.phase.Paused.{Paused}
use Rattle.positions.specs.declared.phase.Paused.TheVariants as paused
use Rattle.positions.specs.declared.start.Start.{Start}
use Rattle.positions.specs.declared.start.Start.TheVariants.{Root, Behind}
use Rattle.positions.specs.Setting.{Setting}
use Rattle.positions.specs.Activations.{PlainActivation}
use Rattle.positions.specs.Layers.{PlainLayer}
use Rattle.positions.specs.Tallies.{PlainTally}
use Rattle.positions.specs.Strands.{PlainStrand, PlainTask, shorter}
use Rattle.positions.specs.Advance.{advanced, pause_of, sync_pause}
use Rattle.positions.specs.Moves.{detached, attached, resumed, resumed_by, returned_at}
use Rattle.small_steps.specs.Steps.{HoldsBy}
use Rattle.right_strands.specs.Remembering.{Remembers}
use Rattle.right_strands.specs.Rightness.{Pushed, FitsHere, IsRightTask}
use Rattle.stealing_deques.specs.declared.entry.Spot.{Spot}
use Rattle.stealing_deques.specs.Order.{spot, GoesOn, IsBoundTo}
use Rattle.worker_seats.specs.Spots.{numbers_of, lowest_name, spot_of, bottom_of, own_spot, child_spot, HasReturned}
use Rattle.threaded_driver.specs.declared.found.Found.{Found}
use Rattle.threaded_driver.specs.declared.found.Found.TheVariants.{Left, Nothing, Own, Folded, Stolen}
use Rattle.threaded_driver.specs.Finds.{IsAt}
use Rattle.threaded_driver.proofs.Names.{under, alone, goes_on}
use Rattle.threaded_driver.proofs.Staying.{stays}

-- bound to that spot
pub bound_to : (here : Option Spot) (there x : Spot) → here ≡ Some there → x ≡ there → IsBoundTo here x
bound_to here there x e h = subst (λ (o : Option Spot). IsBoundTo o x) (sym e) h

-- an owner that is bound to nothing is at any spot
pub unbound : (here : Option Spot) (x : Spot) → here ≡ None → IsBoundTo here x
unbound here x e = subst (λ (o : Option Spot). IsBoundTo o x) (sym e) tt

pub unbound_at : {J V : Type 0} (here : Option Spot) (f : Found J V) → here ≡ None → IsAt here f
unbound_at here Left e = tt
unbound_at here Nothing e = e
unbound_at here (Own s) e = unbound here (spot_of s.strand) e
unbound_at here (Folded s) e = unbound here (spot_of s.strand) e
unbound_at here (Stolen s) e = unbound here (spot_of s.strand) e

-- ---- a child that has returned

sync_never : (b : Bool) → sync_pause b ≡ paused.Returned → ⊥
sync_never true e = absurd cc
sync_never false e = absurd cc

module _ (setting : Setting) (kit : Bool) (start : Start) (layer : PlainLayer) (lower : List PlainLayer) (top : PlainActivation) (arguments : List ℤ) (tally : PlainTally) where
  abbrev piece : List ℕ → List PlainActivation → Phase → PlainStrand
  piece path below ph = record { start = start; layer = layer; lower = lower; path = path; top = top; below = below; phase = ph; arguments = arguments; tally = tally }

  returned_piece : (path : List ℕ) (below : List PlainActivation) (ph : Phase) → pause_of setting.codes (piece path below ph) ≡ paused.Returned
      → HasReturned (advanced setting kit (piece path below ph))
  returned_piece path below Entering e = absurd cc
  returned_piece path below Running e = absurd (sync_never _ e)
  returned_piece path below AtSpawn e = absurd cc
  returned_piece path below (Returning v) e = absurd (sync_never _ e)
  returned_piece [] [] (Leaving v) e = absurd cc
  returned_piece (k ∷ n) [] (Leaving v) e = (v, refl)
  returned_piece path (p ∷ rest) (Leaving v) e = absurd cc
  returned_piece path below (Broken f) e = absurd cc

pub returned : (setting : Setting) (kit : Bool) (s t : PlainStrand) → t ≡ advanced setting kit s → pause_of setting.codes s ≡ paused.Returned → HasReturned t
returned setting kit s t is e =
    subst HasReturned (sym is) (returned_piece setting kit s.start s.layer s.lower s.top s.arguments s.tally s.path s.below s.phase e)

-- ---- a small step, by the call's contract

pub stays_after : (lacks none : Type 0) (setting : Setting) (s t : PlainStrand) → HoldsBy lacks none (λ kit. t ≡ advanced setting kit s) → spot_of t ≡ spot_of s
stays_after lacks none setting s t h = ap spot_of h.done ∙ stays setting h.kit s

pub returned_after : (lacks none : Type 0) (setting : Setting) (s t : PlainStrand) (p : Paused) → p ≡ pause_of setting.codes s → HoldsBy lacks none (λ kit. t ≡ advanced setting kit s)
    → p ≡ paused.Returned → HasReturned t
returned_after lacks none setting s t p e h q = returned setting h.kit s t h.done (sym e ∙ q)

-- ---- on with the continuation

bare : (ph : Phase) (below : List PlainActivation) (path : List ℕ) (v : ℤ) → returned_at ph below path ≡ Some v → below ≡ []
bare (Leaving w) [] (k ∷ n) v e = refl
bare (Leaving w) [] [] v e = refl
bare (Leaving w) (a ∷ below) path v e = absurd cc
bare Entering below path v e = absurd cc
bare Running below path v e = absurd cc
bare AtSpawn below path v e = absurd cc
bare (Returning w) below path v e = absurd cc
bare (Broken f) below path v e = absurd cc

same_start : (a b : Start) → numbers_of a ≡ numbers_of b → a ≡ b
same_start Root Root e = refl
same_start Root (Behind d c) e = absurd cc
same_start (Behind d c) Root e = absurd cc
same_start (Behind d c) (Behind f k) e =
    let p : d ≡ f = cc in
    let q : c ≡ k = cc in
    ap (λ n. Behind n c) p ∙ ap (Behind f) q

-- what is popped is the continuation that waits for the child
pub pops_fit : (here : Option Spot) (s : PlainStrand) (k : Pushed) → HasReturned s → IsBoundTo here (spot_of s) → here ≡ Some (child_spot k) → FitsHere s k
pops_fit here s k h bound e =
    let there : spot_of s ≡ child_spot k = subst (λ (o : Option Spot). IsBoundTo o (spot_of s)) e bound in
    (same_start s.start k.since (ap (λ (p : Spot). p.since) there), sym (alone s.path s.below (bare s.phase s.below s.path h.0 h.1)) ∙ ap (λ (p : Spot). p.name) there)

-- and the strand that goes on with it has its lowest instance
pub resumed_at : (s : PlainStrand) (k : Pushed) → HasReturned s → FitsHere s k → spot_of (resumed k.task s) ≡ own_spot k
resumed_at s k h fits =
    ap (λ o. spot_of (resumed_by o k.task s)) h.1
    ∙ ap (λ path. spot (lowest_name (shorter path) k.task.below) (numbers_of s.start)) fits.1
    ∙ ap (λ start. spot (bottom_of k.task) (numbers_of start)) fits.0

-- with the layers that it has
pub resumed_lower : (o : Option ℤ) (k : PlainTask) (s : PlainStrand) → (resumed_by o k s).lower ≡ s.lower
resumed_lower None k s = refl
resumed_lower (Some v) k s = refl

-- ---- a spawn

module _ (s : PlainStrand) (k : Pushed) (since : k.since ≡ s.start) (place : k.task.place ≡ s.path) where
  -- the continuation has the strand's lowest instance
  pub spawned_at : s.below ≡ k.task.top ∷ k.task.below → spot_of s ≡ own_spot k
  spawned_at below =
      ap (λ below. spot (lowest_name s.path below) (numbers_of s.start)) below
      ∙ ap (λ name. spot name (numbers_of s.start)) (sym (under s.path k.task.below) ∙ ap (λ path. lowest_name (shorter path) k.task.below) (sym place))
      ∙ ap (λ start. spot (bottom_of k.task) (numbers_of start)) (sym since)

-- put back, it has it again
pub attached_bound : (here : Option Spot) (s d t : PlainStrand) (k j : Pushed) → s.below ≡ k.task.top ∷ k.task.below → j ≡ k → d ≡ detached s → t ≡ attached j.task d → IsBoundTo here (spot_of s) → IsBoundTo here (spot_of t)
attached_bound here s d t k j below same bare is =
    let again : spot_of s ≡ spot_of (attached k.task (detached s)) = ap (λ below. spot (lowest_name s.path below) (numbers_of s.start)) below in
    subst (IsBoundTo here) (again ∙ sym (ap spot_of (is ∙ ap (λ (j : Pushed). attached j.task d) same ∙ ap (attached k.task) bare)))

-- the child's name is longer than that of the continuation's lowest instance
pub task_goes_on : (setting : Setting) (k : Pushed) → Remembers setting → IsRightTask setting k → GoesOn (bottom_of k.task) k.task.place
task_goes_on setting k m right =
    let path = k.task.place in
    let long : length path ≡ length (shorter path) + 1 = ap length (right m).stands.parent.named ∙ length-append (shorter path) (k.task.top.children ∷ []) in
    goes_on path k.task.below (omega arith)
