-- The other moves keep strands tallied: a strand's beginning, a child as a call or alone, a continuation, a pop, a steal and a fold.
use Rattle.std.proofs.Common.{Ok, ℕ, List, [], ◌∷◌, Option, ℤ, ◌≡◌, refl, sym, subst, arith}
use Rattle.meaning.specs.Tree.{Tree}
use Rattle.meaning.specs.Tables.{Tables}
use Rattle.meaning.specs.Outcome.{Accumulators, Place, Leaves}
use Rattle.meaning.specs.Records.{Revised}
use Rattle.meaning.specs.Statements.{beginning}
use Rattle.meaning.specs.Trail.{child_of}
use Rattle.meaning.specs.SmallStep.{Start, behind, Frame, Todo, Child, Phase, spawning, leaving, Parent, Lookup, Continuation, place_of_continuation}
use Rattle.meaning.specs.Layers.{Notes, take_top}
use Rattle.meaning.specs.LayeredStrand.{LayeredStrand, first_layered, inlined, detached, continuation, resumed, stolen, joined, joined_layers, settled_frame, settled_under}
use Rattle.meaning.specs.Tallies.{Tally, no_tally, tallies_joined}
use Rattle.trail_theory.specs.Order.{Every}
use Rattle.trail_theory.specs.Counts.{IsCounted}
use Rattle.trail_theory.specs.Right.{stretch, RightAt, IsRightContinuation, StretchesMultiply, NoneWaits, NoneWaitsUnder, MayJoin}
use Rattle.trail_theory.specs.OpenLayers.{AreShallow, IsShallow, IsShallowContinuation, OpenAt, EnteredSince, IsNewRecord, IsTallied}
use Rattle.trail_theory.proofs.Places.{every_append}
use Rattle.trail_theory.proofs.Ends.{first_right}
use Rattle.trail_theory.proofs.Advances.{stretch_grown, inline_right, detach_right}
use Rattle.trail_theory.proofs.Joins.{steal_right, pop_right, join_at}
use Rattle.trail_theory.proofs.Counted.{counted_on, counted_join}
use Rattle.trail_theory.proofs.OpenFits.{grown_open, open_any}
use Rattle.trail_theory.proofs.Beginnings.{beginning_told}
use Rattle.trail_theory.proofs.Openings.{told_reuses}
use Rattle.trail_theory.proofs.TalliedSteps.{told_executed}

shallow_settled : (e : Place) (v : ℤ) (t : List Parent) → AreShallow t → AreShallow (settled_under e v t)
shallow_settled e v [] h = tt
shallow_settled e v (p ∷ t) h = (h.0, shallow_settled e v t h.1)

-- a strand's parts, with its tally
pub record TalliedAt (program : Revised) (tables : Tables) (sight : Accumulators) (lookup : Lookup) (m : Start) (ls : List Notes) (fr : Frame) (ph : Phase) (t : List Parent) (y : Tally) : Type 0 where
  pub right : RightAt program.tree tables sight lookup m ls fr ph t
  pub opens : OpenAt program.tree tables sight lookup ph right.before y.opened right.segments
  pub high : Every (EnteredSince m) y.opened
  pub shallow : IsShallow fr ph t
  pub counted : IsCounted y (stretch right.segments)
  pub made : Every (IsNewRecord program tables) y.made

module _ (program : Revised) (tables : Tables) (sight : Accumulators) (lookup : Lookup) where
  abbrev P : Tree
  P = program.tree

  abbrev At : Start → List Notes → Frame → Phase → List Parent → Tally → Type 0
  At m ls fr ph t y = TalliedAt program tables sight lookup m ls fr ph t y

  abbrev Whole : LayeredStrand → Tally → Type 0
  Whole s y = IsTallied program tables sight lookup s y

  at_whole : (s : LayeredStrand) (y : Tally) → Whole s y → At s.start s.layers s.frame s.phase s.under y
  at_whole s y h = record { right = h.right; opens = h.opens; high = h.high; shallow = h.shallow; counted = h.counted; made = h.made }

  -- a strand's parts by their equations
  pub tallied_with : (s : LayeredStrand) (y : Tally) (m : Start) (ls : List Notes) (ph : Phase) (t : List Parent) → s.start ≡ m → s.layers ≡ ls → s.phase ≡ ph → s.under ≡ t → Whole s y → At m ls s.frame ph t y
  tallied_with s y m ls ph t a b c d h =
      subst (λ w. At m ls s.frame ph w y) d (subst (λ w. At m ls s.frame w s.under y) c (subst (λ w. At m w s.frame s.phase s.under y) b (subst (λ w. At w s.layers s.frame s.phase s.under y) a (at_whole s y h))))

  pub first_tallied : Whole (first_layered P) no_tally
  unfolding first_right
  first_tallied = record { right = first_right P tables sight lookup; opens = tt; high = tt; shallow = (omega arith, (tt, tt)); counted = counted_on no_tally no_tally [] (beginning P) (record { executed_are = refl; reused_are = refl; room = omega arith; recorded = λ q. tt }) (told_executed (beginning P) (beginning_told P)) (told_reuses (beginning P) (beginning_told P)) refl refl refl refl; made = tt }

  inline_at : (m : Start) (ls : List Notes) (fr : Frame) (t : List Parent) (y : Tally) (d : ℕ) (x : Option ℕ) (child : Child) (todo : Todo) → At m ls fr (spawning d x child todo) t y
      → Whole (inlined P (record { start = m; layers = ls; frame = fr; phase = spawning d x child todo; under = t }) d x child todo) y
  unfolding inline_right
  inline_at m ls fr t y d x child todo h =
      record { right = inline_right P tables sight lookup m ls fr t d x child todo h.right; opens = grown_open P tables sight lookup h.right.before y.opened h.right.segments _ h.opens; high = h.high; shallow = (h.shallow.1.0, (tt, (h.shallow.0, h.shallow.1.1))); counted = subst (IsCounted y) (sym (stretch_grown P tables sight lookup h.right.segments _ h.right.layered)) (counted_on y y (stretch h.right.segments) _ h.counted refl refl refl refl refl refl); made = h.made }

  detach_at : (m : Start) (ls : List Notes) (fr : Frame) (t : List Parent) (y : Tally) (d : ℕ) (x : Option ℕ) (child : Child) (todo : Todo) → At m ls fr (spawning d x child todo) t y
      → Whole (detached P (record { start = m; layers = ls; frame = fr; phase = spawning d x child todo; under = t }) d child) y
  unfolding detach_right
  detach_at m ls fr t y d x child todo h =
      record { right = detach_right P tables sight lookup m ls fr t d x child todo h.right; opens = grown_open P tables sight lookup h.right.before y.opened h.right.segments _ h.opens; high = h.high; shallow = (h.shallow.1.0, (tt, tt)); counted = subst (IsCounted y) (sym (stretch_grown P tables sight lookup h.right.segments _ h.right.layered)) (counted_on y y (stretch h.right.segments) _ h.counted refl refl refl refl refl refl); made = h.made }

  pop_at : (ls : List Notes) (fr : Frame) (v : ℤ) (k : Continuation) (y : Tally) → fr.instance ≡ place_of_continuation k → At k.since ls fr (leaving v) [] y → IsRightContinuation P tables sight lookup k → IsShallowContinuation k
      → Whole (resumed P (record { start = k.since; layers = ls; frame = fr; phase = leaving v; under = [] }) k v) y
  unfolding pop_right
  pop_at ls fr v k y e h g shallow =
      record { right = pop_right P tables sight lookup ls fr v k e h.right g; opens = grown_open P tables sight lookup h.right.before y.opened h.right.segments _ h.opens; high = h.high; shallow = (shallow.0, (tt, shallow.1)); counted = subst (IsCounted y) (sym (stretch_grown P tables sight lookup h.right.segments _ h.right.layered)) (counted_on y y (stretch h.right.segments) _ h.counted refl refl refl refl refl refl); made = h.made }

  pub steal_tallied : (k : Continuation) → IsRightContinuation P tables sight lookup k → IsShallowContinuation k → Whole (stolen P k) no_tally
  unfolding steal_right
  steal_tallied k h shallow = record { right = steal_right P tables sight lookup k h; opens = tt; high = tt; shallow = (shallow.0, (tt, shallow.1)); counted = record { executed_are = refl; reused_are = refl; room = omega arith; recorded = λ q. tt }; made = tt }

  join_tallied_at : StretchesMultiply P tables sight lookup → (s : Start) (ls : List Notes) (frl : Frame) (v : ℤ) (m : Place) (k : ℕ) (lr : Notes) (fr : Frame) (ph : Phase) (t : List Parent) (y z : Tally)
      → At s ls frl (leaving v) [] y → At (behind m k) (lr ∷ []) fr ph t z → frl.instance ≡ child_of m k → NoneWaits s (settled_frame frl.instance v fr) → NoneWaitsUnder s (settled_under frl.instance v t)
      → At s (take_top P lr ls) (settled_frame frl.instance v fr) ph (settled_under frl.instance v t) (tallies_joined y z)
  unfolding join_at
  join_tallied_at law s ls frl v m k lr fr ph t y z hl hr named check checks =
      record {
        right = join_at P tables sight lookup law s ls frl v m k lr fr ph t hl.right hr.right named check checks;
        opens = open_any P tables sight lookup ph hl.right.before y.opened _ (grown_open P tables sight lookup hl.right.before y.opened hl.right.segments _ hl.opens);
        high = hl.high;
        shallow = (hr.shallow.0, (hr.shallow.1.0, shallow_settled frl.instance v t hr.shallow.1.1));
        counted = subst (IsCounted (tallies_joined y z)) (sym (stretch_grown P tables sight lookup hl.right.segments (Leaves frl.instance (Ok v) ∷ stretch hr.right.segments) hl.right.layered)) (counted_join y z (stretch hl.right.segments) (Leaves frl.instance (Ok v) ∷ stretch hr.right.segments) hl.counted (record { executed_are = hr.counted.executed_are; reused_are = hr.counted.reused_are; room = hr.counted.room; recorded = hr.counted.recorded }));
        made = every_append (IsNewRecord program tables) y.made z.made hl.made hr.made;
      }

  -- ---- as moves of whole strands

  pub inline_tallied : (s : LayeredStrand) (y : Tally) (d : ℕ) (x : Option ℕ) (child : Child) (todo : Todo) → s.phase ≡ spawning d x child todo → Whole s y → Whole (inlined P s d x child todo) y
  inline_tallied s y d x child todo e h = inline_at s.start s.layers s.frame s.under y d x child todo (tallied_with s y _ _ _ _ refl refl e refl h)

  pub detach_tallied : (s : LayeredStrand) (y : Tally) (d : ℕ) (x : Option ℕ) (child : Child) (todo : Todo) → s.phase ≡ spawning d x child todo → Whole s y → Whole (detached P s d child) y
  detach_tallied s y d x child todo e h = detach_at s.start s.layers s.frame s.under y d x child todo (tallied_with s y _ _ _ _ refl refl e refl h)

  pub continuation_shallow : (s : LayeredStrand) (y : Tally) (x : Option ℕ) (todo : Todo) → Whole s y → IsShallowContinuation (continuation s x todo)
  continuation_shallow s y x todo h = (h.shallow.0, h.shallow.1.1)

  pub pop_tallied : (s : LayeredStrand) (y : Tally) (k : Continuation) (v : ℤ) → s.phase ≡ leaving v → s.under ≡ [] → s.start ≡ k.since → s.frame.instance ≡ place_of_continuation k → Whole s y → IsRightContinuation P tables sight lookup k → IsShallowContinuation k → Whole (resumed P s k v) y
  pop_tallied s y k v a b c d h g shallow =
      let w = resumed P s k v in
      let q = at_whole _ y (pop_at s.layers s.frame v k y d (tallied_with s y _ _ _ _ c refl a b h) g shallow) in
      let r : At s.start w.layers w.frame w.phase w.under y = subst (λ m. At m w.layers w.frame w.phase w.under y) (sym c) q in
      record { right = r.right; opens = r.opens; high = r.high; shallow = r.shallow; counted = r.counted; made = r.made }

  pub join_tallied : StretchesMultiply P tables sight lookup → (l r : LayeredStrand) (y z : Tally) (v : ℤ) (m : Place) (c : ℕ) (noted : Notes) → l.phase ≡ leaving v → l.under ≡ [] → r.start ≡ behind m c → l.frame.instance ≡ child_of m c → r.layers ≡ noted ∷ []
      → MayJoin l (joined P l v r) → Whole l y → Whole r z → Whole (joined P l v r) (tallies_joined y z)
  join_tallied law l r y z v m c noted a b e d f may hl hr =
      let w = joined P l v r in
      let q = join_tallied_at law l.start l.layers l.frame v m c noted r.frame r.phase r.under y z (tallied_with l y _ _ _ _ refl refl a b hl) (tallied_with r z _ _ _ _ e f refl refl hr) d may.0 may.1 in
      let g : At l.start w.layers w.frame w.phase w.under (tallies_joined y z) = subst (λ ls. At l.start (joined_layers P l.layers ls) w.frame w.phase w.under (tallies_joined y z)) (sym f) q in
      record { right = g.right; opens = g.opens; high = g.high; shallow = g.shallow; counted = g.counted; made = g.made }
