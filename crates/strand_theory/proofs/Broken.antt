-- Strands with a fault: the trail from where such a strand began has that fault first.
use Rattle.std.proofs.Common.{◌-◌, ℕ, List, [], ◌∷◌, ◌++◌, Some, Ok, Err, ℤ, ◌≡◌, sym, ap, ap₂, ◌∙◌, append_assoc}
use Rattle.meaning.specs.Tree.{Tree}
use Rattle.meaning.specs.Tables.{Tables}
use Rattle.meaning.specs.Outcome.{Log, Accumulators, Fault, Outcome, Place, Leaves, Faults, Out}
use Rattle.meaning.specs.Statements.{initial_values}
use Rattle.meaning.specs.Elision.{from_scratch, answer_of, Faulted, main, start, elide, depth_limit}
use Rattle.meaning.specs.Trail.{child_of, first, run, sight_of, trail_at}
use Rattle.meaning.specs.SmallStep.{Start, root, behind, Frame, leaving, broken, Parent, Lookup, look_of}
use Rattle.meaning.specs.Layers.{Notes}
use Rattle.trail_theory.specs.SerialRest.{below}
use Rattle.trail_theory.specs.Right.{stretch, RightAt}
use Rattle.trail_theory.specs.ElisionBeside.{first_fault, Fits}
use Rattle.trail_theory.specs.ReadsAtEnd.{ReadsAtMainsEnd}
use Rattle.trail_theory.proofs.Order.{same_split}
use Rattle.trail_theory.proofs.Advances.{ordered_at}
use Rattle.trail_theory.proofs.FirstFaults.{quiet_first, inside_none}
use Rattle.trail_theory.proofs.MainElides.{begun, trail_from_scratch}
use Rattle.strand_theory.specs.Faults.{BrokenAt}

module _ (program : Tree) (tables : Tables) (sight : Accumulators) (lookup : Lookup) where
  abbrev T : Log
  T = trail_at program tables sight (look_of lookup)

  pub right_broken : (m : Start) (ls : List Notes) (fr : Frame) (k : Fault) (t : List Parent) → RightAt program tables sight lookup m ls fr (broken k) t → BrokenAt program tables sight lookup m k
  right_broken m ls fr k t h =
      let o = Err (first h.top.doom k) in
      record {
        before = h.before;
        done = stretch h.segments;
        beyond = (Leaves fr.instance o ∷ (below program tables sight (look_of lookup) t h.others o).events) ++ h.beyond;
        is_trail = h.is_trail;
        starts = h.starts;
        quiet = inside_none m (stretch h.segments) h.inside;
      }

  -- a fault behind a strand that is over
  pub broken_behind : (m : Start) (ls : List Notes) (fr : Frame) (v : ℤ) (n : Place) (c : ℕ) (k : Fault) → RightAt program tables sight lookup m ls fr (leaving v) [] → fr.instance ≡ child_of n c → BrokenAt program tables sight lookup (behind n c) k → BrokenAt program tables sight lookup m k
  broken_behind m ls fr v n c k hl named hr =
      let e = fr.instance in
      let here = stretch hl.segments in
      let there = hr.done ++ Faults k ∷ hr.beyond in
      let f : (hl.before ++ here) ++ Leaves e (Ok v) ∷ hl.beyond ≡ T = append_assoc hl.before here (Leaves e (Ok v) ∷ hl.beyond) ∙ hl.is_trail in
      let b : hr.before ≡ hr.starts.sooner ++ Leaves e hr.starts.value ∷ [] = rw named hr.starts.is in
      let f' : hr.starts.sooner ++ Leaves e hr.starts.value ∷ there ≡ T = sym (append_assoc hr.starts.sooner (Leaves e hr.starts.value ∷ []) there) ∙ ap (λ l. l ++ there) (sym b) ∙ hr.is_trail in
      let q = same_split e (hl.before ++ here) hl.beyond hr.starts.sooner there (Ok v) hr.starts.value (ordered_at program tables sight lookup _ f) (ordered_at program tables sight lookup _ f') (f ∙ sym f') in
      let seam : hl.before ++ (here ++ Leaves e (Ok v) ∷ []) ≡ hr.before = sym (append_assoc hl.before here (Leaves e (Ok v) ∷ [])) ∙ ap₂ (λ a w. a ++ Leaves e w ∷ []) q.sooner q.value ∙ sym b in
      let g : (hl.before ++ (here ++ Leaves e (Ok v) ∷ [])) ++ there ≡ T = ap (λ l. l ++ there) seam ∙ hr.is_trail in
      record {
        before = hl.before;
        done = here ++ Leaves e (Ok v) ∷ hr.done;
        beyond = hr.beyond;
        is_trail = simp append_assoc (simp append_assoc at g);
        starts = hl.starts;
        quiet = quiet_first here (Leaves e (Ok v) ∷ hr.done) (inside_none m here hl.inside) ∙ hr.quiet;
      }

  -- ---- at the trail's beginning

  pub answer_is : (o : Out Fault ℤ) (k : Fault) (w : Outcome) → Fits o T w → first_fault T ≡ Some k → o.answer ≡ Err k
  answer_is o k (Ok v) h e = absurd cc
  answer_is o k (Err j) h e = let q : j ≡ k = cc in h.0 ∙ ap Err q

  first_is : (k : Fault) → BrokenAt program tables sight lookup root k → first_fault T ≡ Some k
  first_is k h =
      let e : h.done ++ Faults k ∷ h.beyond ≡ T = ap (λ b. b ++ (h.done ++ Faults k ∷ h.beyond)) (sym h.starts) ∙ h.is_trail in
      ap first_fault (sym e) ∙ quiet_first h.done (Faults k ∷ h.beyond) h.quiet

  pub as_faulted : (acc : Accumulators) (o : Out Fault ℤ) (k : Fault) → o.answer ≡ Err k → answer_of acc o ≡ Faulted k
  as_faulted acc o k e = ap (λ r. answer_of acc (record { log = o.log; answer = r })) e

pub broken_from_scratch : (program : Tree) (tables : Tables) (lookup : Lookup) → ReadsAtMainsEnd program → (k : Fault) → BrokenAt program tables (sight_of program tables) lookup root k → from_scratch program tables ≡ Faulted k
unfolding from_scratch
broken_from_scratch program tables lookup ruled k h =
    let S = sight_of program tables in
    let o = elide program tables depth_limit start main [] (initial_values program) in
    as_faulted program tables S lookup (initial_values program) o k
    (answer_is program tables S lookup (begun program o) k (run program tables S (depth_limit - 1) (look_of lookup) main [] []).outcome (trail_from_scratch program tables ruled (look_of lookup)) (first_is program tables S lookup k h))
