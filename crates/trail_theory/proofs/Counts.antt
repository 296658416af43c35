-- The trail marks the needed instances, where all records are sound, and main's strand has counted them at its end.
use Rattle.std.proofs.Common.{◌+◌, ◌≤◌, ℤ, subst, arith, List, [], ◌∷◌, ◌++◌, length, None, Ok, ◌≡◌, refl, sym, ap, ◌∙◌, append-nil}
use Rattle.meaning.specs.Tables.{Tables}
use Rattle.meaning.specs.Outcome.{Log, Accumulators, Leaves}
use Rattle.meaning.specs.Trail.{sight_of, trail_at}
use Rattle.meaning.specs.SmallStep.{root, leaving, look_of}
use Rattle.meaning.specs.Records.{Revised, Kept, IsSound, needed, executed, reused}
use Rattle.meaning.specs.Tallies.{Tally, executions, valid_record}
use Rattle.meaning.specs.LayeredStrand.{LayeredStrand}
use Rattle.trail_theory.specs.Order.{Every}
use Rattle.trail_theory.specs.ReadsAtEnd.{ReadsAtMainsEnd}
use Rattle.trail_theory.specs.Right.{stretch, RecordedAreSound}
use Rattle.trail_theory.specs.ElisionBeside.{first_fault, before_fault}
use Rattle.trail_theory.specs.Counts.{reuses, HasRecord, HasRecordOrLayer, IsCounted, MarksAreNeeded}
use Rattle.trail_theory.specs.TalliedTheorems.{IsTalliedNow, EndCountsNeeded}
use Rattle.trail_theory.proofs.FirstFaults.{quiet_first, inside_none}
use Rattle.trail_theory.proofs.Ends.{at_end}
use Rattle.trail_theory.proofs.Keys.{executions_append, reuses_append}
use Rattle.trail_theory.proofs.Counted.{empty, every_as, kept_made}
use Rattle.trail_theory.proofs.TalliedMoves.{tallied_with}
use Rattle.trail_theory.proofs.ValidRecords.{valid_recorded_are_sound}
use Rattle.trail_theory.proofs.KeptRecords.{valid_answers}
use Rattle.trail_theory.proofs.Needed.{quiet_before, marks_needed}

-- the marks of a stretch that a tally has counted are the needed instances
pub record EndMarks (program : Revised) (tables : Tables) (records : List Kept) (t : Tally) : Type 0 where
  pub here : Log
  pub counted : IsCounted t here
  pub executed_are : executions here ≡ executed program.tree (needed program tables records)
  pub reused_are : reuses here ≡ reused (needed program tables records)

module _ (program : Revised) (tables : Tables) (records : List Kept) (ruled : ReadsAtMainsEnd program.tree) (sound : Every (IsSound program) records) where
  pub valid_sound : (sight : Accumulators) → RecordedAreSound program.tree tables sight (valid_record program tables records)
  valid_sound sight = valid_recorded_are_sound program tables sight ruled (valid_record program tables records) (λ f vs depth k memo e. valid_answers program tables records sound f vs depth k e)

  pub needed_marks : (sight : Accumulators) → MarksAreNeeded program tables records sight
  needed_marks sight = marks_needed program tables sight records ruled (valid_sound sight)

  -- main's strand that is over has the marks of the whole trail
  pub end_marks : (s : LayeredStrand) (t : Tally) (v : ℤ) → s.start ≡ root → s.phase ≡ leaving v → s.under ≡ [] → s.frame.instance ≡ [] → IsTalliedNow program tables (valid_record program tables records) s t → EndMarks program tables records t
  end_marks s t v a b c d h =
      let S = sight_of program.tree tables in
      let lookup = valid_record program tables records in
      let y = tallied_with program tables S lookup s t root s.layers (leaving v) [] a refl b c h in
      let here = stretch y.right.segments in
      let last = Leaves [] (Ok v) ∷ [] in
      let T = trail_at program.tree tables S (look_of lookup) in
      let whole : here ++ last ≡ T = (at_end program.tree tables S lookup s.layers s.frame v y.right d).0 in
      let quiet : first_fault T ≡ None = ap first_fault (sym whole) ∙ quiet_first here last (inside_none root here y.right.inside) in
      let upto : before_fault T ≡ here ++ last = quiet_before program tables S records T quiet ∙ sym whole in
      let n = needed_marks S in
      record {
        here = here;
        counted = y.counted;
        executed_are = sym (append-nil (executions here)) ∙ sym (executions_append here last) ∙ ap executions (sym upto) ∙ sym n.executed_are;
        reused_are = sym (append-nil (reuses here)) ∙ sym (reuses_append here last) ∙ ap reuses (sym upto) ∙ sym n.reused_are;
      }

  -- it has counted them
  pub end_counts : EndCountsNeeded program tables records
  end_counts s t v a b c d h =
      let m = end_marks s t v a b c d h in
      record {
        executed_are = m.counted.executed_are ∙ ap length m.executed_are;
        reused_are = m.counted.reused_are ∙ ap length m.reused_are;
      }

  -- and where it has as many new records as executions, each execution has one
  pub end_kept : (s : LayeredStrand) (t : Tally) (v : ℤ) → s.start ≡ root → s.phase ≡ leaving v → s.under ≡ [] → s.frame.instance ≡ [] → IsTalliedNow program tables (valid_record program tables records) s t → t.executed ≡ length t.made → Every (HasRecord t.made) (executed program.tree (needed program tables records))
  end_kept s t v a b c d h e =
      let m = end_marks s t v a b c d h in
      let r : length t.made + length t.opened ≤ t.executed = m.counted.room in
      let none : t.opened ≡ [] = empty t.opened (omega (arith, r, e)) in
      subst (Every (HasRecord t.made)) m.executed_are (every_as (HasRecordOrLayer t.made t.opened) (HasRecord t.made) (executions m.here) (λ key k. kept_made t.made t.opened key none k) (m.counted.recorded (omega (arith, e))))
