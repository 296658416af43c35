use Rattle.std.proofs.Common.{◌≡◌, ◌≤◌, ◌<◌, ℕ, IfSome, length, map, get_or}
use Rattle.evaluation.specs.Short.{note_of}
use Rattle.meaning.specs.Tables.{Tables}
use Rattle.record_theory.specs.InStep.{IsInStep}
use Rattle.rerun_records.specs.Line.{AreBefore}
use Rattle.rerun_records.specs.Blocks.{BlocksFit}
use Rattle.rerun_records.specs.Settled.{Settles}
use Rattle.record_numbers.specs.Stale.{most_number}
use Rattle.record_theory.specs.Numbers.{numbers_then, with_numbers}
use Rattle.rerun_records.proofs.NumbersAt.{told_to}
use Rattle.rerun_records.proofs.telling.tell_from.Given as goal

abbrev pub invariant-loop-place : goal.invariant-loop-place
invariant-loop-place l = record {
  within : l.end ≤ length l.list;
  places : length l.numbers ≡ length l.list;
  small : (i : ℕ) → get_or l.numbers i 0 ≤ most_number;
  same : (p : ℕ) → p < l.end → get_or l.numbers p 0 ≡ get_or l.fn.numbers p 0;
  told :
      (tables : Tables) → IsInStep tables (with_numbers l.fn.numbers l.list) → AreBefore tables l.edit.lost.now l.edit.won.now
      → told_to l.edit.lost.now l.edit.won.now l.end l.numbers l.list ≡ numbers_then l.edit.lost.now l.edit.won.now l.fn.numbers l.list;
  fit : BlocksFit (with_numbers l.numbers l.list) l.blocks;
  settled : IfSome l.course.settled (λ s. Settles (map note_of s.cells.now) s.more l.edit.lost.now × Settles (map note_of s.cells.now) s.fewer l.edit.won.now);
}

abbrev pub decreases-loop-place : goal.decreases-loop-place
decreases-loop-place l = l.end
