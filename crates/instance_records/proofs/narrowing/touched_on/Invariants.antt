use Rattle.std.proofs.Common.{◌≡◌, ◌≤◌, ◌-◌, false, [], ◌∷◌, length, drop, map}
use Rattle.evaluation.specs.declared.note.Note.{Note}
use Rattle.evaluation.specs.Short.{note_of}
use Rattle.record_theory.specs.InStep.{is_apart}
use Rattle.record_theory.specs.Same.{is_read}
use Rattle.instance_records.proofs.narrowing.touched_on.Given as goal

abbrev pub invariant-loop-first : goal.invariant-loop-first
invariant-loop-first l = record {
  within : l.first ≤ length l.own;
  same : (note : Note) → is_apart (l.change ∷ []) note ≡ false → is_read (map note_of (drop l.first l.own)) note ≡ is_read (map note_of l.own) note;
}

abbrev pub decreases-loop-first : goal.decreases-loop-first
decreases-loop-first l = length l.own - l.first
