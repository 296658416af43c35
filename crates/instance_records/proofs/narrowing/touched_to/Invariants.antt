use Rattle.std.proofs.Common.{◌≡◌, ◌≤◌, false, [], ◌∷◌, length, take, map}
use Rattle.evaluation.specs.declared.note.Note.{Note}
use Rattle.evaluation.specs.Short.{note_of}
use Rattle.record_theory.specs.InStep.{is_apart}
use Rattle.record_theory.specs.Same.{is_read}
use Rattle.instance_records.proofs.narrowing.touched_to.Given as goal

abbrev pub invariant-loop-end : goal.invariant-loop-end
invariant-loop-end l = record {
  within : l.end ≤ length l.own;
  same : (note : Note) → is_apart (l.change ∷ []) note ≡ false → is_read (map note_of (take l.end l.own)) note ≡ is_read (map note_of l.own) note;
}

abbrev pub decreases-loop-end : goal.decreases-loop-end
decreases-loop-end l = l.end
