use Rattle.std.proofs.Common.{◌≡◌, ◌<◌, ℕ, List, Some, true}
use Rattle.std.specs.Prelude.{slice_get}
use Rattle.evaluation.specs.declared.note.Note.{Note}
use Rattle.instance_records.specs.declared.spans.Span.{Span}
use Rattle.instance_records.specs.Spans.{is_covered_by}
use Rattle.instance_records.proofs.hull.Hull.joined.Given as goal

abbrev pub invariant-loop-hull : goal.invariant-loop-hull
invariant-loop-hull l = (i : ℕ) (g : List Span) (note : Note) → i < l.hull-index → slice_get l.hulls i ≡ Some g → is_covered_by g note ≡ true → is_covered_by l.spans.items note ≡ true
