use Rattle.std.proofs.Common.{◌≡◌, drop}
use Rattle.evaluation.specs.Short.{note_of}
use Rattle.instance_records.specs.Spans.{is_covered_by}
use Rattle.instance_records.proofs.spans.cover.Given as goal

abbrev pub invariant-loop-span : goal.invariant-loop-span
invariant-loop-span l = is_covered_by l.spans (note_of l.reading) ≡ is_covered_by (drop l.span-index l.spans) (note_of l.reading)
