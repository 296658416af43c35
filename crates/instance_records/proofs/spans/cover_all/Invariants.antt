use Rattle.std.proofs.Common.{◌≡◌, drop, map}
use Rattle.meaning.specs.Every.{every}
use Rattle.evaluation.specs.Short.{note_of}
use Rattle.instance_records.specs.Spans.{is_covered_by}
use Rattle.instance_records.proofs.spans.cover_all.Given as goal

abbrev pub invariant-loop-reading : goal.invariant-loop-reading
invariant-loop-reading l = every (is_covered_by l.spans) (map note_of l.own) ≡ every (is_covered_by l.spans) (map note_of (drop l.reading-index l.own))
