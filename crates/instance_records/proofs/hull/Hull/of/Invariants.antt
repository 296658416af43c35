use Rattle.std.proofs.Common.{◌≡◌, take, true}
use Rattle.meaning.specs.Every.{every}
use Rattle.instance_records.specs.Spans.{is_covered_by}
use Rattle.instance_records.proofs.hull.Hull.of.Given as goal

abbrev pub invariant-loop-record : goal.invariant-loop-record
invariant-loop-record l = every (λ r. every (is_covered_by l.spans.items) r.reads) (take l.record-index l.records) ≡ true
