use Rattle.std.proofs.Common.{◌≡◌, drop}
use Rattle.std.specs.List.{list_any}
use Rattle.instance_records.specs.Spans.{lies_in}
use Rattle.instance_records.proofs.spans.has_one.Given as goal

abbrev pub invariant-loop-change : goal.invariant-loop-change
invariant-loop-change l = list_any (λ c. lies_in c l.span) l.changes ≡ list_any (λ c. lies_in c l.span) (drop l.change-index l.changes)
