use Rattle.std.proofs.Common.{◌≡◌, drop}
use Rattle.std.specs.List.{list_any}
use Rattle.instance_records.specs.Spans.{has_rows}
use Rattle.instance_records.proofs.spans.have_rows.Given as goal

abbrev pub invariant-loop-span : goal.invariant-loop-span
invariant-loop-span l = list_any (λ s. has_rows s l.other) l.spans ≡ list_any (λ s. has_rows s l.other) (drop l.span-index l.spans)
