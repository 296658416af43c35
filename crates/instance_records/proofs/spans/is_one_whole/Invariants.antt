use Rattle.std.proofs.Common.{◌≡◌, drop}
use Rattle.std.specs.List.{list_any}
use Rattle.instance_records.proofs.spans.is_one_whole.Given as goal

abbrev pub invariant-loop-span : goal.invariant-loop-span
invariant-loop-span l = list_any (λ s. s.whole) l.spans ≡ list_any (λ s. s.whole) (drop l.span-index l.spans)
