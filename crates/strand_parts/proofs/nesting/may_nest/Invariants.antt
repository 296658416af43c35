use Rattle.std.proofs.Common.{◌≡◌, drop, ◌&&◌}
use Rattle.std.specs.List.{list_any}
use Rattle.linked_program.specs.declared.code.Code.{Code}
use Rattle.positions.specs.Code.{has_entering}
use Rattle.strand_parts.proofs.nesting.may_nest.Given as goal

abbrev pub invariant-loop-code : goal.invariant-loop-code
invariant-loop-code l = list_any (λ (c : Code). c.memo && has_entering c) l.codes ≡ list_any (λ (c : Code). c.memo && has_entering c) (drop l.code-index l.codes)
