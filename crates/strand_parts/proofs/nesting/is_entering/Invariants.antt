use Rattle.std.proofs.Common.{◌≡◌, drop}
use Rattle.std.specs.List.{list_any}
use Rattle.linked_program.specs.declared.code.Instruction.{Instruction}
use Rattle.positions.specs.Code.{enters_others}
use Rattle.strand_parts.proofs.nesting.is_entering.Given as goal

abbrev pub invariant-loop-instruction : goal.invariant-loop-instruction
invariant-loop-instruction l = list_any (λ (i : Instruction). enters_others i.operation) l.instructions ≡ list_any (λ (i : Instruction). enters_others i.operation) (drop l.instruction-index l.instructions)
