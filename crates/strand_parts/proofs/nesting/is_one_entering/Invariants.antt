use Rattle.std.proofs.Common.{◌≡◌, drop}
use Rattle.std.specs.List.{list_any}
use Rattle.linked_program.specs.declared.code.Instruction.{Instruction}
use Rattle.linked_program.specs.declared.code.CodeBlock.{CodeBlock}
use Rattle.positions.specs.Code.{enters_others}
use Rattle.strand_parts.proofs.nesting.is_one_entering.Given as goal

abbrev pub invariant-loop-block : goal.invariant-loop-block
invariant-loop-block l = list_any (λ (b : CodeBlock). list_any (λ (i : Instruction). enters_others i.operation) b.instructions.items) l.blocks ≡ list_any (λ (b : CodeBlock). list_any (λ (i : Instruction). enters_others i.operation) b.instructions.items) (drop l.block-index l.blocks)
