-- Codes apart from what may be tried with their instances.
use Rattle.std.specs.Prelude.{ℕ, Bool, List}
use Rattle.linked_program.specs.declared.code.CodeBlock.{CodeBlock}
use Rattle.linked_program.specs.declared.code.Code.{Code}

-- whether the instances are recorded, how many slots they have, and the blocks
abbrev pub bare : Code → Bool × ℕ × List CodeBlock
bare c = (c.memo, c.slots, c.blocks.items)
