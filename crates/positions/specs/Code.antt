-- What stands in the code at a place.
use Rattle.std.specs.Prelude.{ℕ, nat_lt, Bool, true, false, ◌&&◌, List, [], Option, Some, None, if◌then◌else◌, slice_get, length}
use Rattle.std.specs.List.{list_any}
use Rattle.linked_program.specs.declared.code.Expression.{Expression}
use Rattle.linked_program.specs.declared.code.Operation.{Operation}
use Rattle.linked_program.specs.declared.code.Operation.TheVariants as o
use Rattle.linked_program.specs.declared.code.Instruction.{Instruction}
use Rattle.linked_program.specs.declared.code.CodeBlock.{CodeBlock}
use Rattle.linked_program.specs.declared.code.Code.{Code}
use Rattle.linked_program.specs.CodeView.{blocks_in, instruction_at}
use Rattle.positions.specs.declared.work.Position.{Position}
use Rattle.positions.specs.declared.work.Loop.{Loop}

-- a statement that enters other instances
abbrev pub enters_others : Operation → Bool
enters_others (o.Enter x way f es) = true
enters_others (o.Loop x low high grain f es) = true
enters_others _ = false

abbrev pub has_entering : Code → Bool
has_entering c = list_any (λ b. list_any (λ i. enters_others i.operation) b.instructions.items) c.blocks.items

-- whether a memo instance may have others inside: some procedure whose instances are recorded has such a statement
abbrev pub may_nest : List Code → Bool
may_nest codes = list_any (λ c. c.memo && has_entering c) codes

-- the blocks of a procedure's code
abbrev pub blocks_at : List Code → ℕ → List CodeBlock
blocks_at codes p = blocks_in (slice_get codes p)

-- the instruction at a place that has so many blocks around it; none is deeper than there are blocks
abbrev pub instruction_inside : List Code → ℕ → ℕ → Position → Option Instruction
instruction_inside codes p depth q = (if nat_lt depth (length (blocks_at codes p)) then instruction_at codes p q.block q.index else None)

-- a loop's statement
pub record PlainLoop : Type 0 where
  pub number : ℕ
  pub variable : ℕ
  pub grain : ℕ
  pub callee : ℕ
  pub arguments : List Expression

-- that of no loop
abbrev pub no_loop : PlainLoop
no_loop = record { number = 0; variable = 0; grain = 0; callee = 0; arguments = [] }

abbrev pub loop_as : ℕ → Operation → PlainLoop
loop_as n (o.Loop x low high grain f es) = record { number = n; variable = x; grain = grain; callee = f; arguments = es.items }
loop_as n _ = no_loop

abbrev pub loop_in : Option Instruction → PlainLoop
loop_in None = no_loop
loop_in (Some i) = loop_as i.number i.operation

-- the statement of a loop of a procedure
abbrev pub loop_at : List Code → ℕ → Loop → PlainLoop
loop_at codes p l = loop_in (instruction_at codes p l.block l.index)
