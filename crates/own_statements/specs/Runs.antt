-- Runs of an instance from block to block.
use Rattle.std.specs.Prelude.{◌≡◌, ℕ, Bool, List, Some, None, slice_get, length}
use Rattle.linked_program.specs.declared.code.Instruction.{Instruction}
use Rattle.linked_program.specs.declared.code.Code.{Code}
use Rattle.positions.specs.declared.work.Position.{Position}
use Rattle.positions.specs.declared.work.Work.TheVariants.{Block}
use Rattle.positions.specs.Activations.{PlainActivation, at, next_of}
use Rattle.positions.specs.Code.{instruction_inside}
use Rattle.positions.specs.Layers.{PlainLayer}
use Rattle.positions.specs.Setting.{Setting}
use Rattle.own_statements.specs.Paths.{ComesTo, StopsBy, IsInBlock}
use Rattle.own_statements.specs.declared.ran.Ran.{Ran}
use Rattle.own_statements.specs.declared.ran.Ran.TheVariants.{On, Gave, Stopped}
use Rattle.own_statements.specs.declared.ran.Ended.{Ended}
use Rattle.own_statements.specs.declared.ran.Ended.TheVariants as ended
use Rattle.own_statements.specs.declared.ran.Inside.{Inside}
use Rattle.own_statements.specs.declared.ran.Inside.TheVariants as inside

-- the statements of a block of that number, for an instance with its procedure and the blocks around it
abbrev pub IsBlock : List Code → PlainActivation → ℕ → List Instruction → Type 0
IsBlock codes a block xs = (index : ℕ) → slice_get xs index ≡ instruction_inside codes a.procedure (length a.outer) (record { block = block; index = index })

-- the statements of a procedure's body
abbrev pub IsBody : List Code → ℕ → List Instruction → Type 0
IsBody codes p body = (index : ℕ) → slice_get body index ≡ instruction_inside codes p 0 (record { block = 0; index = index })

-- an instance comes so far in any strand, where syncs may be passed: to that position, to that value, or as far as it could
abbrev pub RunsTo : Setting → Bool → PlainActivation → PlainLayer → Ran → PlainActivation → List PlainActivation → PlainLayer → Type 0
RunsTo setting passes a l (On p xs) b ys m = ComesTo setting passes a l None (at (Block p) b) m × IsBlock setting.codes b p.block xs.now
RunsTo setting passes a l (Gave v) b ys m = ComesTo setting passes a l (Some v) b m
RunsTo setting passes a l (Stopped n) b ys m = StopsBy setting passes a l n b ys m

-- to that value, or as far as it could
abbrev pub EndsBy : Setting → Bool → PlainActivation → PlainLayer → Ended → PlainActivation → List PlainActivation → PlainLayer → Type 0
EndsBy setting passes a l (ended.Gave v) b ys m = ComesTo setting passes a l (Some v) b m
EndsBy setting passes a l (ended.Stopped n) b ys m = StopsBy setting passes a l n b ys m

-- what came of the statement at a position: nothing; the instance that it called is over, and the next statement of the block is next; or that
-- instance has more to do
abbrev pub CallsTo : Setting → Bool → Position → PlainActivation → PlainLayer → Inside → PlainActivation → List PlainActivation → PlainLayer → Type 0
CallsTo setting passes p a l inside.Nothing b ys m = (b ≡ a) × (m ≡ l)
CallsTo setting passes p a l inside.Back b ys m = IsInBlock a b × ComesTo setting passes (at (Block p) a) l None (at (Block (next_of p)) b) m
CallsTo setting passes p a l (inside.Stays n) b ys m = StopsBy setting passes (at (Block p) a) l n b ys m
