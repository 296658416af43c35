-- Blocks by their numbers, and what doesn't depend on the blocks inside.
use Rattle.std.proofs.Common.{◌≡◌, ℕ, zero, suc, ◌-◌, List, Some, slice_get, refl, ap, arith}
use Rattle.meaning.specs.declared.tree.Block.{Block}
use Rattle.meaning.specs.declared.tree.Action.TheVariants as a
use Rattle.meaning.specs.TreeView.{statements, statements_of, block}

pub block_found : (blocks : List Block) (levels n : ℕ) (b : Block) → (levels ≡ 0 → ⊥) → slice_get blocks n ≡ Some b → block blocks levels n ≡ statements (block blocks (levels - 1)) b.statements.items
block_found blocks zero n b some e = absurd (some refl)
block_found blocks (suc levels) n b some e = let same : suc levels - 1 ≡ levels = omega arith in rw same (ap (statements_of (block blocks levels)) e)
