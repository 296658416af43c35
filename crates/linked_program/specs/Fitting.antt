-- The parts of a Rust tree whose numbers fit 64 bits.
use Rattle.std.specs.Prelude.{ℕ}
use Rattle.std.specs.List.{AllByRecursion}
use Rattle.monoid_laws.specs.Kinds.{Fits}
use Rattle.meaning.specs.declared.tree.Block.{Block}
use Rattle.meaning.specs.declared.tree.Declaration.{Declaration}
use Rattle.meaning.specs.declared.tree.Declaration.TheVariants as d
use Rattle.meaning.specs.Tree.{Body}
use Rattle.meaning.specs.TreeView.{statements, proc}
use Rattle.meaning.specs.Fitting.{FitsBody}

-- whatever blocks stand inside, where their numbers fit
abbrev pub BlockFits : Block → Type 0
BlockFits b = (inner : ℕ → Body) → ((n : ℕ) → FitsBody (inner n)) → FitsBody (statements inner b.statements.items)

abbrev pub DeclarationFits : Declaration → Type 0
DeclarationFits (d.Reducer r) = AllByRecursion Fits r.initial.items
DeclarationFits (d.Procedure p) = FitsBody (proc p).body
