use Rattle.std.proofs.Common.{drop}
use Rattle.std.specs.List.{AllByRecursion}
use Rattle.linked_program.specs.Fitting.{BlockFits}
use Rattle.linked_program.proofs.fitting.blocks_fit.Given as goal

abbrev pub invariant-loop-block : goal.invariant-loop-block
invariant-loop-block l = AllByRecursion BlockFits (drop l.block-index l.blocks) → AllByRecursion BlockFits l.blocks
