use Rattle.std.proofs.Common.{◌≡◌, take}
use Rattle.source_tree.specs.Source.{texts}
use Rattle.source_tree.proofs.pool.Pool.with_parameters.Given as goal

abbrev pub invariant-loop-parameter : goal.invariant-loop-parameter
invariant-loop-parameter l = l.pool ≡ texts (take l.parameter-index l.parameters)
