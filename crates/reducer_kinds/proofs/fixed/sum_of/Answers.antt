use Rattle.std.specs.Int.{w64}
use Rattle.std.proofs.lemmas.Int.{wrapping_add_is}
use Rattle.reducer_kinds.proofs.fixed.sum_of.Goals as goal

pub returns : goal.returns
returns c = wrapping_add_is w64 c.args.a c.args.b c.ranges.a c.ranges.b
