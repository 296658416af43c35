use Rattle.strand_tests.proofs.Names.{goes_on}
use Rattle.strand_tests.proofs.tests.deques.push_at.Goals as goal

pub push-requires-clause-goes_on : goal.push-requires-clause-goes_on
push-requires-clause-goes_on g c κs within = goes_on c.args.depth
