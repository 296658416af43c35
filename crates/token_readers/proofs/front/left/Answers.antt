use Rattle.token_readers.proofs.Never.{never_over}
use Rattle.token_readers.proofs.front.left.Goals as goal

pub returns-clause-never : goal.returns-clause-never
returns-clause-never c = never_over c.args.tokens.now
