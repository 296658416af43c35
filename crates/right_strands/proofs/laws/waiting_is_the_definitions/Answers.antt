use Rattle.right_strands.proofs.Waiting.{waiting_decided}
use Rattle.right_strands.proofs.laws.waiting_is_the_definitions.Goals as goal

pub returns : goal.returns
returns c = record { decided = waiting_decided }
