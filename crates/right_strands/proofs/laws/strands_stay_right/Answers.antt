use Rattle.right_strands.proofs.Staying.{stay_right}
use Rattle.right_strands.proofs.laws.strands_stay_right.Goals as goal

pub returns : goal.returns
returns c = record { stay = stay_right }
