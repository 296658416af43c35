use Rattle.stepped_runs.proofs.Layered.{strands_layered}
use Rattle.stepped_runs.proofs.laws.strands_are_layered.Goals as goal

pub returns : goal.returns
returns c = record { one = strands_layered }
