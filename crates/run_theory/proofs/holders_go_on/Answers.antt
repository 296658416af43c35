use Rattle.run_theory.proofs.Holders.{holders_go_on}
use Rattle.run_theory.proofs.holders_go_on.Goals as goal

pub returns : goal.returns
returns c = record { goes = holders_go_on }
