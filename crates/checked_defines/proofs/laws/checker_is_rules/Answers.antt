use Rattle.checked_defines.proofs.Rules.{checks}
use Rattle.checked_defines.proofs.laws.checker_is_rules.Goals as goal

pub returns : goal.returns
returns c = record { rules = checks }
