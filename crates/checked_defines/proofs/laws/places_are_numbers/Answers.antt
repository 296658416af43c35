use Rattle.checked_defines.proofs.Numbers.{keeps_numbers}
use Rattle.checked_defines.proofs.laws.places_are_numbers.Goals as goal

pub returns : goal.returns
returns c = record { numbers = keeps_numbers }
