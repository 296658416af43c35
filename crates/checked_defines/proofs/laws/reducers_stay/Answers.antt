use Rattle.std.proofs.Common.{[]}
use Rattle.checked_defines.proofs.Puts.{reducers_stay}
use Rattle.checked_defines.proofs.laws.reducers_stay.Goals as goal

pub returns : goal.returns
returns c = record { reducers = λ source before. reducers_stay source [] before }
