-- How a run comes to its end.
use Rattle.positions.specs.declared.answer.RunAnswer.{RunAnswer}
use Rattle.positions.specs.declared.answer.RunAnswer.TheVariants as answer

-- anything but a run that has not come to its end
abbrev pub HasCome : RunAnswer → Type 0
HasCome answer.Unfinished = ⊥
HasCome _ = Unit {0}

-- with its result or by a fault
abbrev pub HasEnded : RunAnswer → Type 0
HasEnded (answer.Finished v values n m k) = Unit {0}
HasEnded (answer.Fault f) = Unit {0}
HasEnded _ = ⊥
