use Rattle.activations.specs.Given.{lent}
use Rattle.loop_answers.specs.Ahead.{IsAnsweredAhead}
use Rattle.loop_answers.proofs.answering.answer_halves.Given as goal

abbrev pub invariant-loop : goal.invariant-loop
invariant-loop g l = record { ahead : IsAnsweredAhead (lent l.setting) l.fn.machine l.machine }
