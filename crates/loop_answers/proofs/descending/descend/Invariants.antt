use Rattle.std.proofs.Common.{◌≤◌, length, drop}
use Rattle.activations.specs.Given.{lent}
use Rattle.loop_answers.specs.Ahead.{IsAnsweredAhead}
use Rattle.loop_answers.specs.Levels.{IsAtHalf}
use Rattle.loop_answers.proofs.descending.descend.Given as goal

abbrev pub invariant-loop : goal.invariant-loop
invariant-loop g l = record {
  within : l.passed ≤ length l.found;
  ahead : IsAnsweredAhead (lent l.setting) l.fn.machine l.machine;
  there : IsAtHalf (lent l.setting) l.turns.site l.descent.halvings l.share (drop l.passed l.found) l.machine;
}
