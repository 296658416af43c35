use Rattle.std.proofs.Common.{◌≤◌, length, ap, ◌∙◌, arith}
use Rattle.positions.specs.declared.phase.Phase.TheVariants.{Running}
use Rattle.positions.specs.Strands.{PlainStrand}
use Rattle.activations.specs.Given.{lent}
use Rattle.loop_answers.proofs.Levels.{left_ahead, left_there}
use Rattle.loop_answers.proofs.descending.go_left.Goals as goal

pub returns-in-Ok-clause-ahead : goal.returns-in-Ok-clause-ahead
returns-in-Ok-clause-ahead g c =
    left_ahead (lent c.args.setting) c.args.turns.site c.args.halvings c.args.turns.share c.args.machine.now c.requires.there.running c.requires.there.work _ c.requires.halved
    (ap (λ (x : PlainStrand). record x { phase = Running }) (c.machine.view_is ∙ c.in-Ok.ensures.halved))

pub returns-in-Ok-clause-below : goal.returns-in-Ok-clause-below
returns-in-Ok-clause-below g c = record {
  within = (let some : 0 ≤ length c.args.found.now = omega arith in some);
  there = left_there (lent c.args.setting) c.args.turns.site c.args.halvings c.args.turns.share c.args.found.now c.args.machine.now c.requires.there _ c.left_of-share.result c.left_of-share.ensures.half c.left_of-share.ensures.fits c.requires.halved
      (ap (λ (x : PlainStrand). record x { phase = Running }) (c.machine.view_is ∙ c.in-Ok.ensures.halved));
}
