use Rattle.std.proofs.Common.{sym, ap, subst}
use Rattle.record_theory.specs.Named.{HaveValues}
use Rattle.positions.specs.Tallies.{PlainTally}
use Rattle.positions.specs.Strands.{PlainStrand}
use Rattle.strand_moves.proofs.joining.join_ended.Goals as goal

pub returns-in-Ok-clause-made : goal.returns-in-Ok-clause-made
returns-in-Ok-clause-made g c kinds left right =
    subst (λ (t : PlainTally). HaveValues kinds t.made) (sym (ap (λ (s : PlainStrand). s.tally) c.go_on_as.ensures.goes_on))
    (c.join_layers.ensures.values kinds
    (subst (λ (s : PlainStrand). HaveValues kinds s.tally.made) (sym c.machine.view_is) left)
    (subst (λ (s : PlainStrand). HaveValues kinds s.tally.made) (sym c.right.view_is) right))

pub returns-in-Err-clause-made : goal.returns-in-Err-clause-made
returns-in-Err-clause-made g c kinds left right =
    c.join_layers.ensures.values kinds
    (subst (λ (s : PlainStrand). HaveValues kinds s.tally.made) (sym c.machine.view_is) left)
    (subst (λ (s : PlainStrand). HaveValues kinds s.tally.made) (sym c.right.view_is) right)
