use Rattle.std.proofs.Common.{sym, subst}
use Rattle.record_theory.specs.Named.{HaveValues}
use Rattle.positions.specs.Strands.{PlainStrand}
use Rattle.strand_moves.proofs.joining.join_broken.Goals as goal

pub returns-clause-made : goal.returns-clause-made
returns-clause-made g c kinds left right =
    c.take_over.ensures.values kinds
    (subst (λ (s : PlainStrand). HaveValues kinds s.tally.made) (sym c.machine.view_is) left)
    (subst (λ (s : PlainStrand). HaveValues kinds s.tally.made) (sym c.right.view_is) right)

pub returns-in-Err-clause-made : goal.returns-in-Err-clause-made
returns-in-Err-clause-made g c kinds left right =
    c.take_over.ensures.values kinds
    (subst (λ (s : PlainStrand). HaveValues kinds s.tally.made) (sym c.machine.view_is) left)
    (subst (λ (s : PlainStrand). HaveValues kinds s.tally.made) (sym c.right.view_is) right)
