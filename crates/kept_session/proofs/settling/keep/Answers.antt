use Rattle.std.proofs.Common.{ap, map, sym, subst, ◌∙◌}
use Rattle.record_theory.specs.Record.{as_made}
use Rattle.record_theory.specs.Named.{HaveValues, CommitsNamed}
use Rattle.record_index.specs.Indexed.{PlainIndexed, IsIndexed}
use Rattle.kept_session.proofs.settling.keep.Goals as goal

pub returns-clause-committed : goal.returns-clause-committed
returns-clause-committed c = ap (λ (x : PlainIndexed). map as_made x.records) c.gather.ensures.same ∙ c.in_ok-commit.ensures.committed

pub returns-clause-indexed : goal.returns-clause-indexed
returns-clause-indexed c = subst (IsIndexed c.args.program.now.revisions c.args.tables.now.tables) (sym c.gather.ensures.same) c.in_ok-commit.ensures.indexed

pub returns-clause-named : goal.returns-clause-named
returns-clause-named c =
    subst (λ (x : PlainIndexed). CommitsNamed c.args.program.now c.args.records.now.records c.args.made.items x.records) (sym c.gather.ensures.same) c.in_ok-commit.ensures.named

pub returns-clause-values : goal.returns-clause-values
returns-clause-values c = λ kinds h i. subst (λ (x : PlainIndexed). HaveValues kinds x.records) (sym c.gather.ensures.same) (c.in_ok-commit.ensures.values kinds h i)
