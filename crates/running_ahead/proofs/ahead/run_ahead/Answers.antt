use Rattle.std.proofs.Common.{refl, ap, ◌∙◌, subst}
use Rattle.positions.specs.Strands.{PlainStrand}
use Rattle.activations.specs.Given.{lent}
use Rattle.running_ahead.specs.Ahead.{IsAhead}
use Rattle.running_ahead.proofs.Paths.{ahead_join}
use Rattle.running_ahead.proofs.ahead.run_ahead.Goals as goal

pub returns_to_record-requires-clause-kinds : goal.returns_to_record-requires-clause-kinds
returns_to_record-requires-clause-kinds g c κs within =
    c.leaves_for_memo.ensures.ahead.kinds ∙ ap (λ (z : PlainStrand). z.layer.kinds) c.make_nest.ensures.same ∙ c.requires.kinds

pub run_on-requires-clause-kinds : goal.run_on-requires-clause-kinds
run_on-requires-clause-kinds g c κs within =
    c.returns_to_record.ensures.ahead.kinds ∙ c.leaves_for_memo.ensures.ahead.kinds ∙ ap (λ (z : PlainStrand). z.layer.kinds) c.make_nest.ensures.same ∙ c.requires.kinds

pub returns-then-leaves_for_memo : goal.returns-then-leaves_for_memo
returns-then-leaves_for_memo g c = record {
  ahead = subst (λ (z : PlainStrand). IsAhead (lent c.args.setting) z c.leaves_for_memo.new.machine) c.make_nest.ensures.same c.leaves_for_memo.ensures.ahead;
  same = refl;
}

pub returns-then-returns_to_record : goal.returns-then-returns_to_record
returns-then-returns_to_record g c =
    let S = lent c.args.setting in
    record {
      ahead = subst (λ (z : PlainStrand). IsAhead S z c.returns_to_record.new.machine) c.make_nest.ensures.same
          (ahead_join S c.make_nest.new.machine c.leaves_for_memo.new.machine c.returns_to_record.new.machine c.leaves_for_memo.ensures.ahead c.returns_to_record.ensures.ahead);
      same = refl;
    }

pub returns : goal.returns
returns g c =
    let S = lent c.args.setting in
    record {
      ahead = subst (λ (z : PlainStrand). IsAhead S z c.run_on.new.machine) c.make_nest.ensures.same
          (ahead_join S c.make_nest.new.machine c.leaves_for_memo.new.machine c.run_on.new.machine c.leaves_for_memo.ensures.ahead
          (ahead_join S c.leaves_for_memo.new.machine c.returns_to_record.new.machine c.run_on.new.machine c.returns_to_record.ensures.ahead c.run_on.ensures.ahead));
      same = c.run_on.ensures.same;
    }
