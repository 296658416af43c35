use Rattle.std.proofs.Common.{true, false, sym, subst}
use Rattle.rerun_records.specs.Line.{TellsOfOne}
use Rattle.rerun_records.proofs.HeldCells.{cell_tells, sum_tells}
use Rattle.rerun_records.proofs.line.is_in.Goals as goal

pub returns-else-not-lies_in : goal.returns-else-not-lies_in
returns-else-not-lies_in c =
    let there = c.if-not-lies_in.false in
    record {
      tells =
          subst (λ n. TellsOfOne c.args.change.now c.args.first c.args.end n true) (sym c.in-Cell.is)
          (cell_tells c.args.change.now c.args.first c.args.end c.in-Cell.table c.in-Cell.row c.in-Cell.column _ (c.lies_in.ensures.table there) (c.lies_in.ensures.row there) (c.lies_in.ensures.first there)
          (c.lies_in.ensures.end there));
    }

pub returns-in-Sum : goal.returns-in-Sum
returns-in-Sum c = record { tells = subst (λ n. TellsOfOne c.args.change.now c.args.first c.args.end n false) (sym c.in-Sum.is) (sum_tells c.args.change.now c.args.first c.args.end _ _ _) }
