use Rattle.std.proofs.Common.{arith, sym, subst}
use Rattle.positions.specs.declared.work.Work.{Work}
use Rattle.positions.specs.declared.phase.Phase.TheVariants.{Running}
use Rattle.positions.specs.Activations.{at}
use Rattle.activations.specs.Given.{lent}
use Rattle.own_statements.specs.Paths.{here, IsPath, topped}
use Rattle.own_statements.proofs.Paths.{come_over, block_found}
use Rattle.own_statements.proofs.runs.ran_to.Goals as goal

pub returns-in-Over : goal.returns-in-Over
returns-in-Over c = record {
  runs = λ passes l xs. come_over (lent c.args.setting) passes c.args.top.now l c.args.top.now l (λ s may. here) (sym c.in-Over.ensures.work);
}

pub returns-in-Block : goal.returns-in-Block
returns-in-Block c =
    let S = lent c.args.setting in
    let a = c.args.top.now in
    record {
      runs = λ passes l xs. (
        λ s may. subst (λ (w : Work). IsPath S (topped Running a l s) (topped Running (at w a) l s)) (sym c.in-Block.ensures.work) here,
        block_found S.codes a c.in-Block.position.block c.procedure.result c.depth.result c.instructions-statements.result.now c.procedure.ensures.procedure c.depth.ensures.depth c.instructions-statements.ensures.found,
      );
    }

pub returns-in_default : goal.returns-in_default
returns-in_default c = record { runs = λ passes l xs. (omega arith, λ s may. here) }
