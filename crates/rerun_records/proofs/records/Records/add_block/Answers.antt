use Rattle.std.proofs.Common.{sym, subst}
use Rattle.rerun_records.specs.Blocks.{BlockFits}
use Rattle.record_theory.specs.Numbers.{with_numbers}
use Rattle.rerun_records.proofs.Leaves.{added_blocks_fit, still_fit}
use Rattle.rerun_records.proofs.records.Records.add_block.Goals as goal

pub invariant_of-self : goal.invariant_of-self
invariant_of-self c =
    let records = with_numbers c.self.inside.numbers.items c.self.inside.list.items in
    (c.self.invariant.0, still_fit records c.self.inside.blocks c.have_kinds.new.self c.self.invariant.1 c.have_kinds.ensures.remain, c.self.invariant.2, c.self.invariant.3, c.self.invariant.4)

pub invariant_of-self-2 : goal.invariant_of-self-2
invariant_of-self-2 c =
    let records = with_numbers c.self.inside.numbers.items c.self.inside.list.items in (
      c.self.invariant.0,
      added_blocks_fit records c.self.inside.blocks c.have_kinds.new.self c.add.new.self c.args.kinds.now c.args.block c.self.invariant.1 c.have_kinds.ensures.remain c.in_ok-have_kinds.ensures.kinds
          (subst (λ rs. BlockFits c.args.kinds.now rs c.args.block) (sym c.self.view_is) c.requires.fits) c.add.ensures.kinds c.add.ensures.fine c.add.ensures.middle c.add.ensures.wide c.add.ensures.vast,
      c.self.invariant.2,
      c.self.invariant.3,
      c.self.invariant.4,
    )
