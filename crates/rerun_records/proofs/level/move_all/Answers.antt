use Rattle.std.proofs.Common.{◌∙◌}
use Rattle.rerun_records.specs.Blocks.{is_home}
use Rattle.rerun_records.proofs.Homes.{remain_then, one_more_home}
use Rattle.rerun_records.proofs.level.move_all.Goals as goal

pub loop-place-preserved : goal.loop-place-preserved
loop-place-preserved c =
    let l = c.loop-place in
    record {
      housed = c.move_in.ensures.housed;
      remain = remain_then c.move_in.new.blocks.items l.blocks.items c.args.blocks.now.items c.move_in.ensures.remain l.invariant.remain;
      count = c.move_in.ensures.count ∙ l.invariant.count;
      there = one_more_home (is_home l.homes.items c.args.number) (is_home c.move_in.new.homes.items c.args.number) c.args.places.now l.place-index _ c.loop-place-test.true c.move_in.ensures.kept l.invariant.there
          c.in_ok-move_in.ensures.there;
    }
