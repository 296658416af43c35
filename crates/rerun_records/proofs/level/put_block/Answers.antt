use Rattle.std.proofs.Common.{rules, ◌≡◌, inr, true, ap, subst}
use Rattle.std.specs.Prelude.{slice_set}
use Rattle.meaning.specs.Every.{every}
use Rattle.rerun_records.specs.Blocks.{is_home}
use Rattle.rerun_records.proofs.Homes.{remain_then, dropped_remain, put_added, put_housed}
use Rattle.rerun_records.proofs.level.put_block.Goals as goal

pub returns-clause-added : goal.returns-clause-added
returns-clause-added c =
    let mid = c.move_all.new.blocks.items in
    let dropped = c.drop_numbered.new.blocks.items in
    let numbered = c.number_for.new.blocks.items in
    let before = c.args.blocks.now.items in
    put_added _ mid before c.in_ok-number.number c.args.block (ap (slice_set mid c.in_ok-number.number) c.fill.ensures.block)
    (remain_then mid dropped before c.move_all.ensures.remain (remain_then dropped numbered before (dropped_remain dropped numbered c.in_ok-number.number c.drop_numbered.ensures.dropped) c.number_for.ensures.remain))

pub returns-in_err-move_all-clause-added : goal.returns-in_err-move_all-clause-added
returns-in_err-move_all-clause-added c =
    let mid = c.move_all.new.blocks.items in
    let dropped = c.drop_numbered.new.blocks.items in
    let numbered = c.number_for.new.blocks.items in
    let before = c.args.blocks.now.items in
    λ n b e.
    inr (remain_then mid dropped before c.move_all.ensures.remain (remain_then dropped numbered before (dropped_remain dropped numbered c.in_ok-number.number c.drop_numbered.ensures.dropped) c.number_for.ensures.remain) n b e)

pub returns-clause-housed : goal.returns-clause-housed
returns-clause-housed c =
    let homes = c.move_all.new.homes.items in
    let places : c.places-2.result.now ≡ c.args.block.places = search rules in
    put_housed homes _ c.move_all.new.blocks.items c.in_ok-number.number c.args.block (ap (slice_set c.move_all.new.blocks.items c.in_ok-number.number) c.fill.ensures.block) (subst (λ ps. every (is_home homes c.in_ok-number.number) ps ≡ true) places c.in_ok-move_all.ensures.there) c.move_all.ensures.housed
