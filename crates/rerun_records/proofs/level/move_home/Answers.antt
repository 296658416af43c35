use Rattle.std.proofs.Common.{refl}
use Rattle.rerun_records.proofs.Homes.{housed_remain, moved_housed, moved_kept, kept_housed}
use Rattle.rerun_records.proofs.level.move_home.Goals as goal

pub returns-then-place-len-clause-housed : goal.returns-then-place-len-clause-housed
returns-then-place-len-clause-housed c =
    moved_housed c.args.homes.now.items _ c.drop_home.new.blocks.items c.args.place c.args.number refl c.drop_home.ensures.free
    (housed_remain c.args.homes.now.items c.drop_home.new.blocks.items c.args.blocks.now.items c.drop_home.ensures.remain c.requires.housed)

pub returns-then-place-len-clause-kept : goal.returns-then-place-len-clause-kept
returns-then-place-len-clause-kept c = λ p. moved_kept c.args.homes.now.items c.args.place c.args.number p

pub returns-else-place-len-clause-housed : goal.returns-else-place-len-clause-housed
returns-else-place-len-clause-housed c =
    kept_housed c.args.homes.now.items c.add_home.new.homes.items c.drop_home.new.blocks.items c.add_home.ensures.kept
    (housed_remain c.args.homes.now.items c.drop_home.new.blocks.items c.args.blocks.now.items c.drop_home.ensures.remain c.requires.housed)
