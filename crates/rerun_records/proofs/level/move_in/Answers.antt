use Rattle.rerun_records.proofs.Homes.{kept_housed}
use Rattle.rerun_records.proofs.level.move_in.Goals as goal

pub returns-then-place-len-clause-housed : goal.returns-then-place-len-clause-housed
returns-then-place-len-clause-housed c = kept_housed c.args.homes.now.items c.add_behind.new.homes.items c.args.blocks.now.items c.add_behind.ensures.kept c.requires.housed
