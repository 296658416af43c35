use Rattle.rerun_records.proofs.Homes.{dropped_remain, dropped_free, homeless_free, home_there, home_beyond}
use Rattle.rerun_records.proofs.level.drop_home.Goals as goal

pub returns-in-Some-clause-remain : goal.returns-in-Some-clause-remain
returns-in-Some-clause-remain c = dropped_remain c.drop_numbered.new.blocks.items c.args.blocks.now.items c.in-Some.home.now c.drop_numbered.ensures.dropped

pub returns-in-Some-clause-free : goal.returns-in-Some-clause-free
returns-in-Some-clause-free c =
    dropped_free c.args.homes.now c.drop_numbered.new.blocks.items c.args.blocks.now.items c.args.place c.in-Some.home.now (home_there c.args.homes.now c.args.place c.in-Some.home.now c.in-Some.ensures.lookup.3.0 c.in-Some.ensures.lookup.1) c.drop_numbered.ensures.dropped c.requires.housed

pub returns-in-None-clause-free : goal.returns-in-None-clause-free
returns-in-None-clause-free c = homeless_free c.args.homes.now c.args.blocks.now.items c.args.place (home_beyond c.args.homes.now c.args.place c.in-None.ensures.lookup.3) c.requires.housed
