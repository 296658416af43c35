use Rattle.std.proofs.Common.{refl, sym, ◌∙◌}
use Rattle.std.proofs.lemmas.Bool.Decides.{Decides-eqb}
use Rattle.rerun_records.proofs.Leaves.{zeroed_fits, dropped_fits}
use Rattle.rerun_records.proofs.telling.renumber.Goals as goal

pub returns-then-is_fresh-clause-fit : goal.returns-then-is_fresh-clause-fit
returns-then-is_fresh-clause-fit c = zeroed_fits c.args.numbers.now _ c.args.list.now c.args.place c.args.number refl c.args.blocks.now ((Decides-eqb c.args.number 0).0 (sym c.is_fresh.ensures.fresh ∙ c.if-is_fresh.true)) c.requires.fit

pub returns-clause-fit : goal.returns-clause-fit
returns-clause-fit c =
    dropped_fits c.args.numbers.now _ c.args.list.now c.args.place c.args.number refl c.drop_at.new.self c.args.blocks.now c.requires.fit c.drop_at.ensures.remain c.drop_at.ensures.free.0 c.drop_at.ensures.free.1
    c.drop_at.ensures.free.2 c.drop_at.ensures.free.3
