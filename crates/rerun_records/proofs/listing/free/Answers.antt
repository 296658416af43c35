use Rattle.std.proofs.Common.{sym, subst}
use Rattle.record_theory.specs.Numbers.{with_numbers}
use Rattle.rerun_records.specs.Blocks.{BlocksRemain, IsFree, PlainBlocks}
use Rattle.rerun_records.proofs.Leaves.{all_remain, counted_free}
use Rattle.rerun_records.proofs.listing.free.Goals as goal

pub returns-then-is_counted-clause-remain : goal.returns-then-is_counted-clause-remain
returns-then-is_counted-clause-remain c =
    subst (λ (b : PlainBlocks). BlocksRemain b c.args.blocks.now) (sym c.note_due.ensures.same) (all_remain c.args.blocks.now)

pub returns-then-is_counted-clause-free : goal.returns-then-is_counted-clause-free
returns-then-is_counted-clause-free c =
    subst (λ (b : PlainBlocks). IsFree c.args.place b.fine × IsFree c.args.place b.middle × IsFree c.args.place b.wide × IsFree c.args.place b.vast) (sym c.note_due.ensures.same)
    (counted_free (with_numbers c.args.numbers.now c.args._list.now) c.args.place c.args.blocks.now (c.is_counted.ensures.counted c.if-is_counted.true) c.requires.fit)

pub returns-clause-remain : goal.returns-clause-remain
returns-clause-remain c = subst (λ (b : PlainBlocks). BlocksRemain c.drop_at.new.self b) c.note_due.ensures.same c.drop_at.ensures.remain

pub returns-clause-free : goal.returns-clause-free
returns-clause-free c = c.drop_at.ensures.free
