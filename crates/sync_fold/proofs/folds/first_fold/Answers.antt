use Rattle.std.proofs.Common.{sym, ◌∙◌}
use Rattle.sync_fold.proofs.Places.{found_at, goes_on}
use Rattle.sync_fold.proofs.folds.first_fold.Goals as goal

pub loop-k-preserved : goal.loop-k-preserved
loop-k-preserved g c = goes_on c.args.lines.now c.args.laid.now c.loop-k.k c.requires.long c.loop-k-test.true (sym c.folds_here.ensures.folds ∙ c.if-folds_here.false) c.loop-k.invariant

pub returns-then-folds_here : goal.returns-then-folds_here
returns-then-folds_here g c = found_at c.args.lines.now c.args.laid.now c.loop-k.k c.requires.long c.loop-k-test.true (sym c.folds_here.ensures.folds ∙ c.if-folds_here.true) c.loop-k.invariant
