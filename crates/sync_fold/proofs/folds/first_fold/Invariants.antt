use Rattle.std.proofs.Common.{◌≡◌, drop}
use Rattle.strand_list.specs.Pages.{shown}
use Rattle.sync_fold.specs.Books.{fold_among}
use Rattle.sync_fold.proofs.folds.first_fold.Given as goal

abbrev pub invariant-loop-k : goal.invariant-loop-k
invariant-loop-k g l = fold_among (shown l.lines) l.laid ≡ fold_among (shown (drop l.k l.lines)) (drop l.k l.laid)
