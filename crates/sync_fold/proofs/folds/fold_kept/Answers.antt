use Rattle.std.proofs.Common.{sym, subst, ◌∙◌}
use Rattle.sync_fold.specs.Books.{BeginWithPair, BeginAsOne}
use Rattle.sync_fold.specs.Counts.{BeginWithOneMore}
use Rattle.sync_fold.proofs.Counting.{fold_counts}
use Rattle.sync_fold.proofs.Fitting.{two_taken, folded_taken, halved_taken}
use Rattle.sync_fold.proofs.folds.fold_kept.Goals as goal

pub join_up-requires-clause-pair : goal.join_up-requires-clause-pair
join_up-requires-clause-pair g c κs h =
    subst BeginWithPair (two_taken c.args.k c.args.laid.now.items c.take_two-left.result.0 c.take_two-left.result.1 c.requires.within c.take_two-left.ensures.left c.take_two-left.ensures.right) c.requires.pair

pub returns-in-Ok : goal.returns-in-Ok
returns-in-Ok g c = record {
  joined = subst (λ ds. BeginAsOne ds c.in-Ok.joined.0.strand)
      (sym (two_taken c.args.k c.args.laid.now.items c.take_two-left.result.0 c.take_two-left.result.1 c.requires.within c.take_two-left.ensures.left c.take_two-left.ensures.right)) c.in-Ok.ensures.joined;
  going = c.in-Ok.ensures.going;
  kit = c.in-Ok.ensures.kit;
  folded = c.take_behind.ensures.taken ∙ folded_taken c.args.k c.args.laid.now.items c.take_two-left.new.laid.items c.take_two-left.ensures.none;
  counted = fold_counts c.args.k c.args.laid.now.items c.take_behind.new.laid.items c.in-Ok.joined.0.strand c.requires.pair
      (subst (λ ds. BeginWithOneMore ds c.in-Ok.joined.0.strand)
      (sym (two_taken c.args.k c.args.laid.now.items c.take_two-left.result.0 c.take_two-left.result.1 c.requires.within c.take_two-left.ensures.left c.take_two-left.ensures.right)) c.in-Ok.ensures.counted)
      (c.take_behind.ensures.taken ∙ folded_taken c.args.k c.args.laid.now.items c.take_two-left.new.laid.items c.take_two-left.ensures.none);
  halved = tt;
}

pub returns-in-Err : goal.returns-in-Err
returns-in-Err g c = record {
  joined = tt;
  going = tt;
  kit = tt;
  folded = tt;
  counted = tt;
  halved = halved_taken c.args.k c.in-Err.pair c.in-Err.over c.in-Err.waiting c.args.laid.now.items c.take_two-left.new.laid.items c.keep_pair.new.laid.items c.take_two-left.result.0 c.take_two-left.result.1
      (two_taken c.args.k c.args.laid.now.items c.take_two-left.result.0 c.take_two-left.result.1 c.requires.within c.take_two-left.ensures.left c.take_two-left.ensures.right)
      c.in-Err.ensures.over c.in-Err.ensures.waiting c.in-Err.ensures.made c.take_two-left.ensures.none c.keep_pair.ensures.kept;
}
