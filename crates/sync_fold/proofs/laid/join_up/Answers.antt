use Rattle.std.proofs.Common.{ap}
use Rattle.right_strands.specs.Rightness.{PlainRight}
use Rattle.sync_fold.proofs.Counting.{have_one_more}
use Rattle.sync_fold.proofs.Fitting.{made_of}
use Rattle.sync_fold.proofs.laid.join_up.Goals as goal

pub returns-in-Ok-clause-counted : goal.returns-in-Ok-clause-counted
returns-in-Ok-clause-counted g c =
    have_one_more c.args.left c.args.right c.pair_up-pair.result.0 c.in-Ok.joined.0.strand c.requires.pair c.pair_up-pair.ensures.pair c.in-Ok.ensures.one_layer (ap (λ (s : PlainRight). s.strand) c.in-Ok.ensures.joined)

pub returns-in-Err-clause-made : goal.returns-in-Err-clause-made
returns-in-Err-clause-made g c = made_of c.args.left c.args.right c.pair_up-pair.result.0 c.in-Err.pair c.pair_up-pair.ensures.pair c.in-Err.ensures.still
