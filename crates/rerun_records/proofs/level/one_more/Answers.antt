use Rattle.std.proofs.Common.{◌≡◌, ◌++◌, [], ◌∷◌, Option, Some, subst}
use Rattle.rerun_records.specs.Blocks.{PlainBlock, live_at}
use Rattle.rerun_records.proofs.Homes.{push_remain}
use Rattle.rerun_records.proofs.level.one_more.Goals as goal

pub returns-clause-remain : goal.returns-clause-remain
returns-clause-remain c = λ n b e.
    push_remain c.args.blocks.now.items n b
    (subst (λ (s : Option PlainBlock). live_at (c.args.blocks.now.items ++ s ∷ []) n ≡ Some b) c.new.ensures.none (subst (λ bs. live_at bs n ≡ Some b) c.in_ok-push.ensures.items e))
