use Rattle.std.proofs.Common.{rules, ◌<◌, length, ap, ◌∙◌}
use Rattle.evaluation.specs.Slots.{padded}
use Rattle.small_steps.proofs.Padding.{padded_more}
use Rattle.small_steps.proofs.remembering.put_unset.Goals as goal

pub returns-in_ok-push : goal.returns-in_ok-push
returns-in_ok-push c =
    let less : length c.args.slots.now.items < c.args.size = search rules in
    record {
      same = ap (λ xs. padded c.args.size xs) c.in_ok-push.ensures.items ∙ padded_more c.args.size c.args.slots.now.items less;
    }
