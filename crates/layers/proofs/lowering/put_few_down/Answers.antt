use Rattle.std.proofs.Common.{rules, ◌≡◌, ◌<◌, length, false, slice_set, ap, ◌∙◌}
use Rattle.layers.proofs.Flags.{lowered, lower_next, all_lowered}
use Rattle.layers.proofs.lowering.put_few_down.Goals as goal

pub loop-i-preserved : goal.loop-i-preserved
loop-i-preserved c =
    let less : c.loop-i.i < length c.args.flags.now.items = search rules in
    c.put_down.ensures.down ∙ ap (λ zs. slice_set zs c.loop-i.i false) c.loop-i.invariant ∙ lower_next c.loop-i.i c.args.flags.now.items less

pub returns : goal.returns
returns c =
    let done : c.loop-i.i ≡ length c.args.flags.now.items = search rules in
    record { down = c.loop-i.invariant ∙ ap (λ n. lowered n c.args.flags.now.items) done ∙ all_lowered c.args.flags.now.items }
