use Rattle.std.proofs.Common.{rules, ◌≡◌, length, ap, ◌∙◌}
use Rattle.layers.proofs.Flags.{raised, raise_next, keep_next, all_raised}
use Rattle.layers.proofs.joining.flag_all.Goals as goal
use Rattle.layers.proofs.joining.flag_all.Goals.{then-others-i, else-others-i}

pub loop-i-preserved : goal.loop-i-preserved
loop-i-preserved c = elim c.if-others-i.branch [
  | then-others-i w ↦ rw w.flags-is (w.put_up.ensures.up ∙ raise_next c.loop-i.i c.args.flags.now.items c.args.others.now c.loop-i.flags.items c.loop-i.invariant w.if-others-i.true)
  | else-others-i w ↦ rw w.flags-is (keep_next c.loop-i.i c.args.flags.now.items c.args.others.now c.loop-i.flags.items c.loop-i.invariant w.if-others-i.false)
]

pub returns : goal.returns
returns c =
    let done : c.loop-i.i ≡ length c.args.others.now = search rules in
    record { either = c.loop-i.invariant ∙ ap (λ n. raised n c.args.flags.now.items c.args.others.now) done ∙ all_raised c.args.flags.now.items c.args.others.now }
