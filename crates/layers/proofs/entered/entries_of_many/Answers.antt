use Rattle.std.proofs.Common.{rules, ◌++◌, ap, ◌∙◌, drop, ◌+◌}
use Rattle.positions.specs.Tallies.{entries_from}
use Rattle.instance_records.specs.Parts.{entries_in}
use Rattle.layers.proofs.Touches.{entry_next, entry_passed, entries_all}
use Rattle.layers.proofs.entered.entries_of_many.Goals as goal
use Rattle.layers.proofs.entered.entries_of_many.Goals.{then-flags-procedure+in_ok-push_entry, else-flags-procedure}

pub loop-procedure-preserved : goal.loop-procedure-preserved
loop-procedure-preserved c = elim c.if-flags-procedure.branch [
  | then-flags-procedure+in_ok-push_entry w ↦
      entry_next (entries_in c.loop-procedure.entries) c.loop-procedure.procedure c.args.program.now.revisions c.args.flags.now c.loop-procedure.invariant
      (entries_in c.if-flags-procedure.entries) c.loop-procedure-test.true w.if-flags-procedure.true (ap entries_in w.entries-is ∙ w.in_ok-push_entry.ensures.pushed)
  | else-flags-procedure w ↦
      ap (λ v. entries_in v ++ entries_from (c.loop-procedure.procedure + 1) (drop (c.loop-procedure.procedure + 1) c.args.program.now.revisions) (drop (c.loop-procedure.procedure + 1) c.args.flags.now)) w.entries-is
      ∙ entry_passed (entries_in c.loop-procedure.entries) c.loop-procedure.procedure c.args.program.now.revisions c.args.flags.now c.loop-procedure.invariant
      c.loop-procedure-test.true w.if-flags-procedure.false
]

pub returns : goal.returns
returns c = record {
  entries = c.shrink_to_fit.ensures.same ∙ entries_all (entries_in c.loop-procedure.entries) c.loop-procedure.procedure c.args.program.now.revisions c.args.flags.now c.loop-procedure.invariant (search rules);
}
