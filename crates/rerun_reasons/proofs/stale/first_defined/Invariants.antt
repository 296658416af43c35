use Rattle.std.proofs.Common.{◌≡◌, drop}
use Rattle.rerun_reasons.specs.Reasons.{first_defined}
use Rattle.rerun_reasons.proofs.stale.first_defined.Given as goal

abbrev pub invariant-loop-entry : goal.invariant-loop-entry
invariant-loop-entry l = first_defined l.checked.revisions l.entered ≡ first_defined l.checked.revisions (drop l.entry-index l.entered)
