use Rattle.std.proofs.Common.{◌≡◌, drop}
use Rattle.meaning.specs.Every.{every}
use Rattle.record_theory.specs.Validity.{has_revision}
use Rattle.record_theory.proofs.validity.are_current.Given as goal

abbrev pub invariant-loop-entry : goal.invariant-loop-entry
invariant-loop-entry l = every (has_revision l.program.revisions) l.entered ≡ every (has_revision l.program.revisions) (drop l.entry-index l.entered)
