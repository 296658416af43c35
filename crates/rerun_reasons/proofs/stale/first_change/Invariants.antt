use Rattle.std.proofs.Common.{◌≡◌, drop}
use Rattle.rerun_reasons.specs.Reasons.{first_change}
use Rattle.rerun_reasons.proofs.stale.first_change.Given as goal

abbrev pub invariant-loop-note : goal.invariant-loop-note
invariant-loop-note l = first_change l.tables.tables l.notes ≡ first_change l.tables.tables (drop l.note-index l.notes)
