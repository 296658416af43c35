use Rattle.std.proofs.Common.{◌≡◌, drop}
use Rattle.record_theory.specs.Counts.{is_among}
use Rattle.record_index.specs.Counts.{same_revision}
use Rattle.record_index.proofs.told.is_among.Given as goal

abbrev pub invariant-loop-other : goal.invariant-loop-other
invariant-loop-other l = is_among same_revision l.entered l.entry ≡ is_among same_revision (drop l.other-index l.entered) l.entry
