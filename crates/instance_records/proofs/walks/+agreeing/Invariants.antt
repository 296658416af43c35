use Rattle.std.proofs.Common.{◌≡◌, drop}
use Rattle.std.specs.List.{flat_map}
use Rattle.meaning.specs.Every.{every}
use Rattle.instance_records.specs.Readings.{shared_notes}
use Rattle.record_theory.specs.Validity.{note_agrees}
use Rattle.instance_records.proofs.walks.+agreeing.Given as goal

abbrev pub invariant-parts_agree-loop-part : goal.invariant-parts_agree-loop-part
invariant-parts_agree-loop-part l = every (note_agrees l.tables.tables) (flat_map shared_notes l.parts) ≡ every (note_agrees l.tables.tables) (flat_map shared_notes (drop l.part-index l.parts))
