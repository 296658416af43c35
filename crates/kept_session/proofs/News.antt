-- The new records of a run, as the theory of runs tells of them: they may be put among a session's.
use Rattle.std.proofs.Common.{List, [], ◌∷◌}
use Rattle.meaning.specs.Records.{Kept}
use Rattle.trail_theory.specs.Order.{Every}
use Rattle.trail_theory.specs.OpenLayers.{IsNewRecord}
use Rattle.linked_program.specs.Checked.{PlainChecked, revised_of}
use Rattle.input_tables.specs.Edited.{Edited}
use Rattle.record_theory.specs.Record.{PlainRecord}
use Rattle.record_theory.specs.Named.{AreKept}
use Rattle.kept_session.specs.Sessions.{IsRightNow, AreNewFor}

module _ (program : PlainChecked) (tables : Edited) where
  right_now : (ks : List Kept) → Every (IsNewRecord (revised_of program) tables.tables) ks → Every (IsRightNow (revised_of program) tables.tables) ks
  right_now [] h = tt
  right_now (k ∷ ks) h = (record { sound = h.0.sound; now = h.0.now }, right_now ks h.1)

  pub are_new : (ks : List Kept) (made : List PlainRecord) → AreKept program ks made → Every (IsNewRecord (revised_of program) tables.tables) ks → AreNewFor program tables made
  are_new ks made stand news = record { kept = ks; stand = stand; right = right_now ks news }
