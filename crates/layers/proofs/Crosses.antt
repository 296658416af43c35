-- Layers and tallies may go from thread to thread.
use denote.RattleType.{RattleType}
use denote.Param.Send.{IsSend, sendable}
use Rattle.std.proofs.Crossing.{crosses}
use Rattle.evaluation.proofs.notes.Notes.TheSendSync as notes
use Rattle.hypermaps.proofs.Hypermap.TheSendSync as hypermaps
use Rattle.instance_records.proofs.arguments.Arguments.TheSendSync as arguments
use Rattle.instance_records.proofs.entries.Entries.TheSendSync as entries
use Rattle.instance_records.proofs.Sharing.{readings_send, record_send}
use Rattle.view_pool.specs.declared.view.View as View
use Rattle.layers.proofs.recording.Opened.TheSendSync as openings
use Rattle.layers.specs.contracts.layer.Layer as Layer
use Rattle.layers.specs.contracts.spares.SpareLists as SpareLists
use Rattle.layers.specs.contracts.tally.Tally as Tally

pub tally_send : IsSend (Tally.the_field).row
tally_send = let r = record_send in search (sendable, crosses, openings.the_send, arguments.the_send, entries.the_field_send) depth 20

pub lists_send : IsSend (SpareLists.the_field).row
lists_send = search (sendable, crosses, notes.the_send) depth 20

module _ (V : RattleType) (view : View.Ghosts V.Denot) (v : IsSend V) where
  pub layer_send : IsSend (Layer.the_row V view)
  layer_send = let r = readings_send in search (sendable, crosses, notes.the_send, hypermaps.the_send) depth 20
