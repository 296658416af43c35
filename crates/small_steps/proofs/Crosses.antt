-- The parts of a strand may go from thread to thread.
use denote.RattleType.{RattleType}
use denote.Param.Send.{IsSend, sendable}
use Rattle.std.proofs.Crossing.{crosses}
use Rattle.view_pool.specs.declared.view.View as View
use Rattle.activations.proofs.Crosses.{spares_send}
use Rattle.activations.proofs.activation.Activation.TheSendSync as activations
use Rattle.layers.proofs.Crosses.{tally_send, lists_send, layer_send}
use Rattle.small_steps.specs.contracts.machine.Machine as Machine

module _ (V : RattleType) (view : View.Ghosts V.Denot) (v : IsSend V) where
  pub machine_send : IsSend (Machine.the_row V view)
  machine_send = let l = layer_send in let t = tally_send in let s = spares_send in let n = lists_send in search (sendable, crosses, activations.the_send) depth 40
