-- Instances may go from thread to thread.
use denote.Param.Send.{IsSend, sendable}
use Rattle.std.proofs.Crossing.{crosses}
use Rattle.activations.proofs.activation.Activation.TheSendSync as activations
use Rattle.activations.specs.contracts.spares.Spares as Spares

pub spares_send : IsSend (Spares.the_field).row
spares_send = search (sendable, crosses, activations.the_send) depth 20
