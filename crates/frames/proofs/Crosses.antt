-- Strands may go from thread to thread.
use denote.RattleType.{RattleType}
use denote.Param.Send.{IsSend, sendable}
use Rattle.std.proofs.Crossing.{crosses}
use Rattle.view_pool.specs.declared.view.View as View
use Rattle.small_steps.proofs.Crosses.{machine_send}
use Rattle.frames.specs.contracts.strand.Strand as Strand

module _ (V : RattleType) (view : View.Ghosts V.Denot) (v : IsSend V) where
  pub strand_send : IsSend (Strand.the_row V view)
  strand_send = let m = machine_send in search (sendable, crosses) depth 20
