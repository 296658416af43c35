-- Strands of a run, laid down or not, and what they have left, may go from thread to thread.
use denote.RattleType.{RattleType}
use denote.Param.Send.{IsSend, sendable}
use Rattle.std.proofs.Crossing.{crosses}
use Rattle.view_pool.specs.declared.view.View as View
use Rattle.frames.proofs.Crosses.{strand_send}
use Rattle.right_strands.specs.declared.run.Run as Run
use Rattle.right_strands.specs.contracts.body.Body as Body
use Rattle.right_strands.specs.contracts.laid.Piece as Piece
use Rattle.right_strands.specs.contracts.pair.Pair as Pair
use Rattle.right_strands.specs.contracts.spare.Spare as Spare
use Rattle.right_strands.specs.contracts.spare.Spares as Spares
use Rattle.right_strands.specs.contracts.strand.RightStrand as RightStrand

module _ (V : RattleType) (view : View.Ghosts V.Denot) (v : IsSend V) where
  body_send : IsSend (Body.the_field V view).row
  body_send = let s = strand_send V view v in search (sendable, crosses) depth 40

  spare_send : IsSend (Spare.the_row V view)
  spare_send = let b = body_send in search (sendable, crosses) depth 40

  pub spares_send : IsSend (Spares.the_field V view).row
  spares_send = let s = spare_send in search (sendable, crosses) depth 40

module _ (J V : RattleType) (run : Run.Ghosts J.Denot) (view : View.Ghosts V.Denot) (j : IsSend J) (v : IsSend V) where
  pub right_strand_send : IsSend (RightStrand.the_row J V run view)
  right_strand_send = let b = body_send V view v in search (sendable, crosses) depth 40

  pub piece_send : IsSend (Piece.the_row J V run view)
  piece_send = let s = right_strand_send in search (sendable, crosses) depth 40

  pub pair_send : IsSend (Pair.the_row J V run view)
  pair_send = let r = right_strand_send in search (sendable, crosses) depth 40
