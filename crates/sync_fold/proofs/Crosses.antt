-- The list of strands, with those that are laid down in it, may go from thread to thread.
use denote.RattleType.{RattleType}
use denote.Param.Send.{IsSend, sendable}
use Rattle.std.proofs.Crossing.{crosses}
use Rattle.view_pool.specs.declared.view.View as View
use Rattle.right_strands.specs.declared.run.Run as Run
use Rattle.right_strands.proofs.Crosses.{piece_send, pair_send, spares_send}
use Rattle.sync_fold.specs.contracts.book.Book as Book

module _ (J V : RattleType) (run : Run.Ghosts J.Denot) (view : View.Ghosts V.Denot) (j : IsSend J) (v : IsSend V) where
  pub book_send : IsSend (Book.the_row J V run view)
  book_send =
      let one = piece_send J V run view j v in
      let two = pair_send J V run view j v in
      let spares = spares_send V view v in
      search (sendable, crosses) depth 40 fits 4000
