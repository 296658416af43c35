use Rattle.std.proofs.Common.{rules, ◌≡◌, ◌++◌}
use Rattle.reducer_values.proofs.JoinedPieces.{joined_behind}
use Rattle.reducer_values.proofs.joining.join_pieces.Goals as goal

pub loop-piece-preserved : goal.loop-piece-preserved
loop-piece-preserved c =
    let m : c.extend_from_slice.new.self.items ≡ c.loop-piece.list.items ++ c.piece-item.result.items = search rules in
    record {
      so_far = joined_behind (λ p. p.items) c.args.pieces.now c.loop-piece.piece-index c.piece-item.result c.args.list.now.items c.loop-piece.list.items c.extend_from_slice.new.self.items
          c.loop-piece-test.true c.piece-item.is c.loop-piece.invariant.so_far m;
      length_was = c.loop-piece.invariant.length_was;
    }
