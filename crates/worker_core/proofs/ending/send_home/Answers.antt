use Rattle.std.proofs.Common.{arith, ◌≡◌, ◌+◌, [], ◌∷◌, Some, ap, ◌∙◌}
use Rattle.std.proofs.lemmas.List.Elements.{All-pop}
use Rattle.worker_core.specs.Moves.{IsFit}
use Rattle.worker_core.specs.Strands.{layers_in}
use Rattle.worker_core.proofs.Kits.{layers_append}
use Rattle.worker_core.proofs.ending.send_home.Goals as goal

pub end-requires-clause-room : goal.end-requires-clause-room
end-requires-clause-room g c κs within =
    let taken : layers_in c.loop-piece.pieces.items ≡ layers_in c.pop.new.self.items + layers_in (c.in-Some.piece ∷ []) = ap layers_in c.in-Some.ensures.items ∙ layers_append c.pop.new.self.items (c.in-Some.piece ∷ []) in
    omega (arith, taken, c.loop-piece.invariant.free, c.loop-piece.invariant.total, c.requires.room)

pub loop-piece-preserved : goal.loop-piece-preserved
loop-piece-preserved g c =
    let taken : layers_in c.loop-piece.pieces.items ≡ layers_in c.pop.new.self.items + layers_in (c.in-Some.piece ∷ []) = ap layers_in c.in-Some.ensures.items ∙ layers_append c.pop.new.self.items (c.in-Some.piece ∷ []) in
    record {
      free = omega (arith, taken, c.end.ensures.home, c.loop-piece.invariant.free);
      total = c.end.ensures.total ∙ c.loop-piece.invariant.total;
      pieces = λ kinds fit. (All-pop (IsFit kinds) c.loop-piece.pieces.items c.pop.new.self.items (Some c.in-Some.piece) c.in-Some.ensures.items (c.loop-piece.invariant.pieces kinds fit)).0;
      kits = λ kinds fit all.
          let one : IsFit kinds c.in-Some.piece = (All-pop (IsFit kinds) c.loop-piece.pieces.items c.pop.new.self.items (Some c.in-Some.piece) c.in-Some.ensures.items (c.loop-piece.invariant.pieces kinds fit)).1 in
          c.end.ensures.kinds kinds one (c.loop-piece.invariant.kits kinds fit all);
    }
