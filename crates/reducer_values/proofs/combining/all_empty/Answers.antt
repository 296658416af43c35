use Rattle.std.proofs.Common.{◌≡◌, [], arith, subst, refl}
use Rattle.std.proofs.lemmas.List.{take_all}
use Rattle.std.specs.Prelude.{All}
use Rattle.std.proofs.Common.{vec_len}
use Rattle.std.proofs.lemmas.Grind.{common_steps}
use Rattle.reducer_values.proofs.JoinedPieces.{all_step, nothing_in}
use Rattle.reducer_values.proofs.combining.all_empty.Goals as goal

pub loop-piece-preserved : goal.loop-piece-preserved
loop-piece-preserved g c =
    all_step (λ p. p.items ≡ []) c.args.pieces.now c.loop-piece.piece-index c.piece-item.result c.loop-piece-test.true c.piece-item.is c.loop-piece.invariant (nothing_in c.piece-item.result.items (let z : vec_len c.piece-item.result ≡ 0 = grind (arith, common_steps) in omega (arith, z, c.piece-item.result.ok.0)))

pub returns : goal.returns
returns g c = (λ _. subst (λ l. All (λ p. p.items ≡ []) l) (take_all c.loop-piece.piece-index c.args.pieces.now c.loop-piece-test.false) c.loop-piece.invariant, λ _. refl)
