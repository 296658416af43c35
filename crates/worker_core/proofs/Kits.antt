-- How many kits the layers of strands have.
use Rattle.std.proofs.Common.{arith, ◌≡◌, ℕ, zero, suc, ◌+◌, ◌≤◌, ◌<◌, List, [], ◌∷◌, ◌++◌, length, take, drop, get_or, sym, ap, ◌∙◌}
use Rattle.std.specs.Prelude.{slice_set as set}
use Rattle.std.proofs.lemmas.List.{set_split}
use Rattle.stepped_runs.specs.Pieces.{PlainPiece}
use Rattle.worker_core.specs.Strands.{layers_of, layers_in}

pub layers_append : (xs ys : List PlainPiece) → layers_in (xs ++ ys) ≡ layers_in xs + layers_in ys
layers_append [] ys = omega arith
layers_append (x ∷ xs) ys = let rest : layers_in (xs ++ ys) ≡ layers_in xs + layers_in ys = layers_append xs ys in omega arith

-- the strand of a number, and those around it
pub layers_around : (ps : List PlainPiece) (i : ℕ) (d : PlainPiece) → i < length ps → layers_in ps ≡ layers_in (take i ps) + (layers_of (get_or ps i d) + layers_in (drop (suc i) ps))
layers_around [] i d less = absurd (omega arith)
layers_around (p ∷ ps) zero d less = omega arith
layers_around (p ∷ ps) (suc i) d less =
    let rest : layers_in ps ≡ layers_in (take i ps) + (layers_of (get_or ps i d) + layers_in (drop (suc i) ps)) = layers_around ps i d (omega arith) in omega arith

module _ (ps : List PlainPiece) (i : ℕ) (p : PlainPiece) (less : i < length ps) (at : p ≡ get_or ps i p) where
  layers_there : layers_in ps ≡ layers_in (take i ps) + (layers_of p + layers_in (drop (suc i) ps))
  layers_there = layers_around ps i p less ∙ ap (λ x. layers_in (take i ps) + (layers_of x + layers_in (drop (suc i) ps))) (sym at)

  -- the kits of one strand are among those of all
  pub piece_layers : layers_of p ≤ layers_in ps
  piece_layers = let there : layers_in ps ≡ layers_in (take i ps) + (layers_of p + layers_in (drop (suc i) ps)) = layers_there in omega arith

  -- one strand changes
  pub set_layers : (q : PlainPiece) → layers_in (set ps i q) + layers_of p ≡ layers_in ps + layers_of q
  set_layers q =
      let there : layers_in ps ≡ layers_in (take i ps) + (layers_of p + layers_in (drop (suc i) ps)) = layers_there in
      let then : layers_in (set ps i q) ≡ layers_in (take i ps) + (layers_of q + layers_in (drop (suc i) ps)) = ap layers_in (set_split ps i q less) ∙ layers_append (take i ps) (q ∷ drop (suc i) ps) in
      omega arith
