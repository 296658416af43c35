-- Two neighbours, by the number of the left one.
use Rattle.std.proofs.Common.{arith, ◌≡◌, ℕ, suc, ◌+◌, ◌<◌, Bool, true, false, cond, List, [], ◌∷◌, ◌++◌, length, take, drop, get_or, Some, None, Result, Err, refl, sym, ap, subst, ◌∙◌, append-nil, append_assoc}
use Rattle.meaning.specs.Outcome.{Place}
use Rattle.meaning.specs.SmallStep.{same_name}
use Rattle.meaning.specs.Strands.{BookStep}
use Rattle.stepped_runs.specs.Pieces.{PlainPiece, place_of, may_fold}
use Rattle.stepped_runs.specs.Runs.{PlainRun, folded_if, folded_at}
use Rattle.numbered_runs.specs.declared.refusal.Refusal.{Refusal}
use Rattle.numbered_runs.specs.declared.refusal.Refusal.TheVariants.{NotThere}
use Rattle.worker_core.specs.Strands.{behind_from, neighbour_at}

-- the fold of the strand of that number and the next
abbrev fold_in : ℕ → ℕ → List PlainPiece → List BookStep → PlainPiece → List PlainPiece → ℕ → Result PlainRun Refusal
fold_in w kits before h d ps j = folded_if (may_fold (get_or ps j d) (get_or ps (suc j) d)) w kits (before ++ take j ps) (get_or ps j d) (get_or ps (suc j) d) (drop (suc (suc j)) ps) h

-- the first strand that begins at the place, of those behind l
pub record Beside (q : Place) (k i : ℕ) (l : PlainPiece) (ps : List PlainPiece) : Type 0 where
  pub place : ℕ
  pub is : i ≡ k + place
  pub within : place < length ps
  pub folds : (w kits : ℕ) (before : List PlainPiece) (h : List BookStep) (d : PlainPiece) → folded_at w q kits before (l ∷ ps) h ≡ fold_in w kits before h d (l ∷ ps) place

beside_here : (q : Place) (k i : ℕ) (l r : PlainPiece) (ps : List PlainPiece) → same_name (place_of r) q ≡ true → k ≡ i → Beside q k i l (r ∷ ps)
beside_here q k i l r ps h e = record {
  place = 0;
  is = (omega arith);
  within = (omega arith);
  folds = λ w kits before hs d. ap (λ b. cond b (folded_if (may_fold l r) w kits before l r ps hs) (folded_at w q kits (before ++ l ∷ []) (r ∷ ps) hs)) h ∙ ap (λ bs. folded_if (may_fold l r) w kits bs l r ps hs) (sym (append-nil before));
}

beside_later : (q : Place) (k i : ℕ) (l r : PlainPiece) (ps : List PlainPiece) → same_name (place_of r) q ≡ false → Beside q (suc k) i r ps → Beside q k i l (r ∷ ps)
beside_later q k i l r ps h b = let e : i ≡ suc k + b.place = b.is in let less : b.place < length ps = b.within in record {
  place = suc b.place;
  is = (omega arith);
  within = (omega arith);
  folds = λ w kits before hs d. ap (λ c. cond c (folded_if (may_fold l r) w kits before l r ps hs) (folded_at w q kits (before ++ l ∷ []) (r ∷ ps) hs)) h
      ∙ b.folds w kits (before ++ l ∷ []) hs d
      ∙ ap (λ bs. folded_if (may_fold (get_or (r ∷ ps) b.place d) (get_or ps b.place d)) w kits bs (get_or (r ∷ ps) b.place d) (get_or ps b.place d) (drop (suc b.place) ps) hs) (append_assoc before (l ∷ []) (take b.place (r ∷ ps)));
}

beside_by : (q : Place) (k i : ℕ) (l r : PlainPiece) (ps : List PlainPiece) (b : Bool) → same_name (place_of r) q ≡ b → (behind_from q (suc k) ps ≡ Some i → Beside q (suc k) i r ps) → cond b (Some k) (behind_from q (suc k) ps) ≡ Some i → Beside q k i l (r ∷ ps)
beside_by q k i l r ps true h later e = let s : k ≡ i = cc in beside_here q k i l r ps h s
beside_by q k i l r ps false h later e = beside_later q k i l r ps h (later e)

beside : (q : Place) (k i : ℕ) (l : PlainPiece) (ps : List PlainPiece) → behind_from q k ps ≡ Some i → Beside q k i l ps
beside q k i l [] e = absurd cc
beside q k i l (r ∷ ps) e = beside_by q k i l r ps (same_name (place_of r) q) refl (beside q (suc k) i r ps) e

place_is : (q : Place) (i : ℕ) (l : PlainPiece) (ps : List PlainPiece) (b : Beside q 0 i l ps) → b.place ≡ i
place_is q i l ps b = let e : i ≡ 0 + b.place = b.is in omega arith

pub neighbour_within : (q : Place) (i : ℕ) (ps : List PlainPiece) → neighbour_at q ps ≡ Some i → suc i < length ps
neighbour_within q i [] e = absurd cc
neighbour_within q i (l ∷ ps) e =
    let b : Beside q 0 i l ps = beside q 0 i l ps e in
    let less : i < length ps = subst (λ j. j < length ps) (place_is q i l ps b) b.within in
    omega arith

pub neighbour_folds : (q : Place) (i : ℕ) (ps : List PlainPiece) (w kits : ℕ) (h : List BookStep) (d : PlainPiece) → neighbour_at q ps ≡ Some i → folded_at w q kits [] ps h ≡ fold_in w kits [] h d ps i
neighbour_folds q i [] w kits h d e = absurd cc
neighbour_folds q i (l ∷ ps) w kits h d e =
    let b : Beside q 0 i l ps = beside q 0 i l ps e in
    subst (λ j. folded_at w q kits [] (l ∷ ps) h ≡ fold_in w kits [] h d (l ∷ ps) j) (place_is q i l ps b) (b.folds w kits [] h d)

none_by : (q : Place) (k : ℕ) (r : PlainPiece) (ps : List PlainPiece) (b : Bool) → same_name (place_of r) q ≡ b → cond b (Some k) (behind_from q (suc k) ps) ≡ None → (same_name (place_of r) q ≡ false) × (behind_from q (suc k) ps ≡ None)
none_by q k r ps true h e = absurd cc
none_by q k r ps false h e = (h, e)

none_from : (q : Place) (k : ℕ) (l : PlainPiece) (ps : List PlainPiece) (w kits : ℕ) (before : List PlainPiece) (h : List BookStep) → behind_from q k ps ≡ None → folded_at w q kits before (l ∷ ps) h ≡ Err NotThere
none_from q k l [] w kits before h e = refl
none_from q k l (r ∷ ps) w kits before h e =
    let both = none_by q k r ps (same_name (place_of r) q) refl e in
    ap (λ c. cond c (folded_if (may_fold l r) w kits before l r ps h) (folded_at w q kits (before ++ l ∷ []) (r ∷ ps) h)) both.0 ∙ none_from q (suc k) r ps w kits (before ++ l ∷ []) h both.1

pub no_neighbour : (q : Place) (ps : List PlainPiece) (w kits : ℕ) (h : List BookStep) → neighbour_at q ps ≡ None → folded_at w q kits [] ps h ≡ Err NotThere
no_neighbour q [] w kits h e = refl
no_neighbour q (l ∷ ps) w kits h e = none_from q 0 l ps w kits [] h e
