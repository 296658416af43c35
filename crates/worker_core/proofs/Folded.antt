-- The strand of a number and its right neighbour become one, or keep their product where memory is refused.
use Rattle.std.proofs.Common.{arith, ◌≡◌, ◌⊎◌, inl, inr, ℕ, suc, ◌+◌, ◌<◌, List, [], ◌∷◌, ◌++◌, All, length, take, drop, get_or, remove, insert, sym, ap, subst, ◌∙◌}
use Rattle.std.specs.Prelude.{slice_set as set}
use Rattle.std.proofs.lemmas.List.{get_or_default}
use Rattle.std.proofs.lemmas.List.Edits.{get_or-remove_below}
use Rattle.std.proofs.lemmas.List.Elements.{All-get_or, All-push}
use Rattle.monoid_laws.specs.declared.Kind.{Kind}
use Rattle.meaning.specs.Outcome.{Place}
use Rattle.meaning.specs.Strands.{BookStep, Fold}
use Rattle.positions.specs.Moves.{FoldsViews}
use Rattle.stepped_runs.specs.Halves.{IsHalfFolded, AreHalfFolded}
use Rattle.stepped_runs.specs.Pieces.{PlainPiece, place_of, may_fold, folded}
use Rattle.stepped_runs.specs.Layered.{HasOneLayer}
use Rattle.worker_core.specs.Moves.{IsFit}
use Rattle.worker_core.specs.Folds.{KeepsProducts, MayFoldAt, IsFoldedAt}
use Rattle.worker_core.specs.Strands.{layers_of, layers_in}
use Rattle.worker_core.proofs.Kits.{layers_append}
use Rattle.worker_core.proofs.Joining.{right_one, folded_fit, folded_layers, valued_fit, valued_layers}
use Rattle.worker_core.proofs.Pairs.{two_at, one_of_two, both_of_two, all_of_one, all_of_two}

-- q and r are the strand of that number and its neighbour; the neighbour has been taken out
module _ (w i : ℕ) (ps xs : List PlainPiece) (q r : PlainPiece) (within : i + 1 < length ps) (removed : xs ≡ remove ps (i + 1)) (at_left : q ≡ get_or xs i q) (at_right : r ≡ get_or ps (i + 1) r) where
  left_is : (d : PlainPiece) → q ≡ get_or ps i d
  left_is d = at_left ∙ ap (λ zs. get_or zs i q) removed ∙ get_or-remove_below ps (i + 1) q i (omega arith) within ∙ get_or_default ps i q d (omega arith)

  right_is : (d : PlainPiece) → r ≡ get_or ps (i + 1) d
  right_is d = at_right ∙ get_or_default ps (i + 1) r d within

  left_fits : (kinds : List Kind) → All (IsFit kinds) ps → IsFit kinds q
  left_fits kinds all = subst (IsFit kinds) (sym (left_is q)) (All-get_or (IsFit kinds) ps i q (omega arith) all)

  right_fits : (kinds : List Kind) → All (IsFit kinds) ps → IsFit kinds r
  right_fits kinds all = subst (IsFit kinds) (sym (right_is r)) (All-get_or (IsFit kinds) ps (i + 1) r within all)

  two_are : ps ≡ take i ps ++ q ∷ r ∷ drop (suc (suc i)) ps
  two_are = two_at ps i within q ∙ ap (λ x. take i ps ++ x ∷ get_or ps (i + 1) q ∷ drop (suc (suc i)) ps) (sym (left_is q)) ∙ ap (λ x. take i ps ++ q ∷ x ∷ drop (suc (suc i)) ps) (sym (right_is q))

  pair_layers : layers_in ps ≡ layers_in (take i ps) + (layers_of q + (layers_of r + layers_in (drop (suc (suc i)) ps)))
  pair_layers = ap layers_in two_are ∙ layers_append (take i ps) (q ∷ r ∷ drop (suc (suc i)) ps)

  pub some_layers : 0 < layers_in ps
  some_layers = let both : layers_in ps ≡ layers_in (take i ps) + (layers_of q + (layers_of r + layers_in (drop (suc (suc i)) ps))) = pair_layers in omega arith

  -- the right one has one layer
  pub right_bare : MayFoldAt i ps → All HasOneLayer ps → r.strand.lower ≡ []
  right_bare may all =
      right_one q r (ap (λ x. may_fold x r) (left_is q) ∙ ap (may_fold (get_or ps i q)) (right_is q) ∙ may q)
      (subst HasOneLayer (sym (right_is r)) (All-get_or HasOneLayer ps (i + 1) r within all))

  -- ---- the left one has become both

  module _ (v : PlainPiece) (is : v ≡ folded w q r) where
    pieces_are : (d : PlainPiece) → set xs i v ≡ take i ps ++ folded w (get_or ps i d) (get_or ps (i + 1) d) ∷ drop (suc (suc i)) ps
    pieces_are d =
        ap (λ zs. set zs i v) removed ∙ one_of_two ps i within v
        ∙ ap (λ x. take i ps ++ x ∷ drop (suc (suc i)) ps) (is ∙ ap (λ x. folded w x r) (left_is d) ∙ ap (λ x. folded w (get_or ps i d) x) (right_is d))

    pub folds_at : (kits kits' : ℕ) (h h' : List BookStep) (p n : PlainPiece) (a b : Place) → kits' ≡ kits + 1 → h' ≡ h ++ Fold a b w ∷ [] → a ≡ place_of p → p ≡ get_or ps i p → b ≡ place_of n → n ≡ get_or ps (i + 1) n
        → IsFoldedAt w i (record { pieces = ps; kits = kits; history = h }) (record { pieces = set xs i v; kits = kits'; history = h' })
    folds_at kits kits' h h' p n a b more noted first at_first second at_second d =
        ap (λ zs. record { pieces = zs; kits = kits'; history = h' }) (pieces_are d)
        ∙ ap (λ m. record { pieces = take i ps ++ folded w (get_or ps i d) (get_or ps (i + 1) d) ∷ drop (suc (suc i)) ps; kits = m; history = h' }) more
        ∙ ap (λ hs. record { pieces = take i ps ++ folded w (get_or ps i d) (get_or ps (i + 1) d) ∷ drop (suc (suc i)) ps; kits = kits + 1; history = hs })
        (noted
        ∙ ap (λ x. h ++ Fold x b w ∷ []) (first ∙ ap place_of (at_first ∙ get_or_default ps i p d (omega arith)))
        ∙ ap (λ x. h ++ Fold (place_of (get_or ps i d)) x w ∷ []) (second ∙ ap place_of (at_second ∙ get_or_default ps (i + 1) n d within)))

    pub folds_fit : (kinds : List Kind) → All (IsFit kinds) ps → All (IsFit kinds) (set xs i v)
    folds_fit kinds all =
        subst (All (IsFit kinds)) (sym (ap (λ zs. set zs i v) removed ∙ one_of_two ps i within v))
        (all_of_one (IsFit kinds) ps i v all (subst (IsFit kinds) (sym is) (folded_fit kinds w q r (left_fits kinds all))))

    -- the kit of the right one is free then
    pub folds_layers : r.strand.lower ≡ [] → layers_in (set xs i v) + 1 ≡ layers_in ps
    folds_layers one =
        let both : layers_in ps ≡ layers_in (take i ps) + (layers_of q + (layers_of r + layers_in (drop (suc (suc i)) ps))) = pair_layers in
        let then : layers_in (set xs i v) ≡ layers_in (take i ps) + layers_in (v ∷ drop (suc (suc i)) ps) =
        ap layers_in (ap (λ zs. set zs i v) removed ∙ one_of_two ps i within v) ∙ layers_append (take i ps) (v ∷ drop (suc (suc i)) ps) in
        let left : layers_of v ≡ layers_of q = ap layers_of is ∙ folded_layers w q r in
        let bare : length r.strand.lower ≡ 0 = ap length one in
        omega arith

  pub home_fits : (kinds : List Kind) (kits kits' : List (List Kind)) (kit : List Kind) → All (IsFit kinds) ps → All (λ k. k ≡ kinds) kits → kits' ≡ kits ++ kit ∷ [] → kit ≡ r.strand.layer.kinds → All (λ k. k ≡ kinds) kits'
  home_fits kinds kits kits' kit all free given is =
      let fit : IsFit kinds r = right_fits kinds all in
      subst (All (λ k. k ≡ kinds)) (sym given) (All-push (λ k. k ≡ kinds) kits kit free (is ∙ fit))

  -- ---- memory was refused, and the right one is put back

  module _ (v u : PlainPiece) (zs : List PlainPiece) (back : zs ≡ insert (set xs i v) (i + 1) u) (half : IsHalfFolded q r v u) where
    back_is : zs ≡ take i ps ++ v ∷ u ∷ drop (suc (suc i)) ps
    back_is = back ∙ ap (λ ys. insert (set ys i v) (i + 1) u) removed ∙ both_of_two ps i within v u

    halves_at : MayFoldAt i ps → FoldsViews q.strand.phase r.strand.phase → AreHalfFolded ps zs
    halves_at may views = record {
      before = take i ps;
      later = drop (suc (suc i)) ps;
      left = q;
      right = r;
      new_left = v;
      new_right = u;
      old = two_are;
      new = back_is;
      may = ap (λ x. may_fold x r) (left_is q) ∙ ap (may_fold (get_or ps i q)) (right_is q) ∙ may q;
      views = views;
      half = half;
    }

    pub halves_fit : (kinds : List Kind) → All (IsFit kinds) ps → All (IsFit kinds) zs
    halves_fit kinds all =
        subst (All (IsFit kinds)) (sym back_is)
        (all_of_two (IsFit kinds) ps i v u all
        (valued_fit kinds v.strand.layer.worths q v half.left (left_fits kinds all))
        (valued_fit kinds u.strand.layer.worths r u half.right (right_fits kinds all)))

    pub halves_layers : layers_in zs ≡ layers_in ps
    halves_layers =
        let both : layers_in ps ≡ layers_in (take i ps) + (layers_of q + (layers_of r + layers_in (drop (suc (suc i)) ps))) = pair_layers in
        let then : layers_in zs ≡ layers_in (take i ps) + layers_in (v ∷ u ∷ drop (suc (suc i)) ps) = ap layers_in back_is ∙ layers_append (take i ps) (v ∷ u ∷ drop (suc (suc i)) ps) in
        let left : layers_of v ≡ layers_of q = valued_layers v.strand.layer.worths q v half.left in
        let right : layers_of u ≡ layers_of r = valued_layers u.strand.layer.worths r u half.right in
        omega arith

    -- nothing has changed
    pub halves_same : v ≡ q → u ≡ r → zs ≡ ps
    halves_same first second = back_is ∙ ap (λ x. take i ps ++ x ∷ u ∷ drop (suc (suc i)) ps) first ∙ ap (λ x. take i ps ++ q ∷ x ∷ drop (suc (suc i)) ps) second ∙ sym two_are

    -- some reducers have moved, or none
    pub halves_keep : (kits : List (List Kind)) (total : ℕ) (h h' : List BookStep) → h' ≡ h → MayFoldAt i ps → FoldsViews q.strand.phase r.strand.phase ⊎ ((v ≡ q) × (u ≡ r))
        → KeepsProducts (record { pieces = ps; kits = kits; total = total; history = h }) (record { pieces = zs; kits = kits; total = total; history = h' })
    halves_keep kits total h h' same may (inl views) = inr (ap (λ hs. record { pieces = zs; kits = kits; total = total; history = hs }) same, halves_at may views)
    halves_keep kits total h h' same may (inr both) =
        inl (ap (λ hs. record { pieces = zs; kits = kits; total = total; history = hs }) same ∙ ap (λ xs. record { pieces = xs; kits = kits; total = total; history = h }) (halves_same both.0 both.1))
