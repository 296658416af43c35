-- Which strands a fold takes, or why it is refused.
use Rattle.std.proofs.Common.{arith, ◌≡◌, ℕ, suc, ◌+◌, ◌<◌, Bool, true, false, is_some, List, [], ◌∷◌, ◌++◌, length, take, drop, get_or, Option, Some, None, Result, Ok, Err, refl, sym, ap, subst, ◌∙◌, add-one}
use Rattle.std.specs.Prelude.{OnOk, IfErr}
use Rattle.std.proofs.lemmas.List.{get_or_default}
use Rattle.meaning.specs.Outcome.{Place}
use Rattle.meaning.specs.Strands.{Fold}
use Rattle.stepped_runs.specs.Pieces.{PlainPiece, place_of, may_fold, folded}
use Rattle.stepped_runs.specs.Runs.{PlainRun, is_idle, if_idle, folded_if, folded_at}
use Rattle.numbered_runs.specs.declared.refusal.Refusal.{Refusal}
use Rattle.numbered_runs.specs.declared.refusal.Refusal.TheVariants.{NotThere, NoMemory, Busy}
use Rattle.worker_core.specs.Moves.{RefusedAs}
use Rattle.worker_core.specs.Folds.{MayFoldAt, IsFoldedAt}
use Rattle.worker_core.specs.Strands.{PlainStrands, run_of, held_at, neighbour_at}
use Rattle.worker_core.proofs.Finding.{held_busy, none_idle}
use Rattle.worker_core.proofs.Neighbours.{neighbour_within, neighbour_folds, no_neighbour}

-- what a fold by a worker is
abbrev pub folding : ℕ → Place → PlainStrands → Result PlainRun Refusal
folding w q s = if_idle (is_idle w s.pieces) (folded_at w q (length s.kits) [] s.pieces s.history)

pub busy_refused : (w : ℕ) (q : Place) (s : PlainStrands) (o : Option ℕ) → o ≡ held_at w s.pieces → is_some o ≡ true → RefusedAs true (folding w q s) Busy
busy_refused w q s None e h = absurd cc
busy_refused w q s (Some i) e h =
    subst (λ b. RefusedAs true (if_idle b (folded_at w q (length s.kits) [] s.pieces s.history)) Busy) (sym (held_busy w i s.pieces (sym e))) (let same : Busy ≡ Busy = refl in same)

pub idle_there : (w : ℕ) (ps : List PlainPiece) (o : Option ℕ) → o ≡ held_at w ps → is_some o ≡ false → is_idle w ps ≡ true
idle_there w ps None e h = none_idle w ps (sym e)
idle_there w ps (Some i) e h = absurd cc

some_piece : (q : Place) (i : ℕ) (ps : List PlainPiece) → neighbour_at q ps ≡ Some i → PlainPiece
some_piece q i [] e = absurd cc
some_piece q i (p ∷ ps) e = p

module _ (w : ℕ) (q : Place) (s : PlainStrands) (idle : is_idle w s.pieces ≡ true) where
  not_there : folded_at w q (length s.kits) [] s.pieces s.history ≡ Err NotThere → RefusedAs true (folding w q s) NotThere
  not_there e =
      subst (λ r. RefusedAs true r NotThere) (sym (ap (λ b. if_idle b (folded_at w q (length s.kits) [] s.pieces s.history)) idle ∙ e)) (let same : NotThere ≡ NotThere = refl in same)

  pub no_neighbour_refused : neighbour_at q s.pieces ≡ None → RefusedAs true (folding w q s) NotThere
  no_neighbour_refused none = not_there (no_neighbour q s.pieces w (length s.kits) s.history none)

  module _ (i : ℕ) (found : neighbour_at q s.pieces ≡ Some i) where
    folds_if : (d : PlainPiece) → folded_at w q (length s.kits) [] s.pieces s.history
        ≡ folded_if (may_fold (get_or s.pieces i d) (get_or s.pieces (i + 1) d)) w (length s.kits) (take i s.pieces) (get_or s.pieces i d) (get_or s.pieces (i + 1) d) (drop (suc (suc i)) s.pieces) s.history
    folds_if d =
        subst (λ j. folded_at w q (length s.kits) [] s.pieces s.history
        ≡ folded_if (may_fold (get_or s.pieces i d) (get_or s.pieces j d)) w (length s.kits) (take i s.pieces) (get_or s.pieces i d) (get_or s.pieces j d) (drop (suc (suc i)) s.pieces) s.history) (sym (add-one i))
        (neighbour_folds q i s.pieces w (length s.kits) s.history d found)

    -- the two elements that were read
    pub may_there : (l r : PlainPiece) (b : Bool) → l ≡ get_or s.pieces i l → r ≡ get_or s.pieces (i + 1) r → b ≡ may_fold l r → (d : PlainPiece) → may_fold (get_or s.pieces i d) (get_or s.pieces (i + 1) d) ≡ b
    may_there l r b at_left at_right is d =
        let less : suc i < length s.pieces = neighbour_within q i s.pieces found in
        sym (is ∙ ap (λ x. may_fold x r) (at_left ∙ get_or_default s.pieces i l d (omega arith)) ∙ ap (may_fold (get_or s.pieces i d)) (at_right ∙ get_or_default s.pieces (i + 1) r d (omega arith)))

    pub not_foldable_refused : (d : PlainPiece) → may_fold (get_or s.pieces i d) (get_or s.pieces (i + 1) d) ≡ false → RefusedAs true (folding w q s) NotThere
    not_foldable_refused d none =
        not_there (folds_if d ∙ ap (λ b. folded_if b w (length s.kits) (take i s.pieces) (get_or s.pieces i d) (get_or s.pieces (i + 1) d) (drop (suc (suc i)) s.pieces) s.history) none)

    -- the strands after it
    abbrev one : PlainPiece → PlainRun
    one d = record {
      pieces = take i s.pieces ++ folded w (get_or s.pieces i d) (get_or s.pieces (i + 1) d) ∷ drop (suc (suc i)) s.pieces;
      kits = length s.kits + 1;
      history = s.history ++ Fold (place_of (get_or s.pieces i d)) (place_of (get_or s.pieces (i + 1) d)) w ∷ [];
    }

    folds : (d : PlainPiece) → MayFoldAt i s.pieces → folding w q s ≡ Ok (one d)
    folds d may =
        ap (λ b. if_idle b (folded_at w q (length s.kits) [] s.pieces s.history)) idle ∙ folds_if d
        ∙ ap (λ b. folded_if b w (length s.kits) (take i s.pieces) (get_or s.pieces i d) (get_or s.pieces (i + 1) d) (drop (suc (suc i)) s.pieces) s.history) (may d)

    pub fold_taken : {A : Type 0} (r : Result A Refusal) (t : PlainStrands) → MayFoldAt i s.pieces → OnOk r (IsFoldedAt w i (run_of s) (run_of t)) → OnOk r (folding w q s ≡ Ok (run_of t))
    fold_taken (Ok a) t may h = let d : PlainPiece = some_piece q i s.pieces found in folds d may ∙ ap Ok (sym (h d))
    fold_taken (Err e) t may h = tt

    pub fold_refused : {A : Type 0} (r : Result A Refusal) → MayFoldAt i s.pieces → IfErr r (λ e. e ≡ NoMemory) → IfErr r (RefusedAs true (folding w q s))
    fold_refused (Ok a) may h = tt
    fold_refused (Err e) may h = subst (λ x. RefusedAs true x e) (sym (folds (some_piece q i s.pieces found) may)) h
