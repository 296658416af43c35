-- The layer under the topmost one is changed where it lies, and taken from there.
use Rattle.std.proofs.Common.{◌≡◌, ℕ, ◌+◌, ◌<◌, ℤ, List, [], ◌∷◌, ◌++◌, length, take, reverse, get_or, set, sym, ap, ◌∙◌, arith, Result, Ok, Err, OnErr}
use Rattle.std.proofs.Math.Seq.{take-length}
use Rattle.std.proofs.lemmas.List.{length-set, reverse-append, take_more, take_more_set}
use Rattle.positions.specs.declared.phase.Phase.TheVariants.{Leaving}
use Rattle.positions.specs.Setting.{Setting}
use Rattle.positions.specs.Layers.{PlainLayer, covered}
use Rattle.positions.specs.Tallies.{PlainTally, closing}
use Rattle.positions.specs.Strands.{PlainStrand}
use Rattle.positions.specs.Advance.{closed}
use Rattle.small_steps.specs.Steps.{revalued, revalued_first, IsValued}
use Rattle.small_steps.proofs.Memos.{closed_popped}

module _ {A : Type 0} (xs : List A) (i : ℕ) (x y : A) (l : i + 1 ≡ length xs) where
  -- a list and its last element
  pub last_apart : x ≡ get_or xs i x → xs ≡ take i xs ++ x ∷ []
  last_apart e =
      let lt : i < length xs = omega arith in
      sym (take-length xs) ∙ ap (λ n. take n xs) (sym l) ∙ take_more xs i x lt ∙ ap (λ z. take i xs ++ z ∷ []) (sym e)

  -- a list whose last element is another one
  pub last_set : set xs i y ≡ take i xs ++ y ∷ []
  last_set =
      let lt : i < length xs = omega arith in
      sym (take-length (set xs i y)) ∙ ap (λ n. take n (set xs i y)) (length-set xs i y ∙ sym l) ∙ take_more_set xs i y lt

head_same : {A : Type 0} (x y : A) (xs ys : List A) → x ∷ xs ≡ y ∷ ys → x ≡ y
head_same x y xs ys e = cc

tail_same : {A : Type 0} (x y : A) (xs ys : List A) → x ∷ xs ≡ y ∷ ys → xs ≡ ys
tail_same x y xs ys e = cc

-- a layer that closes onto the one below it, which is changed where it lies and then taken
pub closed_in_place : (setting : Setting) (s : PlainStrand) (items left : List PlainLayer) (i : ℕ) (x y outer new : PlainLayer) (t : PlainTally) (v w : ℤ) → s.lower ≡ reverse items → i + 1 ≡ length items
    → x ≡ get_or items i x → set items i y ≡ left ++ outer ∷ [] → new ≡ outer → y ≡ covered x s.layer → t ≡ closing setting.program.revisions s.layer w s.tally → w ≡ v
    → record s { layer = new; lower = reverse left; phase = Leaving w; tally = t } ≡ closed setting v s
closed_in_place setting s items left i x y outer new t v w a l e f n b c d =
    let same : outer ∷ reverse left ≡ y ∷ reverse (take i items) =
    sym (reverse-append left (outer ∷ [])) ∙ ap reverse (sym f ∙ last_set items i x y l) ∙ reverse-append (take i items) (y ∷ []) in
    ap (λ ls. record s { layer = new; lower = ls; phase = Leaving w; tally = t }) (tail_same outer y (reverse left) (reverse (take i items)) same)
    ∙ closed_popped setting s items (take i items) x new t v w a (last_apart items i x y l e) (n ∙ head_same outer y (reverse left) (reverse (take i items)) same ∙ b) c d

-- where memory was refused, both layers have other values, and nothing else has changed
pub refused_in_place : (s : PlainStrand) (items : List PlainLayer) (i : ℕ) (x y top : PlainLayer) (t : PlainTally) → s.lower ≡ reverse items → i + 1 ≡ length items → x ≡ get_or items i x
    → top ≡ record s.layer { worths = top.worths } → y ≡ record x { worths = y.worths } → t ≡ s.tally
    → IsValued s (record s { layer = top; lower = reverse (set items i y); tally = t })
refused_in_place s items i x y top t a l e f g h =
    let down : s.lower ≡ x ∷ reverse (take i items) = a ∙ ap reverse (last_apart items i x y l e) ∙ reverse-append (take i items) (x ∷ []) in
    let now : reverse (set items i y) ≡ y ∷ reverse (take i items) = ap reverse (last_set items i x y l) ∙ reverse-append (take i items) (y ∷ []) in
    let lowered : reverse (set items i y) ≡ revalued_first s.lower (reverse (set items i y)) =
    now ∙ ap (λ z. z ∷ reverse (take i items)) g ∙ ap (λ ls. revalued_first ls (y ∷ reverse (take i items))) (sym down) ∙ ap (revalued_first s.lower) (sym now) in
    ap (λ (m : PlainLayer). record s { layer = m; lower = reverse (set items i y); tally = t }) f
    ∙ ap (λ ls. record s { layer = revalued s.layer top; lower = ls; tally = t }) lowered
    ∙ ap (λ u. record s { layer = revalued s.layer top; lower = revalued_first s.lower (reverse (set items i y)); tally = u }) h

-- what holds, holds of an error
pub err_given : {A E : Type 0} (P : Type 0) → P → (r : Result A E) → OnErr r P
err_given P p (Ok a) = tt
err_given P p (Err e) = p
