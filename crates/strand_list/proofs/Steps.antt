-- Which steps are taken, and what a history leaves.
use Rattle.std.proofs.Common.{◌≡◌, ℕ, Bool, true, false, not, ◌&&◌, List, [], ◌∷◌, ◌++◌, Some, refl, sym, ap, ◌∙◌, bytes_eq}
use Rattle.std.specs.Prelude.{reverse}
use Rattle.std.proofs.lemmas.List.{reverse-append}
use Rattle.meaning.specs.Every.{every}
use Rattle.meaning.specs.Outcome.{Place}
use Rattle.meaning.specs.Strands.{Held, Line, Fold, Book, is_free, may_fold, becomes, folds, if_allowed}
use Rattle.strand_list.specs.declared.laid_state.LaidState.TheVariants as laid_state
use Rattle.strand_list.specs.Pages.{removes, Apart}
use Rattle.strand_lines.specs.Lines.{is_unused}
use Rattle.strand_list.specs.Steps.{Takes}
use Rattle.strand_list.proofs.Lists.{folds_apart}

-- ---- places that were split off, the last first

every_snoc : (f : Place → Bool) (xs : List Place) (x : Place) → every f (xs ++ x ∷ []) ≡ (f x && every f xs)
every_snoc f [] x = refl
every_snoc f (y ∷ xs) x = ap (λ b. f y && b) (every_snoc f xs x) ∙ swap (f y) (f x) (every f xs)
  where
    swap : (a b c : Bool) → (a && (b && c)) ≡ (b && (a && c))
    swap true b c = refl
    swap false true c = refl
    swap false false c = refl

every_reverse : (f : Place → Bool) (xs : List Place) → every f (reverse xs) ≡ every f xs
every_reverse f [] = refl
every_reverse f (x ∷ xs) = ap (every f) (reverse-append (x ∷ []) xs) ∙ every_snoc f (reverse xs) x ∙ ap (λ b. f x && b) (every_reverse f xs)

pub unused_reverse : (n : Place) (used : List Place) → is_unused n (reverse used) ≡ is_unused n used
unused_reverse n used = every_reverse (λ p. not (bytes_eq p n)) used

-- ---- each kind of step

taken : (g : Bool) (ls : List Line) (used : List Place) (c : Book) → g ≡ true → c.lines ≡ ls → c.split_off ≡ used → if_allowed g ls used ≡ Some c
taken g ls used c e f h = ap (λ g. if_allowed g ls used) e ∙ ap (λ ls. Some (record { lines = ls; split_off = used })) (sym f) ∙ ap (λ used. Some (record { lines = c.lines; split_off = used })) (sym h)

pub fold_taken : (b c : Book) (l r : Place) (w : ℕ) → Apart b.lines → (may_fold b.lines l r && is_free b.lines w) ≡ true → c.lines ≡ becomes (Held w) (removes b.lines r) l → c.split_off ≡ b.split_off → Takes b (Fold l r w) true c
fold_taken b c l r w a e f h = taken (may_fold b.lines l r && is_free b.lines w) (folds b.lines l r w) b.split_off c e (f ∙ sym (folds_apart l r w b.lines a)) h
