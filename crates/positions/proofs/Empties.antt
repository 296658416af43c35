-- Pieces that are all empty are worth nothing.
use Rattle.std.proofs.Common.{◌≡◌, ℤ, Bool, true, false, cond, ◌&&◌, List, [], ◌∷◌, ◌++◌, refl, sym, ap, ◌∙◌}
use Rattle.std.specs.Prelude.{int_lt}
use Rattle.std.specs.Ordering.{int_eq}
use Rattle.std.specs.Cmp.Lexicographic.{pointwise}
use Rattle.monoid_laws.specs.Kinds.{joined, merged, merge, add_at}
use Rattle.positions.specs.Values.{same_pair}
use Rattle.positions.specs.Identities.{is_nil, are_nil}

as_none : {A : Type 0} (eq : A → A → Bool) (xs : List A) → pointwise eq xs [] ≡ is_nil xs
as_none eq [] = refl
as_none eq (x ∷ xs) = refl

none_of_both : {A : Type 0} (xs ys : List A) → is_nil (xs ++ ys) ≡ (is_nil xs && is_nil ys)
none_of_both [] ys = refl
none_of_both (x ∷ xs) ys = refl

none_joined : (ps : List (List ℤ)) → is_nil (joined ps) ≡ are_nil ps
none_joined [] = refl
none_joined (p ∷ ps) = none_of_both p (joined ps) ∙ ap (λ b. is_nil p && b) (none_joined ps)

some_by : {A : Type 0} (b c : Bool) (x y z : A) (xs ys zs : List A) → is_nil (cond b (x ∷ xs) (cond c (y ∷ ys) (z ∷ zs))) ≡ false
some_by true c x y z xs ys zs = refl
some_by false true x y z xs ys zs = refl
some_by false false x y z xs ys zs = refl

some_added : (k v : ℤ) (es : List (ℤ × ℤ)) → is_nil (add_at k v es) ≡ false
some_added k v [] = refl
some_added k v (e ∷ es) = some_by (int_lt k e.0) (int_lt e.0 k) _ _ _ _ _ _

none_merged_two : (xs ys : List (ℤ × ℤ)) → is_nil (merge xs ys) ≡ (is_nil xs && is_nil ys)
none_merged_two [] ys = refl
none_merged_two (x ∷ xs) ys = some_added x.0 x.1 (merge xs ys)

none_merged : (ps : List (List (ℤ × ℤ))) → is_nil (merged ps) ≡ are_nil ps
none_merged [] = refl
none_merged (p ∷ ps) = none_merged_two p (merged ps) ∙ ap (λ b. is_nil p && b) (none_merged ps)

pub no_items : (ps : List (List ℤ)) → are_nil ps ≡ pointwise int_eq (joined ps) []
no_items ps = sym (as_none int_eq (joined ps) ∙ none_joined ps)

pub no_amounts : (ps : List (List (ℤ × ℤ))) → are_nil ps ≡ pointwise same_pair (merged ps) []
no_amounts ps = sym (as_none same_pair (merged ps) ∙ none_merged ps)
