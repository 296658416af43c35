-- A line that is found by its number is that of the first statement of the number.
use Rattle.std.proofs.Common.{◌≡◌, ℕ, zero, suc, Bool, true, false, cond, ◌==◌, List, [], ◌∷◌, Option, Some, None, slice_get, slice_set, replicate, length, ◌⊎◌, inl, inr, refl, ap, sym, ◌∙◌, subst}
use Rattle.std.proofs.lemmas.Bool.{eqb-true, eqb-false}
use Rattle.linked_program.specs.Bodies.{line_of}
use Rattle.single_rules.specs.Filled.{is_free, with_line, filled, indexed}

get_set_same : {A : Type 0} → (t : List A) (n : ℕ) (x y : A) → slice_get t n ≡ Some y → slice_get (slice_set t n x) n ≡ Some x
get_set_same [] n x y e = cc
get_set_same (z ∷ zs) zero x y e = refl
get_set_same (z ∷ zs) (suc n) x y e = get_set_same zs n x y e

get_set_other : {A : Type 0} → (t : List A) (k n : ℕ) (x : A) → (k ≡ n → ⊥) → slice_get (slice_set t k x) n ≡ slice_get t n
get_set_other [] k n x h = refl
get_set_other (z ∷ zs) zero zero x h = absurd (h refl)
get_set_other (z ∷ zs) zero (suc n) x h = refl
get_set_other (z ∷ zs) (suc k) zero x h = refl
get_set_other (z ∷ zs) (suc k) (suc n) x h = get_set_other zs k n x (λ e. h (ap suc e))

free_is : (o : Option (Option ℕ)) → is_free o ≡ true → o ≡ Some None
free_is None e = cc
free_is (Some None) e = refl
free_is (Some (Some x)) e = cc

abbrev slot : Option (Option ℕ) → ℕ → Option (Option ℕ)
slot None l = None
slot (Some None) l = Some (Some l)
slot (Some (Some x)) l = Some (Some x)

slot_taken : (o : Option (Option ℕ)) (l : ℕ) → is_free o ≡ false → o ≡ slot o l
slot_taken None l e = refl
slot_taken (Some None) l e = cc
slot_taken (Some (Some x)) l e = refl

kept_at : (t : List (Option ℕ)) (k l n : ℕ) (f b : Bool) → is_free (slice_get t k) ≡ f → (k == n) ≡ b → slice_get (cond f (slice_set t k (Some l)) t) n ≡ cond b (slot (slice_get t n) l) (slice_get t n)
kept_at t k l n true true e q =
    let same = eqb-true k n q in
    let here = free_is (slice_get t k) e in
    rw (sym same) (get_set_same t k (Some l) None here ∙ sym (ap (λ o. slot o l) here))
kept_at t k l n true false e q = get_set_other t k n (Some l) (eqb-false k n q)
kept_at t k l n false true e q = let same = eqb-true k n q in rw (sym same) (slot_taken (slice_get t k) l e)
kept_at t k l n false false e q = refl

solve : (b : Bool) (o : Option (Option ℕ)) (m l r : ℕ) → (cond b (slot o m) o ≡ Some (Some l)) ⊎ ((is_free (cond b (slot o m) o) ≡ true) × (r ≡ l)) → (o ≡ Some (Some l)) ⊎ ((is_free o ≡ true) × (cond b m r ≡ l))
solve false o m l r h = h
solve true None m l r (inl e) = inl e
solve true None m l r (inr e) = absurd (let q = e.0 in cc)
solve true (Some None) m l r (inl e) = inr (refl, let q : m ≡ l = cc in q)
solve true (Some None) m l r (inr e) = absurd (let q = e.0 in cc)
solve true (Some (Some x)) m l r (inl e) = inl e
solve true (Some (Some x)) m l r (inr e) = absurd (let q = e.0 in cc)

filled_line : (t : List (Option ℕ)) (ls : List (ℕ × ℕ)) (n l : ℕ) → slice_get (filled t ls) n ≡ Some (Some l) → (slice_get t n ≡ Some (Some l)) ⊎ ((is_free (slice_get t n) ≡ true) × (line_of ls n ≡ l))
filled_line t [] n l e = inl e
filled_line t (p ∷ ps) n l e =
    let at = kept_at t p.0 p.1 n (is_free (slice_get t p.0)) (p.0 == n) refl refl in
    solve (p.0 == n) (slice_get t n) p.1 l (line_of ps n)
    (subst (λ o. (o ≡ Some (Some l)) ⊎ ((is_free o ≡ true) × (line_of ps n ≡ l))) at (filled_line (with_line t p.0 p.1) ps n l e))

none_yet : (k n l : ℕ) → slice_get (replicate k None) n ≡ Some (Some l) → ⊥
none_yet zero n l e = cc
none_yet (suc k) zero l e = cc
none_yet (suc k) (suc n) l e = none_yet k n l e

line_found : (ls : List (ℕ × ℕ)) (n l : ℕ) → (slice_get (replicate (length ls) None) n ≡ Some (Some l)) ⊎ ((is_free (slice_get (replicate (length ls) None) n) ≡ true) × (line_of ls n ≡ l)) → l ≡ line_of ls n
line_found ls n l (inl e) = absurd (none_yet (length ls) n l e)
line_found ls n l (inr e) = sym e.1

pub line_by_number : (ls : List (ℕ × ℕ)) (n l : ℕ) → slice_get (indexed ls) n ≡ Some (Some l) → l ≡ line_of ls n
line_by_number ls n l e = line_found ls n l (filled_line (replicate (length ls) None) ls n l e)
