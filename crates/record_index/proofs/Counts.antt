-- What those of a list that begin or cease to pass make of how many different ones do.
use Rattle.std.proofs.Common.{◌≡◌, ℕ, suc, ◌+◌, Bool, true, false, not, List, [], ◌∷◌, refl, sym, ap, ◌∙◌, subst, arith}
use Rattle.std.specs.Prelude.{◌&&◌, ◌||◌}
use Rattle.std.specs.List.{AllByRecursion, IsDistinct}
use Rattle.record_theory.specs.Counts.{is_among, count_once, how_many}
use Rattle.record_theory.proofs.Counts.{more}

-- one more that was counted before changes nothing
counted_before : (a b : Bool) (i j k l : ℕ) → i + j ≡ k + l → more (b && false) i + j ≡ more (a && false) k + l
counted_before true true i j k l e = e
counted_before true false i j k l e = e
counted_before false true i j k l e = e
counted_before false false i j k l e = e

-- one more that is new counts where it passes
counted_now : (a b : Bool) (i j k l : ℕ) → i + j ≡ k + l → more (b && true) i + more (a && not b) j ≡ more (a && true) k + more (not a && b) l
counted_now true true i j k l e = omega (arith, e)
counted_now true false i j k l e = omega (arith, e)
counted_now false true i j k l e = omega (arith, e)
counted_now false false i j k l e = e

exchanged : (a b : Bool) (k : ℕ) → more a (more b k) ≡ more b (more a k)
exchanged true true k = refl
exchanged true false k = refl
exchanged false true k = refl
exchanged false false k = refl

module _ {A : Type 0} (same : A → A → Bool) (is : (a b : A) → same a b ≡ true → a ≡ b) (itself : (a : A) → same a a ≡ true) where
  -- ---- how many of some are among others

  -- one more that is there already
  pub how_many_same : (ys : List A) (n : A) (ns : List A) → is_among same ns n ≡ true → how_many same ys (n ∷ ns) ≡ how_many same ys ns
  how_many_same [] n ns m = refl
  how_many_same (y ∷ ys) n ns m =
      let rest = how_many_same ys n ns m in
      elim (same y n) as (λ b. same y n ≡ b → more (b || is_among same ns y) (how_many same ys (n ∷ ns)) ≡ more (is_among same ns y) (how_many same ys ns)) [
        | false ↦ λ _. ap (more (is_among same ns y)) rest
        | true ↦ λ s.
            (let there : is_among same ns y ≡ true = subst (λ x. is_among same ns x ≡ true) (sym (is y n s)) m in
            rw there (ap suc rest))
      ] refl

  -- none of these is the one
  apart_from : (y n : A) (ys : List A) → y ≡ n → AllByRecursion (λ z. same y z ≡ false) ys → is_among same ys n ≡ false
  apart_from y n [] e h = refl
  apart_from y n (z ∷ zs) e h = rw (subst (λ x. same x z ≡ false) e h.0) (apart_from y n zs e h.1)

  same_turned : (y n : A) → same y n ≡ false → same n y ≡ false
  same_turned y n s =
      elim (same n y) as (λ b. same n y ≡ b → b ≡ false) [
        | false ↦ λ _. refl
        | true ↦ λ t. sym (subst (λ x. same y x ≡ true) (sym (is n y t)) (itself y)) ∙ s
      ] refl

  -- one more that isn't there yet: it counts if it is one of them
  pub how_many_more : (ys : List A) (n : A) (ns : List A) → IsDistinct same ys → is_among same ns n ≡ false
      → how_many same ys (n ∷ ns) ≡ more (is_among same ys n) (how_many same ys ns)
  unfolding IsDistinct
  how_many_more [] n ns d m = refl
  how_many_more (y ∷ ys) n ns d m =
      let rest = how_many_more ys n ns d.1 m in
      elim (same y n) as (λ b. same y n ≡ b → more (b || is_among same ns y) (how_many same ys (n ∷ ns))
      ≡ more (same n y || is_among same ys n) (more (is_among same ns y) (how_many same ys ns))) [
        | true ↦ λ s.
            (let e : y ≡ n = is y n s in
            let absent : is_among same ns y ≡ false = subst (λ x. is_among same ns x ≡ false) (sym e) m in
            let first : same n y ≡ true = subst (λ x. same n x ≡ true) (sym e) (itself n) in
            rw (absent, first) (ap suc (rest ∙ ap (λ b. more b (how_many same ys ns)) (apart_from y n ys e d.0))))
        | false ↦ λ s. rw (same_turned y n s) (ap (more (is_among same ns y)) rest ∙ exchanged (is_among same ns y) (is_among same ys n) (how_many same ys ns))
      ] refl

  none_of : (ys : List A) → how_many same ys [] ≡ 0
  none_of [] = refl
  none_of (y ∷ ys) = none_of ys

  -- as many as begin to pass, and not those that cease to
  pub count_changed : (p q : A → Bool) (lost won : List A) → IsDistinct same lost → IsDistinct same won → ((n : A) → is_among same lost n ≡ (not (p n) && q n))
      → ((n : A) → is_among same won n ≡ (p n && not (q n))) → (ns : List A) → count_once same q ns + how_many same won ns ≡ count_once same p ns + how_many same lost ns
  count_changed p q lost won dl dw is_lost is_won [] = rw (none_of won, none_of lost) refl
  count_changed p q lost won dl dw is_lost is_won (n ∷ ns) =
      let rest = count_changed p q lost won dl dw is_lost is_won ns in
      elim (is_among same ns n) as (λ b. is_among same ns n ≡ b → more (q n && not b) (count_once same q ns) + how_many same won (n ∷ ns)
      ≡ more (p n && not b) (count_once same p ns) + how_many same lost (n ∷ ns)) [
        | true ↦ λ m. rw (how_many_same won n ns m, how_many_same lost n ns m) (counted_before (p n) (q n) (count_once same q ns) (how_many same won ns) (count_once same p ns) (how_many same lost ns) rest)
        | false ↦ λ m.
            (let w = how_many_more won n ns dw m ∙ ap (λ b. more b (how_many same won ns)) (is_won n) in
            let l = how_many_more lost n ns dl m ∙ ap (λ b. more b (how_many same lost ns)) (is_lost n) in
            rw (w, l) (counted_now (p n) (q n) (count_once same q ns) (how_many same won ns) (count_once same p ns) (how_many same lost ns) rest))
      ] refl
