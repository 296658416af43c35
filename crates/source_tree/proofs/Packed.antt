-- No two names are packed into one number, so the places of names are those by number and those by text together.
use Rattle.std.proofs.Common.{◌≡◌, ℕ, ◌+◌, ◌-◌, ◌*◌, ◌<◌, ◌≤◌, length, drop, get_or, drop-cons, false, cond, ◌&&◌, ◌==◌, List, [], ◌∷◌, Option, Some, None}
use Rattle.std.proofs.Common.{refl, sym, ap, ◌∙◌, inl, inr, arith, nat_lt, unwrap_or}
use Rattle.std.specs.Prelude.{bytes_eq}
use Rattle.std.specs.Option.{option_map}
use Rattle.std.proofs.lemmas.Bool.{and_parts, ltb-true, le-ltb, and_right, false_from_ne_true, cases_Bool, cases_eq, eq-eqb, ne_eqb}
use Rattle.std.proofs.lemmas.Slice.Eq.{bytes_eq-Decides}
use Rattle.meaning.specs.Tree.{Name}
use Rattle.source_tree.specs.Packing.{packed_behind, packed, placed}

pub no_number : (xs : Name) (i n : ℕ) (total : Option ℕ) → i < length xs → packed_behind n (drop i xs) ≡ total → 72057594037927936 ≤ n → total ≡ None
no_number xs i n total within whole h =
    let f : (nat_lt (get_or xs i 0) 256 && nat_lt (n * 256 + get_or xs i 0) 18446744073709551616) ≡ false = and_right _ _ (le-ltb (n * 256 + get_or xs i 0) 18446744073709551616 (omega arith)) in
    let d : packed_behind n (drop i xs) ≡ None = rw (drop-cons xs i 0 within, f) refl in
    sym whole ∙ d

-- ---- a number tells its name

abbrev AreBytes : List ℕ → Type 0
AreBytes [] = Unit {0}
AreBytes (b ∷ bs) = (b < 256) × AreBytes bs

-- the number of digits behind a 1, the last one first
abbrev worth : List ℕ → ℕ
worth [] = 1
worth (b ∷ bs) = worth bs * 256 + b

least : (bs : List ℕ) → 1 ≤ worth bs
least [] = omega arith
least (b ∷ bs) = let h = least bs in omega (arith, h)

same_digits : (xs ys : List ℕ) → AreBytes xs → AreBytes ys → worth xs ≡ worth ys → xs ≡ ys
same_digits [] [] p q e = refl
same_digits [] (y ∷ ys) p q e =
    let h = least ys in
    let s : 1 ≡ worth ys * 256 + y = e in
    let no : ⊥ = omega (arith, h, s) in
    absurd no
same_digits (x ∷ xs) [] p q e =
    let h = least xs in
    let s : worth xs * 256 + x ≡ 1 = e in
    let no : ⊥ = omega (arith, h, s) in
    absurd no
same_digits (x ∷ xs) (y ∷ ys) p q e =
    let s : worth xs * 256 + x ≡ worth ys * 256 + y = e in
    let b : x < 256 = p.0 in
    let c : y < 256 = q.0 in
    let f : worth xs ≡ worth ys = omega (arith, b, c, s) in
    let d : x ≡ y = omega (arith, b, c, s) in
    let g : xs ≡ ys = same_digits xs ys p.1 q.1 f in
    rw (d, g) refl

-- one list turned round, in front of another
abbrev onto : List ℕ → List ℕ → List ℕ
onto [] ys = ys
onto (x ∷ xs) ys = onto xs (x ∷ ys)

back : (xs ys : List ℕ) → onto (onto xs ys) [] ≡ onto ys xs
back [] ys = refl
back (x ∷ xs) ys = back xs (x ∷ ys)

inside : (a b : ℕ) → Some a ≡ Some b → a ≡ b
inside a b e = ap (λ (o : Option ℕ). unwrap_or o 0) e

digits : (xs ys : List ℕ) (k : ℕ) → AreBytes ys → packed_behind (worth ys) xs ≡ Some k → AreBytes (onto xs ys) × (worth (onto xs ys) ≡ k)
digits [] ys k p e = (p, inside (worth ys) k e)
digits (x ∷ xs) ys k p e =
    elim (cases_Bool (nat_lt x 256 && nat_lt (worth ys * 256 + x) 18446744073709551616)) [
      | inl t ↦
          let b : x < 256 = ltb-true x 256 (and_parts _ _ t).0 in
          let h : packed_behind (worth (x ∷ ys)) xs ≡ Some k = rw t at e in
          digits xs (x ∷ ys) k (b, p) h
      | inr f ↦
          let no : None ≡ Some k = rw f at e in
          absurd cc
    ]

within : (n : ℕ) (xs : List ℕ) (k : ℕ) → n < 18446744073709551616 → packed_behind n xs ≡ Some k → k < 18446744073709551616
within n [] k h e = let s : n ≡ k = inside n k e in omega (arith, h, s)
within n (x ∷ xs) k h e =
    elim (cases_Bool (nat_lt x 256 && nat_lt (n * 256 + x) 18446744073709551616)) [
      | inl t ↦
          let b : n * 256 + x < 18446744073709551616 = ltb-true (n * 256 + x) 18446744073709551616 (and_parts _ _ t).1 in
          let s : packed_behind (n * 256 + x) xs ≡ Some k = rw t at e in
          within (n * 256 + x) xs k b s
      | inr f ↦
          let no : None ≡ Some k = rw f at e in
          absurd cc
    ]

same_behind : (x y : Name) (k : ℕ) → packed_behind 1 x ≡ Some k → packed_behind 1 y ≡ Some k → x ≡ y
same_behind x y k p q =
    let f = digits x [] k tt p in
    let g = digits y [] k tt q in
    let e : onto x [] ≡ onto y [] = same_digits (onto x []) (onto y []) f.0 g.0 (f.1 ∙ sym g.1) in
    sym (back x []) ∙ ap (λ l. onto l []) e ∙ back y []

-- the number of digits from which a number was counted down
up : (o : Option ℕ) (k : ℕ) → ((n : ℕ) → o ≡ Some n → n < 18446744073709551616) → option_map (λ n. 18446744073709551615 - n) o ≡ Some k → o ≡ Some (18446744073709551615 - k)
up None k h e = absurd cc
up (Some n) k h e =
    let b : n < 18446744073709551616 = h n refl in
    let s : 18446744073709551615 - n ≡ k = inside (18446744073709551615 - n) k e in
    let t : n ≡ 18446744073709551615 - k = omega (arith, b, s) in
    ap (λ m. Some m) t

pub same_name : (x y : Name) (k : ℕ) → packed x ≡ Some k → packed y ≡ Some k → x ≡ y
same_name x y k p q =
    let f = up (packed_behind 1 x) k (λ n e. within 1 x n (omega arith) e) p in
    let g = up (packed_behind 1 y) k (λ n e. within 1 y n (omega arith) e) q in
    same_behind x y (18446744073709551615 - k) f g

-- ---- places, and one more

apart : (x y : Name) → (x ≡ y → ⊥) → bytes_eq x y ≡ false
apart x y h = false_from_ne_true (bytes_eq x y) (λ t. h ((bytes_eq-Decides x y).0 t))

differ : (x y : Name) (k : ℕ) → packed x ≡ Some k → packed y ≡ None → x ≡ y → ⊥
differ x y k p q e =
    let no : Some k ≡ None = sym p ∙ ap packed e ∙ q in
    cc

agree : (x y : Name) (j k : ℕ) → packed x ≡ Some j → packed y ≡ Some k → (j == k) ≡ bytes_eq x y
agree x y j k p q =
    elim (cases_eq j k) [
      | inl s ↦
          let e : packed y ≡ Some j = q ∙ ap (λ i. Some i) (sym s) in
          eq-eqb j k s ∙ sym ((bytes_eq-Decides x y).1 (same_name x y j p e))
      | inr a ↦ ne_eqb j k a ∙ sym (apart x y (λ s. a (inside j k (sym p ∙ ap packed s ∙ q))))
    ]

module _ (short : ℕ → Option ℕ) (long : Name → Option ℕ) (y : Name) (n : ℕ) where
  pub by_number : (now : ℕ → Option ℕ) (k : ℕ) → packed y ≡ Some k → ((j : ℕ) → now j ≡ cond (k == j) (Some n) (short j))
      → (x : Name) → placed now long x ≡ cond (bytes_eq y x) (Some n) (placed short long x)
  by_number now k p h x = by (packed x) refl
    where
      by : (o : Option ℕ) → packed x ≡ o → placed now long x ≡ cond (bytes_eq y x) (Some n) (placed short long x)
      by None e = let f : bytes_eq y x ≡ false = apart y x (differ y x k p e) in rw (e, f) refl
      by (Some j) e = rw e (h j ∙ ap (λ b. cond b (Some n) (short j)) (agree y x k j p e))

  pub by_text : (now : Name → Option ℕ) → packed y ≡ None → ((x : Name) → now x ≡ cond (bytes_eq y x) (Some n) (long x))
      → (x : Name) → placed short now x ≡ cond (bytes_eq y x) (Some n) (placed short long x)
  by_text now p h x = by (packed x) refl
    where
      by : (o : Option ℕ) → packed x ≡ o → placed short now x ≡ cond (bytes_eq y x) (Some n) (placed short long x)
      by None e = rw e (h x)
      by (Some j) e = let f : bytes_eq y x ≡ false = apart y x (λ s. differ x y j e p (sym s)) in rw (e, f) refl
