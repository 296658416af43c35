-- The order in which instances leave, number by number.
use Rattle.std.proofs.Common.{◌≡◌, ℕ, ◌+◌, ◌<◌, ◌≤◌, Bool, true, false, nat_lt, nat_eq, leb, ◌&&◌, ◌||◌, List, [], ◌∷◌, ◌++◌, length, reverse, drop, slice_index_or, refl, sym, ap, ◌∙◌, arith}
use Rattle.std.proofs.Math.Seq.{drop-length}
use Rattle.std.proofs.lemmas.List.{drop_more, reverse-append}
use Rattle.std.proofs.lemmas.Bool.{le-leb, lt-leb, ltb-true, ltb-false, eqb-true, eqb-false}
use Rattle.meaning.specs.Trail.{child_of}
use Rattle.positions.specs.declared.start.Start.{Start}
use Rattle.positions.specs.Activations.{PlainActivation}
use Rattle.positions.specs.Strands.{shorter}
use Rattle.activations.specs.Waiting.{leaves_before, none_waits_in, none_waits_below}

before_none : (m : List ℕ) (c : ℕ) → leaves_before (child_of m c) [] ≡ true
before_none [] c = refl
before_none (a ∷ m) c = refl

le_by : (a b : ℕ) (l e : Bool) → nat_lt a b ≡ l → nat_eq a b ≡ e → leb a b ≡ (l || (e && true))
le_by a b true e p q = let h : a < b = ltb-true a b p in le-leb a b (omega arith)
le_by a b false true p q = let h : a ≡ b = eqb-true a b q in le-leb a b (omega arith)
le_by a b false false p q =
    let h : b ≤ a = ltb-false a b p in
    let n : (a ≡ b → ⊥) = eqb-false a b q in
    lt-leb a b (omega arith)

module _ (xs ys : List ℕ) (c o : ℕ) where
  -- what is left from that depth on
  abbrev pub at : ℕ → Bool
  at d = leaves_before (child_of (drop d xs) c) (child_of (drop d ys) o)

  left_there : (d : ℕ) → d < length xs → (zs : List ℕ) → leaves_before (child_of (drop d xs) c) zs ≡ leaves_before (child_of (slice_index_or xs d 0 ∷ drop (d + 1) xs) c) zs
  left_there d less zs = ap (λ l. leaves_before (child_of l c) zs) (drop_more xs d 0 less)

  gone : (zs : List ℕ) (d : ℕ) → d ≡ length zs → drop d zs ≡ []
  gone zs d e = ap (λ n. drop n zs) e ∙ drop-length zs

  -- the right one's name ends
  pub right_ends : (d : ℕ) → d < length xs → d ≡ length ys → leb (slice_index_or xs d 0) o ≡ at d
  right_ends d less e =
      le_by (slice_index_or xs d 0) o (nat_lt (slice_index_or xs d 0) o) (nat_eq (slice_index_or xs d 0) o) refl refl
      ∙ sym (ap (λ b. nat_lt (slice_index_or xs d 0) o || (nat_eq (slice_index_or xs d 0) o && b)) (before_none (drop (d + 1) xs) c))
      ∙ sym (left_there d less (o ∷ [])) ∙ ap (λ l. leaves_before (child_of (drop d xs) c) (child_of l o)) (sym (gone ys d e))

-- the last one has entered the instance of that name
pub last_waits : (start : Start) (left over : List ℕ) (lower below : List PlainActivation) (a : PlainActivation) → below ≡ lower ++ a ∷ []
    → (none_waits_in start left (shorter over) a && none_waits_below start left (shorter over) (reverse lower)) ≡ none_waits_below start left over (reverse below)
last_waits start left over lower below a e = ap (none_waits_below start left over) (sym (ap reverse e ∙ reverse-append lower (a ∷ [])))
