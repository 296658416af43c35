-- Sums of records that gave two reducers values which take no memory.
use Rattle.std.proofs.Common.{◌≡◌, ℕ, ◌<◌, false, List, [], ◌∷◌, length, map, sym, ap, ◌∙◌, subst, arith, get_or}
use Rattle.std.proofs.lemmas.List.Elements.{All-head, All-tail}
use Rattle.std.specs.Prelude.{All, slice_get, slice_set, Option, Some, None, IfSome}
use Rattle.monoid_laws.specs.declared.Kind.{Kind}
use Rattle.monoid_laws.specs.declared.Val.{Val}
use Rattle.monoid_laws.specs.Worth.{Worth}
use Rattle.monoid_laws.specs.Kinds.{meaning, operate, operate_all, identities, identity_of, AreWorths, IsMonoid, IsWorth}
use Rattle.monoid_laws.proofs.Rows.{operate_all_identities}
use Rattle.record_theory.specs.Record.{PlainRecord, touched}
use Rattle.record_theory.specs.Named.{filled, IsValueAt, AreValuesFrom}
use Rattle.record_theory.specs.Sums.{arguments_of_last}
use Rattle.instance_records.specs.declared.gift.Gift.{Gift}
use Rattle.instance_records.specs.Gifts.{given_by}
use Rattle.rerun_records.specs.Sums.{IsSumFor}
use Rattle.gathered_records.specs.Summing.{PlainSum, summed, put_entries, HasSummed}
use Rattle.gathered_records.proofs.Summed.{sum_is}

-- the identities of two kinds
pub two_identities : (kinds : List Kind) (c d : Kind) → length kinds ≡ 2 → c ≡ get_or kinds 0 c → d ≡ get_or kinds 1 d → identity_of c ∷ identity_of d ∷ [] ≡ identities kinds
two_identities [] c d n p q = absurd (omega (arith, n))
two_identities (k ∷ []) c d n p q = absurd (omega (arith, n))
two_identities (k ∷ l ∷ m ∷ ks) c d n p q = absurd (omega (arith, n))
two_identities (k ∷ l ∷ []) c d n p q = ap (λ e. identity_of e ∷ identity_of d ∷ []) p ∙ ap (λ e. identity_of k ∷ identity_of e ∷ []) q

-- two values put in the place of the identities
both_filled : (k l : Kind) (e f : ℕ × Val) → e.0 ≡ 0 → f.0 ≡ 1 → filled (identities (k ∷ l ∷ [])) (touched e ∷ touched f ∷ []) ≡ meaning e.1 ∷ meaning f.1 ∷ []
both_filled k l e f p q =
    ap (λ n. filled (slice_set (identity_of k ∷ identity_of l ∷ []) n (meaning e.1)) (touched f ∷ [])) p
    ∙ ap (λ n. slice_set (meaning e.1 ∷ identity_of l ∷ []) n (meaning f.1)) q

-- the values of two reducers with what a record gave on their right
module _ (c d : Kind) (g h : Gift) where
  pub two_combined : (kinds : List Kind) (gifts : List Gift) (x y u v : Worth) → length kinds ≡ 2 → length gifts ≡ 2
      → c ≡ get_or kinds 0 c → d ≡ get_or kinds 1 d → g ≡ get_or gifts 0 g → h ≡ get_or gifts 1 h
      → (given_by g).0 ≡ 0 → (given_by h).0 ≡ 1 → u ≡ operate c x (meaning (given_by g).1) → v ≡ operate d y (meaning (given_by h).1)
      → u ∷ v ∷ [] ≡ operate_all kinds (x ∷ y ∷ []) (filled (identities kinds) (map touched (map given_by gifts)))
  two_combined [] gifts x y u v n m p q r s a b e f = absurd (omega (arith, n))
  two_combined (k ∷ []) gifts x y u v n m p q r s a b e f = absurd (omega (arith, n))
  two_combined (k ∷ l ∷ o ∷ ks) gifts x y u v n m p q r s a b e f = absurd (omega (arith, n))
  two_combined (k ∷ l ∷ []) [] x y u v n m p q r s a b e f = absurd (omega (arith, m))
  two_combined (k ∷ l ∷ []) (i ∷ []) x y u v n m p q r s a b e f = absurd (omega (arith, m))
  two_combined (k ∷ l ∷ []) (i ∷ j ∷ o ∷ gs) x y u v n m p q r s a b e f = absurd (omega (arith, m))
  two_combined (k ∷ l ∷ []) (i ∷ j ∷ []) x y u v n m p q r s a b e f =
      let first : u ≡ operate k x (meaning (given_by i).1) = e ∙ ap (λ o. operate o x (meaning (given_by g).1)) p ∙ ap (λ o. operate k x (meaning (given_by o).1)) r in
      let second : v ≡ operate l y (meaning (given_by j).1) = f ∙ ap (λ o. operate o y (meaning (given_by h).1)) q ∙ ap (λ o. operate l y (meaning (given_by o).1)) s in
      let one : (given_by i).0 ≡ 0 = ap (λ o. (given_by o).0) (sym r) ∙ a in
      let two : (given_by j).0 ≡ 1 = ap (λ o. (given_by o).0) (sym s) ∙ b in
      ap (λ w. w ∷ v ∷ []) first ∙ ap (λ w. operate k x (meaning (given_by i).1) ∷ w ∷ []) second
      ∙ ap (operate_all (k ∷ l ∷ []) (x ∷ y ∷ [])) (sym (both_filled k l (given_by i) (given_by j) one two))

-- what a record gave to the first of two reducers, and to the second, is of its kind
module _ (c : Kind) (g : Gift) where
  pub first_value : (kinds : List Kind) (gifts : List Gift) → length kinds ≡ 2 → length gifts ≡ 2 → c ≡ get_or kinds 0 c → g ≡ get_or gifts 0 g
      → AreValuesFrom 0 kinds (map touched (map given_by gifts)) → (given_by g).0 ≡ 0 → IsWorth c (meaning (given_by g).1)
  first_value [] gifts n m p r v a = absurd (omega (arith, n))
  first_value (k ∷ ks) [] n m p r v a = absurd (omega (arith, m))
  first_value (k ∷ ks) (i ∷ gs) n m p r v a =
      let one : (given_by i).0 ≡ 0 = ap (λ o. (given_by o).0) (sym r) ∙ a in
      subst (λ o. IsWorth o (meaning (given_by g).1)) (sym p)
      (subst (λ o. IsWorth k (meaning (given_by o).1)) (sym r) (subst (λ o. IsValueAt (slice_get (k ∷ ks) o) (meaning (given_by i).1)) one v.1))

  pub second_value : (kinds : List Kind) (gifts : List Gift) → length kinds ≡ 2 → length gifts ≡ 2 → c ≡ get_or kinds 1 c → g ≡ get_or gifts 1 g
      → AreValuesFrom 0 kinds (map touched (map given_by gifts)) → (given_by g).0 ≡ 1 → IsWorth c (meaning (given_by g).1)
  second_value [] gifts n m p r v a = absurd (omega (arith, n))
  second_value (k ∷ []) gifts n m p r v a = absurd (omega (arith, n))
  second_value (k ∷ l ∷ ks) [] n m p r v a = absurd (omega (arith, m))
  second_value (k ∷ l ∷ ks) (i ∷ []) n m p r v a = absurd (omega (arith, m))
  second_value (k ∷ l ∷ ks) (i ∷ j ∷ gs) n m p r v a =
      let two : (given_by j).0 ≡ 1 = ap (λ o. (given_by o).0) (sym r) ∙ a in
      subst (λ o. IsWorth o (meaning (given_by g).1)) (sym p)
      (subst (λ o. IsWorth l (meaning (given_by o).1)) (sym r) (subst (λ o. IsValueAt (slice_get (k ∷ l ∷ ks) o) (meaning (given_by j).1)) two v.2.1))

-- the values of two reducers where a record gave nothing
pub none_combined : (kinds : List Kind) (gifts : List Gift) (x y : Worth) → length gifts ≡ 0 → All IsMonoid kinds → AreWorths kinds (x ∷ y ∷ [])
    → x ∷ y ∷ [] ≡ operate_all kinds (x ∷ y ∷ []) (filled (identities kinds) (map touched (map given_by gifts)))
none_combined kinds [] x y n m r = sym (operate_all_identities kinds (x ∷ y ∷ []) m r)
none_combined kinds (g ∷ gs) x y n m r = absurd (omega (arith, n))

-- where it gave the first of them something, or the second
module _ (c : Kind) (g : Gift) where
  pub one_only : (kinds : List Kind) (gifts : List Gift) (x y u : Worth) → length kinds ≡ 2 → length gifts ≡ 1 → All IsMonoid kinds → AreWorths kinds (x ∷ y ∷ [])
      → c ≡ get_or kinds 0 c → g ≡ get_or gifts 0 g → (given_by g).0 ≡ 0 → u ≡ operate c x (meaning (given_by g).1)
      → u ∷ y ∷ [] ≡ operate_all kinds (x ∷ y ∷ []) (filled (identities kinds) (map touched (map given_by gifts)))
  one_only [] gifts x y u n o m w p r a e = absurd (omega (arith, n))
  one_only (k ∷ []) gifts x y u n o m w p r a e = absurd (omega (arith, n))
  one_only (k ∷ l ∷ j ∷ ks) gifts x y u n o m w p r a e = absurd (omega (arith, n))
  one_only (k ∷ l ∷ []) [] x y u n o m w p r a e = absurd (omega (arith, o))
  one_only (k ∷ l ∷ []) (i ∷ j ∷ gs) x y u n o m w p r a e = absurd (omega (arith, o))
  one_only (k ∷ l ∷ []) (i ∷ []) x y u n o m w p r a e =
      let first : u ≡ operate k x (meaning (given_by i).1) = e ∙ ap (λ d. operate d x (meaning (given_by g).1)) p ∙ ap (λ h. operate k x (meaning (given_by h).1)) r in
      let one : (given_by i).0 ≡ 0 = ap (λ h. (given_by h).0) (sym r) ∙ a in
      let same : operate l y (identity_of l) ≡ y = (All-head IsMonoid l [] (All-tail IsMonoid k (l ∷ []) m)).right_identity y w.1.0 in
      ap (λ v. v ∷ y ∷ []) first ∙ ap (λ v. operate k x (meaning (given_by i).1) ∷ v ∷ []) (sym same)
      ∙ ap (λ n. operate_all (k ∷ l ∷ []) (x ∷ y ∷ []) (slice_set (identity_of k ∷ identity_of l ∷ []) n (meaning (given_by i).1))) (sym one)

  pub two_only : (kinds : List Kind) (gifts : List Gift) (x y v : Worth) → length kinds ≡ 2 → length gifts ≡ 1 → All IsMonoid kinds → AreWorths kinds (x ∷ y ∷ [])
      → c ≡ get_or kinds 1 c → g ≡ get_or gifts 0 g → (given_by g).0 ≡ 1 → v ≡ operate c y (meaning (given_by g).1)
      → x ∷ v ∷ [] ≡ operate_all kinds (x ∷ y ∷ []) (filled (identities kinds) (map touched (map given_by gifts)))
  two_only [] gifts x y v n o m w p r a e = absurd (omega (arith, n))
  two_only (k ∷ []) gifts x y v n o m w p r a e = absurd (omega (arith, n))
  two_only (k ∷ l ∷ j ∷ ks) gifts x y v n o m w p r a e = absurd (omega (arith, n))
  two_only (k ∷ l ∷ []) [] x y v n o m w p r a e = absurd (omega (arith, o))
  two_only (k ∷ l ∷ []) (i ∷ j ∷ gs) x y v n o m w p r a e = absurd (omega (arith, o))
  two_only (k ∷ l ∷ []) (i ∷ []) x y v n o m w p r a e =
      let second : v ≡ operate l y (meaning (given_by i).1) = e ∙ ap (λ d. operate d y (meaning (given_by g).1)) p ∙ ap (λ h. operate l y (meaning (given_by h).1)) r in
      let two : (given_by i).0 ≡ 1 = ap (λ h. (given_by h).0) (sym r) ∙ a in
      let same : operate k x (identity_of k) ≡ x = (All-head IsMonoid k (l ∷ []) m).right_identity x w.0 in
      ap (λ u. x ∷ u ∷ []) second ∙ ap (λ u. u ∷ operate l y (meaning (given_by i).1) ∷ []) (sym same)
      ∙ ap (λ n. operate_all (k ∷ l ∷ []) (x ∷ y ∷ []) (slice_set (identity_of k ∷ identity_of l ∷ []) n (meaning (given_by i).1))) (sym two)

  pub of_one : (kinds : List Kind) (gifts : List Gift) → length kinds ≡ 2 → length gifts ≡ 1 → c ≡ get_or kinds 0 c → g ≡ get_or gifts 0 g
      → AreValuesFrom 0 kinds (map touched (map given_by gifts)) → (given_by g).0 ≡ 0 → IsWorth c (meaning (given_by g).1)
  of_one [] gifts n o p r v a = absurd (omega (arith, n))
  of_one (k ∷ ks) [] n o p r v a = absurd (omega (arith, o))
  of_one (k ∷ ks) (i ∷ gs) n o p r v a =
      let one : (given_by i).0 ≡ 0 = ap (λ h. (given_by h).0) (sym r) ∙ a in
      subst (λ d. IsWorth d (meaning (given_by g).1)) (sym p)
      (subst (λ h. IsWorth k (meaning (given_by h).1)) (sym r) (subst (λ d. IsValueAt (slice_get (k ∷ ks) d) (meaning (given_by i).1)) one v.1))

  pub of_two : (kinds : List Kind) (gifts : List Gift) → length kinds ≡ 2 → length gifts ≡ 1 → c ≡ get_or kinds 1 c → g ≡ get_or gifts 0 g
      → AreValuesFrom 0 kinds (map touched (map given_by gifts)) → (given_by g).0 ≡ 1 → IsWorth c (meaning (given_by g).1)
  of_two [] gifts n o p r v a = absurd (omega (arith, n))
  of_two (k ∷ []) gifts n o p r v a = absurd (omega (arith, n))
  of_two (k ∷ l ∷ ks) [] n o p r v a = absurd (omega (arith, o))
  of_two (k ∷ l ∷ ks) (i ∷ gs) n o p r v a =
      let two : (given_by i).0 ≡ 1 = ap (λ h. (given_by h).0) (sym r) ∙ a in
      subst (λ d. IsWorth d (meaning (given_by g).1)) (sym p)
      (subst (λ h. IsWorth l (meaning (given_by h).1)) (sym r) (subst (λ d. IsValueAt (slice_get (k ∷ l ∷ ks) d) (meaning (given_by i).1)) two v.1))

-- the first procedure put in
pub first_put : (more : List (ℕ × ℕ)) (e : ℕ × ℕ) → length more ≡ 1 → e ≡ get_or more 0 e → e ∷ [] ≡ put_entries [] more
first_put [] e n at = absurd (omega (arith, n))
first_put (y ∷ z ∷ ys) e n at = absurd (omega (arith, n))
first_put (y ∷ []) e n at = ap (λ x. x ∷ []) at

-- the record made of the sum, where each part lies by itself
pub flat_over : (made : Option PlainRecord) (kinds : List Kind) (rs : List PlainRecord) (s : PlainSum) (last : PlainRecord) → s.keeps ≡ false → 0 < length rs → arguments_of_last [] rs ≡ last.arguments
    → HasSummed kinds rs s → IfSome made (λ x. x ≡ summed s last) → IfSome made (λ x. IsSumFor false kinds rs x)
flat_over None kinds rs s last keeps some ends h is = tt
flat_over (Some x) kinds rs s last keeps some ends h is =
    subst (λ b. IsSumFor b kinds rs x) keeps (subst (IsSumFor s.keeps kinds rs) (sym is) (sum_is kinds rs s last some ends h))
