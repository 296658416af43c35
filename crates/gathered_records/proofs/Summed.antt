-- A sum of records, made one record after another, and the sum of sums.
use Rattle.std.proofs.Common.{◌≡◌, ℕ, zero, suc, ◌+◌, ◌<◌, Bool, true, false, cond, List, [], ◌∷◌, ◌++◌, length, All, Contains, ⊎_elim, refl, sym, ap, ◌∙◌, subst, arith, append_assoc, map, drop, get_or, set}
use Rattle.std.specs.Prelude.{max, nat_eq, slice_get, slice_set, Some, ◌||◌}
use Rattle.std.specs.List.{flat_map, list_any}
use Rattle.std.proofs.lemmas.List.{append-nil, drop_more, get_or-map, length-map, map-set}
use Rattle.std.proofs.lemmas.Grind.{flat_map-append}
use Rattle.std.proofs.Math.Seq.{set-append_seam}
use Rattle.std.proofs.lemmas.List.Elements.{Contains-append_left, Contains-append_right, Contains-append_cases}
use Rattle.std.proofs.lemmas.Bool.Decides.{Decides-eqb}
use Rattle.monoid_laws.specs.declared.Kind.{Kind}
use Rattle.monoid_laws.specs.declared.Val.{Val}
use Rattle.monoid_laws.specs.Worth.{Worth}
use Rattle.monoid_laws.specs.Kinds.{meaning, operate, operate_all, identities, AreWorths, IsWorth, IsMonoid}
use Rattle.monoid_laws.proofs.Rows.{operate_all_identities, operate_all_assoc, operate_all_right, AreWorths-at, AreWorths-identities}
use Rattle.record_theory.specs.Record.{PlainRecord, touched}
use Rattle.record_theory.specs.Named.{filled, SameMembers, IsValueAt, AreValuesFrom}
use Rattle.record_theory.specs.Sums.{IsSumOf, contributed, highest, arguments_of_last}
use Rattle.rerun_records.specs.Sums.{with_reads, IsSumFor}
use Rattle.gathered_records.specs.Summing.{PlainSum, kept_reads, same_entry, put_entry, put_entries, worth_in, numbered_from, summed, nothing_summed, added, HasSummed}
use Rattle.record_theory.proofs.Absorbed.{each, same_at, filled_right}
use Rattle.record_theory.proofs.Members.{left_is, right_is}
use Rattle.record_theory.proofs.Singles.{sum_of_one}

-- ---- lists with the same members

pub members_same : {A : Type 0} (xs ys : List A) → xs ≡ ys → SameMembers xs ys
members_same xs ys e = subst (SameMembers xs) e (λ x. (λ c. c, λ c. c))

pub members_then : {A : Type 0} (xs ys zs : List A) → SameMembers xs ys → SameMembers ys zs → SameMembers xs zs
members_then xs ys zs f g x = (λ c. (g x).0 ((f x).0 c), λ c. (f x).1 ((g x).1 c))

appended_in : {A : Type 0} (xs ys zs ws : List A) (x : A) → (Contains xs x → Contains ys x) → (Contains zs x → Contains ws x) → Contains (xs ++ zs) x → Contains (ys ++ ws) x
appended_in xs ys zs ws x f g c = ⊎_elim (λ i. Contains-append_left ys ws x (f i)) (λ i. Contains-append_right ys ws x (g i)) (Contains-append_cases xs zs x c)

pub members_append : {A : Type 0} (xs ys zs ws : List A) → SameMembers xs ys → SameMembers zs ws → SameMembers (xs ++ zs) (ys ++ ws)
members_append xs ys zs ws f g x = (appended_in xs ys zs ws x (f x).0 (g x).0, appended_in ys xs ws zs x (f x).1 (g x).1)

-- ---- entries, each once

same_is : (e d : ℕ × ℕ) → same_entry e d ≡ true → e ≡ d
same_is e d h =
    let p : e.0 ≡ d.0 = (Decides-eqb e.0 d.0).0 (left_is (nat_eq e.0 d.0) (nat_eq e.1 d.1) h) in
    let q : e.1 ≡ d.1 = (Decides-eqb e.1 d.1).0 (right_is (nat_eq e.0 d.0) (nat_eq e.1 d.1) h) in
    ap (λ i. (i, e.1)) p ∙ ap (λ j. (d.0, j)) q

-- one that is there alone is put in again
pub only_put : (more : List (ℕ × ℕ)) (x e : ℕ × ℕ) → length more ≡ 1 → x ≡ get_or more 0 x → same_entry x e ≡ true → put_entries (e ∷ []) more ≡ e ∷ []
only_put [] x e n at h = absurd cc
only_put (y ∷ z ∷ ys) x e n at h = absurd (omega (arith, n))
only_put (y ∷ []) x e n at h = ap (λ b. cond (b || false) (e ∷ []) (e ∷ y ∷ [])) (ap (λ w. same_entry w e) (sym at) ∙ h)

there : (e : ℕ × ℕ) (es : List (ℕ × ℕ)) → list_any (same_entry e) es ≡ true → Contains es e
there e [] h = absurd cc
there e (d ∷ es) h =
    elim (same_entry e d) as (λ b. same_entry e d ≡ b → b || list_any (same_entry e) es ≡ true → Contains (d ∷ es) e) [
      | true ↦ λ s o. (0, omega arith, sym (same_is e d s))
      | false ↦ λ s o. (let c : Contains es e = there e es o in (suc c.0, omega (arith, c.1), c.2))
    ] refl h

only_there : (e x : ℕ × ℕ) (es : List (ℕ × ℕ)) → Contains es e → Contains (e ∷ []) x → Contains es x
only_there e x es h (zero, l, q) = subst (Contains es) q h
only_there e x es h (suc i, l, q) = absurd (omega (arith, l))

put_members : (es : List (ℕ × ℕ)) (e : ℕ × ℕ) → SameMembers (put_entry es e) (es ++ e ∷ [])
put_members es e =
    elim (list_any (same_entry e) es) as (λ b. list_any (same_entry e) es ≡ b → SameMembers (cond b es (es ++ e ∷ [])) (es ++ e ∷ [])) [
      | true ↦ λ h x. (Contains-append_left es (e ∷ []) x, λ c. ⊎_elim (λ i. i) (λ i. only_there e x es (there e es h) i) (Contains-append_cases es (e ∷ []) x c))
      | false ↦ λ h. members_same (es ++ e ∷ []) (es ++ e ∷ []) refl
    ] refl

pub entries_members : (es ds : List (ℕ × ℕ)) → SameMembers (put_entries es ds) (es ++ ds)
entries_members es [] = members_same es (es ++ []) (sym (append-nil es))
entries_members es (d ∷ ds) =
    members_then (put_entries (put_entry es d) ds) (put_entry es d ++ ds) (es ++ d ∷ ds) (entries_members (put_entry es d) ds)
    (members_then (put_entry es d ++ ds) ((es ++ d ∷ []) ++ ds) (es ++ d ∷ ds)
    (members_append (put_entry es d) (es ++ d ∷ []) ds ds (put_members es d) (members_same ds ds refl))
    (members_same ((es ++ d ∷ []) ++ ds) (es ++ d ∷ ds) (append_assoc es (d ∷ []) ds)))

-- ---- the values of all reducers

module _ (kinds : List Kind) where
  -- the values that a record gives
  abbrev pub given : PlainRecord → List Worth
  given r = filled (identities kinds) r.contribution

  pub given_right : (r : PlainRecord) → AreValuesFrom 0 kinds r.contribution → AreWorths kinds (given r)
  given_right r v = filled_right 0 kinds (identities kinds) r.contribution (AreWorths-identities kinds) v

-- ---- all values with their reducers' numbers

length_behind : {A : Type 0} (before : List A) (x : A) (i : ℕ) → i ≡ length before → suc i ≡ length (before ++ x ∷ [])
length_behind [] x i e = ap suc e
length_behind (b ∷ before) x i e = rw e (ap suc (length_behind before x (length before) refl))

put_there : {A : Type 0} (before : List A) (x y : A) (xs : List A) (i : ℕ) → i ≡ length before → slice_set (before ++ x ∷ xs) i y ≡ (before ++ y ∷ []) ++ xs
put_there before x y xs i e = rw e (set-append_seam before x xs y ∙ sym (append_assoc before (y ∷ []) xs))

got_there : {A : Type 0} (before : List A) (x : A) (xs : List A) (i : ℕ) → i ≡ length before → slice_get (before ++ x ∷ xs) i ≡ Some x
got_there [] x xs i e = rw e refl
got_there (b ∷ before) x xs i e = rw e (got_there before x xs (length before) refl)

all_filled : (before us ws : List Worth) (i : ℕ) → i ≡ length before → length us ≡ length ws → filled (before ++ us) (numbered_from i ws) ≡ before ++ ws
all_filled before [] [] i e l = refl
all_filled before [] (w ∷ ws) i e l = absurd (omega (arith, l))
all_filled before (u ∷ us) [] i e l = absurd (omega (arith, l))
all_filled before (u ∷ us) (w ∷ ws) i e l =
    ap (λ acc. filled acc (numbered_from (suc i) ws)) (put_there before u w us i e)
    ∙ all_filled (before ++ w ∷ []) us ws (suc i) (length_behind before w i e) (omega (arith, l))
    ∙ append_assoc before (w ∷ []) ws

numbered_values : (before ks : List Kind) (i : ℕ) (ws : List Worth) → i ≡ length before → AreWorths ks ws → AreValuesFrom i (before ++ ks) (numbered_from i ws)
numbered_values before [] i [] e a = tt
numbered_values before [] i (w ∷ ws) e a = absurd a
numbered_values before (k ∷ ks) i [] e a = absurd a
numbered_values before (k ∷ ks) i (w ∷ ws) e a = (
  omega arith,
  subst (λ o. IsValueAt o w) (sym (got_there before k ks i e)) a.0,
  subst (λ all. AreValuesFrom (suc i) all (numbered_from (suc i) ws)) (append_assoc before (k ∷ []) ks)
      (numbered_values (before ++ k ∷ []) ks (suc i) ws (length_behind before k i e) a.1),
)

identities_length : (ks : List Kind) → length (identities ks) ≡ length ks
identities_length [] = refl
identities_length (k ∷ ks) = ap suc (identities_length ks)

-- values that stand behind their numbers, from one of them on
pub numbered_more : (es : List (ℕ × Val)) (i : ℕ) (e : ℕ × Val) → i < length es → e ≡ get_or es i e → e.0 ≡ i
    → map touched (drop (i + 1) es) ≡ numbered_from (i + 1) (map worth_in (drop (i + 1) es)) → map touched (drop i es) ≡ numbered_from i (map worth_in (drop i es))
numbered_more es i e l at is rest =
    let next : drop i es ≡ e ∷ drop (i + 1) es = drop_more es i e l ∙ ap (λ d. d ∷ drop (i + 1) es) (sym at) in
    let one : suc i ≡ i + 1 = omega arith in
    ap (map touched) next
    ∙ ap (λ n. (n, meaning e.1) ∷ map touched (drop (i + 1) es)) is
    ∙ ap (λ ds. (i, meaning e.1) ∷ ds) (rest ∙ ap (λ n. numbered_from n (map worth_in (drop (i + 1) es))) (sym one))
    ∙ ap (λ ds. numbered_from i (map worth_in ds)) (sym next)

-- ---- a value combined with that of its reducer

mapped_at : {A B : Type 0} (f : A → B) (xs : List A) (i : ℕ) (x : A) → i < length xs → x ≡ get_or xs i x → f x ≡ get_or (map f xs) i (f x)
mapped_at f xs i x l e = ap f e ∙ sym (get_or-map f xs i x (f x) l)

module _ (ks : List Kind) (vs : List (ℕ × Val)) (i : ℕ) (are : AreWorths ks (map worth_in vs)) (within : i < length ks) where
  pub held_within : i < length vs
  held_within = let e : length ks ≡ length vs = each ks (map worth_in vs) are ∙ length-map vs worth_in in subst (λ n. i < n) e within

  module _ (k : Kind) (v : ℕ × Val) (at_k : k ≡ get_or ks i k) (at_v : v ≡ get_or vs i v) where
    held_at : worth_in v ≡ get_or (map worth_in vs) i (worth_in v)
    held_at = mapped_at worth_in vs i v held_within at_v

    pub held_right : IsWorth k (worth_in v)
    held_right = AreWorths-at ks (map worth_in vs) i k (worth_in v) are within at_k held_at

    pub put_back : (new : ℕ × Val) (w : Worth) (c : Kind) (x : Worth) → c ≡ get_or ks i c → x ≡ get_or (map worth_in vs) i x → worth_in new ≡ operate k (worth_in v) w
        → map worth_in (set vs i new) ≡ set (map worth_in vs) i (operate c x w)
    put_back new w c x at_c at_x e =
        let same_kind : k ≡ c = same_at ks i k c within at_k at_c in
        let same_worth : worth_in v ≡ x = same_at (map worth_in vs) i (worth_in v) x (subst (λ n. i < n) (each ks (map worth_in vs) are) within) held_at at_x in
        map-set worth_in vs i new ∙ ap (set (map worth_in vs) i) (e ∙ ap (λ d. operate d (worth_in v) w) same_kind ∙ ap (λ y. operate c y w) same_worth)

-- ---- what is made of records one after another

max_assoc : (a b c : ℕ) → max (max a b) c ≡ max a (max b c)
max_assoc a b c = omega arith

height_append : (rs ss : List PlainRecord) → highest (rs ++ ss) ≡ max (highest rs) (highest ss)
height_append [] ss = omega arith
height_append (r ∷ rs) ss = ap (max r.height) (height_append rs ss) ∙ sym (max_assoc r.height (highest rs) (highest ss))

module _ (kinds : List Kind) where
  contributed_append : (ws : List Worth) (rs ss : List PlainRecord) → contributed kinds ws (rs ++ ss) ≡ contributed kinds (contributed kinds ws rs) ss
  contributed_append ws [] ss = refl
  contributed_append ws (r ∷ rs) ss = contributed_append (operate_all kinds ws (filled (identities kinds) r.contribution)) rs ss

  pub nothing_summed_so : (keeps : Bool) → All IsMonoid kinds → HasSummed kinds [] (nothing_summed kinds keeps)
  nothing_summed_so keeps monoids = record { worths = λ ws are. operate_all_identities kinds ws monoids are; right = AreWorths-identities kinds; reads = λ k. refl; entered = members_same [] [] refl; height = refl }

  -- one part more, which is the sum of some records, and has what they have read where that is kept
  pub one_part_more : (rs qs : List PlainRecord) (s : PlainSum) (part : PlainRecord) (has : Bool) → All IsMonoid kinds → HasSummed kinds rs s → IsSumFor has kinds qs part → (s.keeps ≡ true → has ≡ true) → HasSummed kinds (rs ++ qs) (added kinds s part)
  one_part_more rs qs s part has monoids h is read = record {
    worths = λ ws are.
        sym (operate_all_assoc kinds ws s.worths (given kinds part) monoids are h.right (given_right kinds part is.sum_is.values))
        ∙ is.sum_is.worths (operate_all kinds ws s.worths) (operate_all_right kinds ws s.worths are h.right)
        ∙ ap (λ us. contributed kinds us qs) (h.worths ws are)
        ∙ sym (contributed_append ws rs qs);
    right = operate_all_right kinds s.worths (given kinds part) h.right (given_right kinds part is.sum_is.values);
    reads = λ keeps.
        ap (λ b. kept_reads b s.reads part.reads) keeps ∙ ap (λ ns. ns ++ part.reads) (h.reads keeps)
        ∙ ap (λ ns. flat_map (λ r. r.reads) rs ++ ns) (is.has (read keeps) ∙ is.sum_is.reads) ∙ sym (flat_map-append (λ r. r.reads) rs qs);
    entered =
        members_then (put_entries s.entered part.entered) (s.entered ++ part.entered) (flat_map (λ r. r.entered) (rs ++ qs)) (entries_members s.entered part.entered)
        (members_then (s.entered ++ part.entered) (flat_map (λ r. r.entered) rs ++ flat_map (λ r. r.entered) qs) (flat_map (λ r. r.entered) (rs ++ qs))
        (members_append s.entered (flat_map (λ r. r.entered) rs) part.entered (flat_map (λ r. r.entered) qs) h.entered is.sum_is.entered)
        (members_same (flat_map (λ r. r.entered) rs ++ flat_map (λ r. r.entered) qs) (flat_map (λ r. r.entered) (rs ++ qs)) (sym (flat_map-append (λ r. r.entered) rs qs))));
    height = ap (λ n. max n part.height) h.height ∙ ap (max (highest rs)) is.sum_is.height ∙ sym (height_append rs qs);
  }

  pub one_record_more : (rs : List PlainRecord) (s : PlainSum) (r : PlainRecord) → All IsMonoid kinds → AreValuesFrom 0 kinds r.contribution → HasSummed kinds rs s → HasSummed kinds (rs ++ r ∷ []) (added kinds s r)
  one_record_more rs s r monoids v h = one_part_more rs (r ∷ []) s r true monoids h (record { reads = r.reads; sum_is = sum_of_one kinds r v; has = λ k. refl }) (λ keeps. refl)

  with_read : (rs : List PlainRecord) (s : PlainSum) (last : PlainRecord) → 0 < length rs → arguments_of_last [] rs ≡ last.arguments → HasSummed kinds rs s
      → IsSumOf kinds rs (with_reads (flat_map (λ r. r.reads) rs) (summed s last))
  with_read [] s last l e h = absurd (omega (arith, l))
  with_read (r ∷ rs) s last l e h = record {
    worths = λ ws are. ap (operate_all kinds ws) (all_filled [] (identities kinds) s.worths 0 refl (identities_length kinds ∙ each kinds s.worths h.right)) ∙ h.worths ws are;
    values = numbered_values [] kinds 0 s.worths refl h.right;
    reads = refl;
    entered = h.entered;
    height = h.height;
    arguments = λ vs. e;
  }

  -- the record of the sum of some records
  pub sum_is : (rs : List PlainRecord) (s : PlainSum) (last : PlainRecord) → 0 < length rs → arguments_of_last [] rs ≡ last.arguments → HasSummed kinds rs s → IsSumFor s.keeps kinds rs (summed s last)
  sum_is rs s last l e h = record { reads = flat_map (λ r. r.reads) rs; sum_is = with_read rs s last l e h; has = h.reads }
