-- Values and readings that are found to be the same are equal: each reading once are the same readings, and the values that differ from the identities are all that there are.
use Rattle.std.proofs.Common.{◌≡◌, ℕ, suc, ◌+◌, ◌<◌, ◌≤◌, ◌⊎◌, ℤ, Bool, true, false, true≢false, cond, List, [], ◌∷◌, ◌++◌, length, Option, Some, None, inl, inr, ⊎_elim, refl, sym, ◌∙◌, ap, ap₂, subst, arith, append_assoc}
use Rattle.std.specs.Prelude.{◌||◌, slice_set}
use Rattle.std.specs.Cmp.Lexicographic.{pointwise}
use Rattle.std.specs.List.{list_any}
use Rattle.std.specs.Ordering.{int_eq}
use Rattle.std.proofs.lemmas.List.{length-append}
use Rattle.monoid_laws.specs.declared.Kind.{Kind}
use Rattle.monoid_laws.specs.Worth.{Worth, number, items, best, line, amounts, element}
use Rattle.monoid_laws.specs.Kinds.{identities, identity_of}
use Rattle.evaluation.specs.declared.note.Note.{Note}
use Rattle.record_theory.specs.Named.{NameReducersFrom, SameMembers, filled}
use Rattle.trail_theory.specs.Order.{In}
use Rattle.trail_theory.proofs.Places.{in_append, in_left, in_right}
use Rattle.positions.specs.Tallies.{touched_from}
use Rattle.record_theory.specs.Same.{same_note}
use Rattle.record_theory.proofs.Same.{first_is, second_is, number_is, integer_is, note_is}
use Rattle.positions.specs.Values.{same_pair, same_best, same_worth, put_note, once_behind, once}
use Rattle.position_theory.proofs.Members.{same_members}

-- ---- tests that hold

each_is : {A : Type 0} (same : A → A → Bool) → ((a b : A) → same a b ≡ true → a ≡ b) → (xs ys : List A) → pointwise same xs ys ≡ true → xs ≡ ys
each_is same is [] [] e = refl
each_is same is [] (y ∷ ys) e = absurd (true≢false (sym e))
each_is same is (x ∷ xs) [] e = absurd (true≢false (sym e))
each_is same is (x ∷ xs) (y ∷ ys) e =
    ap₂ (λ z zs. z ∷ zs) (is x y (first_is (same x y) (pointwise same xs ys) e)) (each_is same is xs ys (second_is (same x y) (pointwise same xs ys) e))

pair_is : (a b : ℤ × ℤ) → same_pair a b ≡ true → a ≡ b
pair_is (a, b) (c, d) e = ap₂ (λ x y. (x, y)) (integer_is a c (first_is (int_eq a c) (int_eq b d) e)) (integer_is b d (second_is (int_eq a c) (int_eq b d) e))

best_is : (a b : Option (ℤ × ℤ)) → same_best a b ≡ true → a ≡ b
best_is None None e = refl
best_is None (Some b) e = absurd (true≢false (sym e))
best_is (Some a) None e = absurd (true≢false (sym e))
best_is (Some a) (Some b) e = ap Some (pair_is a b e)

worth_is : (a b : Worth) → same_worth a b ≡ true → a ≡ b
worth_is (number a) (number b) e = ap number (integer_is a b e)
worth_is (number a) (items ys) e = absurd (true≢false (sym e))
worth_is (number a) (best b) e = absurd (true≢false (sym e))
worth_is (number a) (line c d) e = absurd (true≢false (sym e))
worth_is (number a) (amounts ys) e = absurd (true≢false (sym e))
worth_is (number a) (element b) e = absurd (true≢false (sym e))
worth_is (items xs) (number b) e = absurd (true≢false (sym e))
worth_is (items xs) (items ys) e = ap items (each_is int_eq integer_is xs ys e)
worth_is (items xs) (best b) e = absurd (true≢false (sym e))
worth_is (items xs) (line c d) e = absurd (true≢false (sym e))
worth_is (items xs) (amounts ys) e = absurd (true≢false (sym e))
worth_is (items xs) (element b) e = absurd (true≢false (sym e))
worth_is (best a) (number b) e = absurd (true≢false (sym e))
worth_is (best a) (items ys) e = absurd (true≢false (sym e))
worth_is (best a) (best b) e = ap best (best_is a b e)
worth_is (best a) (line c d) e = absurd (true≢false (sym e))
worth_is (best a) (amounts ys) e = absurd (true≢false (sym e))
worth_is (best a) (element b) e = absurd (true≢false (sym e))
worth_is (line a b) (number c) e = absurd (true≢false (sym e))
worth_is (line a b) (items ys) e = absurd (true≢false (sym e))
worth_is (line a b) (best c) e = absurd (true≢false (sym e))
worth_is (line a b) (line c d) e = ap₂ line (integer_is a c (first_is (int_eq a c) (int_eq b d) e)) (integer_is b d (second_is (int_eq a c) (int_eq b d) e))
worth_is (line a b) (amounts ys) e = absurd (true≢false (sym e))
worth_is (line a b) (element c) e = absurd (true≢false (sym e))
worth_is (amounts xs) (number b) e = absurd (true≢false (sym e))
worth_is (amounts xs) (items ys) e = absurd (true≢false (sym e))
worth_is (amounts xs) (best b) e = absurd (true≢false (sym e))
worth_is (amounts xs) (line c d) e = absurd (true≢false (sym e))
worth_is (amounts xs) (amounts ys) e = ap amounts (each_is same_pair pair_is xs ys e)
worth_is (amounts xs) (element b) e = absurd (true≢false (sym e))
worth_is (element a) (number b) e = absurd (true≢false (sym e))
worth_is (element a) (items ys) e = absurd (true≢false (sym e))
worth_is (element a) (best b) e = absurd (true≢false (sym e))
worth_is (element a) (line c d) e = absurd (true≢false (sym e))
worth_is (element a) (amounts ys) e = absurd (true≢false (sym e))
worth_is (element a) (element b) e = ap element (number_is a b e)

-- ---- each reading once

in_either : (a b : Bool) → (a || b) ≡ true → (a ≡ true) ⊎ (b ≡ true)
in_either true b e = inl refl
in_either false b e = inr e

seen_in : (n : Note) (seen : List Note) → list_any (same_note n) seen ≡ true → In n seen
seen_in n [] e = absurd (true≢false (sym e))
seen_in n (m ∷ seen) e =
    ⊎_elim (λ h. inl (note_is n m h)) (λ h. inr (seen_in n seen h)) (in_either (same_note n m) (list_any (same_note n) seen) e)

put_there : (seen : List Note) (n x : Note) (b : Bool) → list_any (same_note n) seen ≡ b → In x (n ∷ []) ⊎ In x seen → In x (cond b seen (seen ++ n ∷ []))
put_there seen n x true e (inl (inl h)) = subst (λ y. In y seen) (sym h) (seen_in n seen e)
put_there seen n x true e (inl (inr h)) = absurd h
put_there seen n x true e (inr h) = h
put_there seen n x false e (inl h) = in_right x seen (n ∷ []) h
put_there seen n x false e (inr h) = in_left x seen (n ∷ []) h

put_back : (seen : List Note) (n x : Note) (b : Bool) → In x (cond b seen (seen ++ n ∷ [])) → In x (n ∷ []) ⊎ In x seen
put_back seen n x true h = inr h
put_back seen n x false h = ⊎_elim (λ i. inr i) (λ i. inl i) (in_append x seen (n ∷ []) h)

abbrev first_in : (n x : Note) (ns : List Note) → In x (n ∷ []) → In x (n ∷ ns)
first_in n x ns (inl e) = inl e
first_in n x ns (inr h) = absurd h

once_there : (ns seen : List Note) (x : Note) → In x ns ⊎ In x seen → In x (once_behind seen ns)
once_there [] seen x (inl h) = absurd h
once_there [] seen x (inr h) = h
once_there (n ∷ ns) seen x (inl (inl e)) = once_there ns (put_note seen n) x (inr (put_there seen n x (list_any (same_note n) seen) refl (inl (inl e))))
once_there (n ∷ ns) seen x (inl (inr h)) = once_there ns (put_note seen n) x (inl h)
once_there (n ∷ ns) seen x (inr h) = once_there ns (put_note seen n) x (inr (put_there seen n x (list_any (same_note n) seen) refl (inr h)))

once_back : (ns seen : List Note) (x : Note) → In x (once_behind seen ns) → In x ns ⊎ In x seen
once_back [] seen x h = inr h
once_back (n ∷ ns) seen x h =
    ⊎_elim (λ i. inl (inr i)) (λ i. ⊎_elim (λ j. inl (first_in n x ns j)) (λ j. inr j) (put_back seen n x (list_any (same_note n) seen) i)) (once_back ns (put_note seen n) x h)

pub once_is : (ns : List Note) → SameMembers (once ns) ns
once_is ns = same_members (once ns) ns (λ x h. ⊎_elim (λ i. i) (λ i. absurd i) (once_back ns [] x h)) (λ x h. once_there ns [] x (inl h))

-- ---- the values that differ from the identities

set_behind : (pre rest : List Worth) (x w : Worth) (i : ℕ) → i ≡ length pre → slice_set (pre ++ x ∷ rest) i w ≡ pre ++ w ∷ rest
set_behind [] rest x w i e = ap (λ n. slice_set (x ∷ rest) n w) e
set_behind (p ∷ pre) rest x w i e = ap (λ n. slice_set (p ∷ pre ++ x ∷ rest) n w) e ∙ ap (λ l. p ∷ l) (set_behind pre rest x w (length pre) refl)

filled_from : (kinds : List Kind) (ws pre : List Worth) (i : ℕ) → i ≡ length pre → length ws ≡ length kinds → filled (pre ++ identities kinds) (touched_from i kinds ws) ≡ pre ++ ws
filled_from [] [] pre i e l = refl
filled_from [] (w ∷ ws) pre i e l = absurd (omega arith)
filled_from (k ∷ ks) [] pre i e l = absurd (omega arith)
filled_from (k ∷ ks) (w ∷ ws) pre i e l =
    let next : suc i ≡ length (pre ++ w ∷ []) = let long : length (pre ++ w ∷ []) ≡ length pre + 1 = length-append pre (w ∷ []) in omega (arith, e, long) in
    let rest : filled ((pre ++ w ∷ []) ++ identities ks) (touched_from (suc i) ks ws) ≡ (pre ++ w ∷ []) ++ ws = filled_from ks ws (pre ++ w ∷ []) (suc i) next (omega arith) in
    let joined : filled (pre ++ w ∷ identities ks) (touched_from (suc i) ks ws) ≡ pre ++ w ∷ ws =
    ap (λ l. filled l (touched_from (suc i) ks ws)) (sym (append_assoc pre (w ∷ []) (identities ks))) ∙ rest ∙ append_assoc pre (w ∷ []) ws in
    elim (same_worth w (identity_of k)) as (λ b. same_worth w (identity_of k) ≡ b → filled (pre ++ identities (k ∷ ks)) (cond b (touched_from (suc i) ks ws) ((i, w) ∷ touched_from (suc i) ks ws)) ≡ pre ++ w ∷ ws) [
      | true ↦ λ q. ap (λ v. filled (pre ++ v ∷ identities ks) (touched_from (suc i) ks ws)) (sym (worth_is w (identity_of k) q)) ∙ joined
      | false ↦ λ q. ap (λ l. filled l (touched_from (suc i) ks ws)) (set_behind pre (identities ks) (identity_of k) w i e) ∙ joined
    ] refl

pub touched_is : (kinds : List Kind) (ws : List Worth) → length ws ≡ length kinds → filled (identities kinds) (touched_from 0 kinds ws) ≡ ws
touched_is kinds ws l = filled_from kinds ws [] 0 refl l

-- they name reducers, each once and in order
named_lower : (count i : ℕ) (es : List (ℕ × Worth)) → NameReducersFrom (suc i) count es → NameReducersFrom i count es
named_lower count i [] h = tt
named_lower count i (e ∷ es) h = (let b : suc i ≤ e.0 = h.0 in omega (arith, b), h.1, h.2)

named_by : (b : Bool) (count i : ℕ) (w : Worth) (es : List (ℕ × Worth)) → i < count → NameReducersFrom (suc i) count es → NameReducersFrom i count (cond b es ((i, w) ∷ es))
named_by true count i w es l h = named_lower count i es h
named_by false count i w es l h = (omega arith, l, h)

named_from : (kinds : List Kind) (ws : List Worth) (i count : ℕ) → i + length kinds ≡ count → NameReducersFrom i count (touched_from i kinds ws)
named_from [] ws i count e = tt
named_from (k ∷ ks) [] i count e = tt
named_from (k ∷ ks) (w ∷ ws) i count e =
    named_by (same_worth w (identity_of k)) count i w (touched_from (suc i) ks ws) (omega (arith, e)) (named_from ks ws (suc i) count (omega (arith, e)))

pub touched_named : (kinds : List Kind) (ws : List Worth) → NameReducersFrom 0 (length kinds) (touched_from 0 kinds ws)
touched_named kinds ws = named_from kinds ws 0 (length kinds) (omega arith)
