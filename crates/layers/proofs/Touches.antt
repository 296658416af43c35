-- What a record keeps of a layer, gathered one number after another.
use Rattle.std.proofs.Common.{◌≡◌, ℕ, zero, suc, ◌+◌, ◌<◌, ◌≤◌, Bool, true, false, cond, List, [], ◌∷◌, ◌++◌, length, drop, reverse, ℤ, Option, None, Some, option_map, slice_get, refl, sym, ap, ◌∙◌, subst, arith, get_or, add-one}
use Rattle.std.proofs.lemmas.List.{append_assoc, append-nil, drop_all, drop_more, reverse-append}
use Rattle.std.specs.Prelude.{IfSome}
use Rattle.std.proofs.lemmas.List.Elements.{All-append, All-push}
use Rattle.std.proofs.lemmas.Grind.{common_steps}
use Rattle.meaning.specs.Tree.{Name}
use Rattle.monoid_laws.specs.declared.Kind.TheVariants as k
use Rattle.record_theory.specs.Record.{PlainRecord}
use Rattle.monoid_laws.specs.declared.Kind.{Kind}
use Rattle.monoid_laws.specs.Worth.{Worth}
use Rattle.monoid_laws.specs.Kinds.{identity_of, AreWorths}
use Rattle.record_theory.specs.Named.{IsValueAt, AreValuesFrom, HasValuesIfAnswers, HaveValues}
use Rattle.positions.specs.Layers.{PlainLayer}
use Rattle.positions.specs.Values.{same_worth}
use Rattle.positions.specs.Tallies.{PlainOpened, PlainTally, closing, closing_by, record_by, touched_from, touched_at, entries_from}
use Rattle.layers.specs.Recordings.{entry_of, found_entry}
use Rattle.record_theory.proofs.Absorbed.{each, values_lower}

-- ---- the values of reducers

first_touched : (b : Bool) (e : ℕ × Worth) (es : List (ℕ × Worth)) → cond b es (e ∷ es) ≡ cond b [] (e ∷ []) ++ es
first_touched true e es = refl
first_touched false e es = refl

pub touched_step : (i : ℕ) (k : Kind) (ks : List Kind) (w : Worth) (ws : List Worth) → touched_from i (k ∷ ks) (w ∷ ws) ≡ touched_at i k w ++ touched_from (suc i) ks ws
touched_step i k ks w ws = first_touched (same_worth w (identity_of k)) (i, w) (touched_from (suc i) ks ws)

touched_on : (i : ℕ) (ks : List Kind) (ws : List Worth) (k : Kind) (w : Worth) → i < length ks → i < length ws → k ≡ get_or ks i k → w ≡ get_or ws i w
    → touched_from i (drop i ks) (drop i ws) ≡ touched_at i k w ++ touched_from (i + 1) (drop (i + 1) ks) (drop (i + 1) ws)
touched_on i ks ws k w l m e f =
    let p : drop i ks ≡ k ∷ drop (i + 1) ks = drop_more ks i k l ∙ ap (λ c. c ∷ drop (i + 1) ks) (sym e) in
    let q : drop i ws ≡ w ∷ drop (i + 1) ws = drop_more ws i w m ∙ ap (λ v. v ∷ drop (i + 1) ws) (sym f) in
    ap (λ cs. touched_from i cs (drop i ws)) p ∙ ap (touched_from i (k ∷ drop (i + 1) ks)) q
    ∙ touched_step i k (drop (i + 1) ks) w (drop (i + 1) ws)
    ∙ ap (λ j. touched_at i k w ++ touched_from j (drop (i + 1) ks) (drop (i + 1) ws)) (sym (add-one i))

pub touched_next : (xs ys : List (ℕ × Worth)) (i : ℕ) (ks : List Kind) (ws : List Worth) (k : Kind) (w : Worth) → AreWorths ks ws → i < length ks → k ≡ get_or ks i k → w ≡ get_or ws i w
    → xs ++ touched_from i (drop i ks) (drop i ws) ≡ touched_from 0 ks ws → ys ≡ xs ++ touched_at i k w
    → ys ++ touched_from (i + 1) (drop (i + 1) ks) (drop (i + 1) ws) ≡ touched_from 0 ks ws
touched_next xs ys i ks ws k w a l e f so_far more =
    let rest : List (ℕ × Worth) = touched_from (i + 1) (drop (i + 1) ks) (drop (i + 1) ws) in
    ap (λ zs. zs ++ touched_from (i + 1) (drop (i + 1) ks) (drop (i + 1) ws)) more
    ∙ append_assoc xs (touched_at i k w) (touched_from (i + 1) (drop (i + 1) ks) (drop (i + 1) ws))
    ∙ ap (λ zs. xs ++ zs) (sym (touched_on i ks ws k w l (subst (λ n. i < n) (each ks ws a) l) e f))
    ∙ so_far

pub touched_all : (xs : List (ℕ × Worth)) (i : ℕ) (ks : List Kind) (ws : List Worth) → length ks ≤ i → xs ++ touched_from i (drop i ks) (drop i ws) ≡ touched_from 0 ks ws → xs ≡ touched_from 0 ks ws
touched_all xs i ks ws l so_far =
    sym (append-nil xs) ∙ ap (λ cs. xs ++ touched_from i cs (drop i ws)) (sym (drop_all i ks l)) ∙ so_far

drop_first : {A : Type 0} (all : List A) (i : ℕ) (x : A) (xs : List A) → drop i all ≡ x ∷ xs → (slice_get all i ≡ Some x) × (drop (suc i) all ≡ xs)
drop_first [] zero x xs e = absurd cc
drop_first [] (suc i) x xs e = absurd cc
drop_first (y ∷ all) zero x xs e = let p : y ≡ x = cc in let q : all ≡ xs = cc in (ap Some p, q)
drop_first (y ∷ all) (suc i) x xs e = drop_first all i x xs e

values_by : (b : Bool) (all : List Kind) (i : ℕ) (w : Worth) (es : List (ℕ × Worth)) → IsValueAt (slice_get all i) w → AreValuesFrom (suc i) all es → AreValuesFrom i all (cond b es ((i, w) ∷ es))
values_by true all i w es v h = values_lower i (suc i) all es (omega arith) h
values_by false all i w es v h = (omega arith, v, h)

touched_values_from : (all ks : List Kind) (i : ℕ) (ws : List Worth) → drop i all ≡ ks → AreWorths ks ws → AreValuesFrom i all (touched_from i ks ws)
touched_values_from all [] i ws e a = tt
touched_values_from all (k ∷ ks) i [] e a = absurd a
touched_values_from all (k ∷ ks) i (w ∷ ws) e a =
    let d : (slice_get all i ≡ Some k) × (drop (suc i) all ≡ ks) = drop_first all i k ks e in
    values_by (same_worth w (identity_of k)) all i w (touched_from (suc i) ks ws) (subst (λ o. IsValueAt o w) (sym d.0) a.0) (touched_values_from all ks (suc i) ws d.1 a.1)

pub touched_values : (ks : List Kind) (ws : List Worth) → AreWorths ks ws → AreValuesFrom 0 ks (touched_from 0 ks ws)
touched_values ks ws a = touched_values_from ks ks 0 ws refl a

-- ---- the procedures entered

raised_on : (i j : ℕ) (es : List (Name × ℕ)) (flags : List Bool) → i < length flags → get_or flags i false ≡ true
    → entries_from j (drop i es) (drop i flags) ≡ entry_of j (slice_get es i) ++ entries_from (suc j) (drop (suc i) es) (drop (suc i) flags)
raised_on i j es [] l e = absurd (omega arith)
raised_on zero j [] (b ∷ flags) l e = refl
raised_on (suc i) j [] (b ∷ flags) l e = refl
raised_on zero j (d ∷ es) (true ∷ flags) l e = refl
raised_on zero j (d ∷ es) (false ∷ flags) l e = absurd cc
raised_on (suc i) j (d ∷ es) (b ∷ flags) l e = raised_on i j es flags (omega arith) e

lowered_on : (i j : ℕ) (es : List (Name × ℕ)) (flags : List Bool) → i < length flags → get_or flags i false ≡ false
    → entries_from j (drop i es) (drop i flags) ≡ entries_from (suc j) (drop (suc i) es) (drop (suc i) flags)
lowered_on i j es [] l e = absurd (omega arith)
lowered_on zero j [] (b ∷ flags) l e = refl
lowered_on (suc i) j [] (b ∷ flags) l e = refl
lowered_on zero j (d ∷ es) (true ∷ flags) l e = absurd cc
lowered_on zero j (d ∷ es) (false ∷ flags) l e = refl
lowered_on (suc i) j (d ∷ es) (b ∷ flags) l e = lowered_on i j es flags (omega arith) e

module _ (xs : List (ℕ × ℕ)) (i : ℕ) (es : List (Name × ℕ)) (flags : List Bool) (so_far : xs ++ entries_from i (drop i es) (drop i flags) ≡ entries_from 0 es flags) where
  pub entry_next : (ys : List (ℕ × ℕ)) → i < length flags → get_or flags i false ≡ true → ys ≡ xs ++ entry_of i (slice_get es i)
      → ys ++ entries_from (i + 1) (drop (i + 1) es) (drop (i + 1) flags) ≡ entries_from 0 es flags
  entry_next ys l up more =
      ap (λ zs. zs ++ entries_from (i + 1) (drop (i + 1) es) (drop (i + 1) flags)) more
      ∙ ap (λ j. (xs ++ entry_of i (slice_get es i)) ++ entries_from j (drop j es) (drop j flags)) (add-one i)
      ∙ append_assoc xs (entry_of i (slice_get es i)) (entries_from (suc i) (drop (suc i) es) (drop (suc i) flags))
      ∙ ap (λ zs. xs ++ zs) (sym (raised_on i i es flags l up))
      ∙ so_far

  pub entry_passed : i < length flags → get_or flags i false ≡ false → xs ++ entries_from (i + 1) (drop (i + 1) es) (drop (i + 1) flags) ≡ entries_from 0 es flags
  entry_passed l down =
      ap (λ j. xs ++ entries_from j (drop j es) (drop j flags)) (add-one i)
      ∙ ap (λ zs. xs ++ zs) (sym (lowered_on i i es flags l down))
      ∙ so_far

  no_flags : (es : List (Name × ℕ)) → entries_from i es [] ≡ []
  no_flags [] = refl
  no_flags (e ∷ es) = refl

  pub entries_all : length flags ≤ i → xs ≡ entries_from 0 es flags
  entries_all l =
      sym (append-nil xs) ∙ ap (λ zs. xs ++ zs) (sym (no_flags (drop i es))) ∙ ap (λ fs. xs ++ entries_from i (drop i es) fs) (sym (drop_all i flags l)) ∙ so_far

-- the only procedure entered
pub only_entry : (es : List (Name × ℕ)) (flags : List Bool) (o : Option ℕ) → found_entry es o ≡ entries_from 0 es flags → IfSome o (λ i. entries_from 0 es flags ≡ entry_of i (slice_get es i))
only_entry es flags None e = tt
only_entry es flags (Some i) e = sym e

-- where two were found at last they are the only ones
pub two_entries : (es : List (Name × ℕ)) (flags : List Bool) (older newer : Option ℕ) (o : Option (ℕ × ℕ)) → IfSome o (λ p. older ≡ Some p.0) → IfSome o (λ p. newer ≡ Some p.1)
    → found_entry es older ++ found_entry es newer ≡ entries_from 0 es flags
    → IfSome o (λ p. entries_from 0 es flags ≡ entry_of p.0 (slice_get es p.0) ++ entry_of p.1 (slice_get es p.1))
two_entries es flags older newer None a b e = tt
two_entries es flags older newer (Some p) a b e =
    sym e ∙ ap (λ o. found_entry es o ++ found_entry es newer) a ∙ ap (λ o. entry_of p.0 (slice_get es p.0) ++ found_entry es o) b

entry_is : (i : ℕ) (o : Option (Name × ℕ)) (v : ℕ) → option_map (λ e. e.1) o ≡ Some v → entry_of i o ≡ (i, v) ∷ []
entry_is i None v e = absurd cc
entry_is i (Some x) v e = (let same : x.1 ≡ v = cc in ap (λ n. (i, n) ∷ []) same)

-- two procedures that are there, with their revision numbers
pub pair_is : (es : List (Name × ℕ)) (i j v w : ℕ) → option_map (λ e. e.1) (slice_get es i) ≡ Some v → option_map (λ e. e.1) (slice_get es j) ≡ Some w
    → entry_of i (slice_get es i) ++ entry_of j (slice_get es j) ≡ (i, v) ∷ (j, w) ∷ []
pair_is es i j v w a b = ap (λ xs. xs ++ entry_of j (slice_get es j)) (entry_is i (slice_get es i) v a) ∙ ap (λ xs. (i, v) ∷ xs) (entry_is j (slice_get es j) w b)

-- ---- the identities

same_identity : (k : Kind) → same_worth (identity_of k) (identity_of k) ≡ true
same_identity k.Add = refl
same_identity k.Mul = refl
same_identity k.Min = refl
same_identity k.Max = refl
same_identity k.And = refl
same_identity k.Or = refl
same_identity k.Xor = refl
same_identity k.List = refl
same_identity (k.First n) = refl
same_identity (k.Last n) = refl
same_identity k.Argmax = refl
same_identity k.Affine = refl
same_identity k.Hist = refl
same_identity (k.Table t) = grind (arith, common_steps)

pub identity_untouched : (i : ℕ) (k : Kind) (w : Worth) → w ≡ identity_of k → touched_at i k w ≡ []
identity_untouched i k w e =
    ap (λ v. cond (same_worth v (identity_of k)) [] ((i, v) ∷ [])) e ∙ ap (λ b. cond b [] ((i, identity_of k) ∷ [])) (same_identity k)

-- what is known of an option's value
pub some_is : {A : Type 0} (P : A → Type 0) (o : Option A) (x : A) → o ≡ Some x → IfSome o P → P x
some_is P o x e h = subst (λ z. IfSome z P) e h

-- ---- the records made

pub one_more_values : (ks : List Kind) (old new : List PlainRecord) (r : PlainRecord) → new ≡ old ++ r ∷ [] → AreValuesFrom 0 ks r.contribution → HaveValues ks old → HaveValues ks new
one_more_values ks old new r e v h = subst (λ rs. HaveValues ks rs) (sym e) (All-push (HasValuesIfAnswers ks) old r h (λ _. v))

pub both_values : (ks : List Kind) (old more new : List PlainRecord) → new ≡ old ++ more → HaveValues ks old → HaveValues ks more → HaveValues ks new
both_values ks old more new e h k = subst (λ rs. HaveValues ks rs) (sym e) (All-append (HasValuesIfAnswers ks) old more h k)

-- the topmost instance is over, and its record is the last one
pub closed_tally : (revisions : List (Name × ℕ)) (l : PlainLayer) (v : ℤ) (now : PlainTally) (all popped : List PlainOpened) (o : PlainOpened) (made : List PlainRecord) (r : PlainRecord) (n m k : ℕ)
    → record { opened = reverse all; made = made; executed = n; reused = m; unrecorded = k } ≡ now → all ≡ popped ++ o ∷ [] → r ≡ record_by revisions o l v
    → record { opened = reverse popped; made = made ++ r ∷ []; executed = n; reused = m; unrecorded = k } ≡ closing revisions l v now
closed_tally revisions l v now all popped o made r n m k t a e =
    ap (λ (q : PlainRecord). record { opened = reverse popped; made = made ++ q ∷ []; executed = n; reused = m; unrecorded = k }) e
    ∙ ap (λ (xs : List PlainOpened). closing_by revisions xs l v (record { opened = xs; made = made; executed = n; reused = m; unrecorded = k }))
    (sym (ap reverse a ∙ reverse-append popped (o ∷ [])))
    ∙ ap (closing revisions l v) t
