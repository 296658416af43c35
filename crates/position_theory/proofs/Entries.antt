-- Procedures that were entered, as flags at their numbers and as numbers with revision numbers.
use Rattle.std.proofs.Common.{◌≡◌, ℕ, zero, suc, ◌+◌, ◌<◌, ◌⊎◌, Bool, true, false, true≢false, cond, List, [], ◌∷◌, ◌++◌, length, map, replicate, Some, inl, inr, ⊎_elim, refl, sym, ◌∙◌, ap, ap₂, subst, arith, zero-add}
use Rattle.std.specs.Prelude.{nat_eq, slice_get, slice_set}
use Rattle.std.specs.Str.{bytes_eq}
use Rattle.std.proofs.lemmas.List.{length-map, length-replicate, length-set}
use Rattle.std.proofs.lemmas.Option.{slice_get_within}
use Rattle.meaning.specs.Tree.{Name, Proc, Tree}
use Rattle.meaning.specs.Commits.{revision_of}
use Rattle.meaning.specs.Every.{every}
use Rattle.meaning.specs.Records.{is_current}
use Rattle.meaning.specs.Tables.{index_of}
use Rattle.linked_program.specs.Checked.{names_in}
use Rattle.linked_program.specs.Linked.{procedure_number}
use Rattle.linked_program.specs.Procedures.{procedures}
use Rattle.record_theory.specs.Named.{SameMembers, IsInOrder, number_of, numbered_entry}
use Rattle.trail_theory.specs.Order.{In}
use Rattle.positions.specs.Layers.{flagged}
use Rattle.positions.specs.Tallies.{entries_from}
use Rattle.position_theory.proofs.Members.{there, back, same_members, in_map, made_from, map_map}
use Rattle.record_theory.proofs.Same.{first_is, second_is}

-- ---- flags

pub flagged_more : (flags : List Bool) (ps qs : List ℕ) → flagged flags (ps ++ qs) ≡ flagged (flagged flags ps) qs
flagged_more flags [] qs = refl
flagged_more flags (p ∷ ps) qs = flagged_more (slice_set flags p true) ps qs

pub length_flagged : (flags : List Bool) (ps : List ℕ) → length (flagged flags ps) ≡ length flags
length_flagged flags [] = refl
length_flagged flags (p ∷ ps) = length_flagged (slice_set flags p true) ps ∙ length-set flags p true

up_itself : (flags : List Bool) (p : ℕ) → p < length flags → slice_get (slice_set flags p true) p ≡ Some true
up_itself [] p l = absurd (omega (arith, l))
up_itself (b ∷ flags) zero l = refl
up_itself (b ∷ flags) (suc p) l = up_itself flags p (omega (arith, l))

up_still : (flags : List Bool) (p q : ℕ) → slice_get flags q ≡ Some true → slice_get (slice_set flags p true) q ≡ Some true
up_still [] p q e = e
up_still (b ∷ flags) zero zero e = refl
up_still (b ∷ flags) zero (suc q) e = e
up_still (b ∷ flags) (suc p) zero e = e
up_still (b ∷ flags) (suc p) (suc q) e = up_still flags p q e

up_stays : (flags : List Bool) (ps : List ℕ) (q : ℕ) → slice_get flags q ≡ Some true → slice_get (flagged flags ps) q ≡ Some true
up_stays flags [] q e = e
up_stays flags (p ∷ ps) q e = up_stays (slice_set flags p true) ps q (up_still flags p q e)

put_up : (flags : List Bool) (ps : List ℕ) (q : ℕ) → In q ps → q < length flags → slice_get (flagged flags ps) q ≡ Some true
put_up flags [] q h l = absurd h
put_up flags (p ∷ ps) q (inl e) l = up_stays (slice_set flags p true) ps q (subst (λ n. slice_get (slice_set flags n true) q ≡ Some true) e (up_itself flags q l))
put_up flags (p ∷ ps) q (inr h) l = put_up (slice_set flags p true) ps q h (let e : length (slice_set flags p true) ≡ length flags = length-set flags p true in omega (arith, l, e))

up_before : (flags : List Bool) (p q : ℕ) → slice_get (slice_set flags p true) q ≡ Some true → (q ≡ p) ⊎ (slice_get flags q ≡ Some true)
up_before [] p q e = inr e
up_before (b ∷ flags) zero zero e = inl refl
up_before (b ∷ flags) zero (suc q) e = inr e
up_before (b ∷ flags) (suc p) zero e = inr e
up_before (b ∷ flags) (suc p) (suc q) e = ⊎_elim (λ h. inl (ap suc h)) (λ h. inr h) (up_before flags p q e)

was_up : (flags : List Bool) (ps : List ℕ) (q : ℕ) → slice_get (flagged flags ps) q ≡ Some true → In q ps ⊎ (slice_get flags q ≡ Some true)
was_up flags [] q e = inr e
was_up flags (p ∷ ps) q e =
    ⊎_elim (λ h. inl (inr h)) (λ h. ⊎_elim (λ i. inl (inl i)) (λ i. inr i) (up_before flags p q h)) (was_up (slice_set flags p true) ps q e)

none_up : (n q : ℕ) → slice_get (replicate n false) q ≡ Some true → ⊥
none_up zero q e = absurd cc
none_up (suc n) zero e = absurd cc
none_up (suc n) (suc q) e = none_up n q e

-- ---- the order in which flags are put up is of no matter

swapped : (flags : List Bool) (p q : ℕ) → slice_set (slice_set flags p true) q true ≡ slice_set (slice_set flags q true) p true
swapped [] p q = refl
swapped (b ∷ flags) zero zero = refl
swapped (b ∷ flags) zero (suc q) = refl
swapped (b ∷ flags) (suc p) zero = refl
swapped (b ∷ flags) (suc p) (suc q) = ap (λ l. b ∷ l) (swapped flags p q)

flagged_set : (flags : List Bool) (ps : List ℕ) (q : ℕ) → flagged (slice_set flags q true) ps ≡ slice_set (flagged flags ps) q true
flagged_set flags [] q = refl
flagged_set flags (p ∷ ps) q = ap (λ l. flagged l ps) (swapped flags q p) ∙ flagged_set (slice_set flags p true) ps q

flagged_swapped : (flags : List Bool) (ps qs : List ℕ) → flagged (flagged flags ps) qs ≡ flagged (flagged flags qs) ps
flagged_swapped flags [] qs = refl
flagged_swapped flags (p ∷ ps) qs = flagged_swapped (slice_set flags p true) ps qs ∙ ap (λ l. flagged l ps) (flagged_set flags qs p)

set_twice : (flags : List Bool) (p : ℕ) → slice_set (slice_set flags p true) p true ≡ slice_set flags p true
set_twice [] p = refl
set_twice (b ∷ flags) zero = refl
set_twice (b ∷ flags) (suc p) = ap (λ l. b ∷ l) (set_twice flags p)

already_one : (flags : List Bool) (ps : List ℕ) (q : ℕ) → In q ps → slice_set (flagged flags ps) q true ≡ flagged flags ps
already_one flags [] q h = absurd h
already_one flags (p ∷ ps) q (inl e) =
    sym (flagged_set (slice_set flags p true) ps q)
    ∙ ap (λ n. flagged (slice_set (slice_set flags p true) n true) ps) e
    ∙ ap (λ l. flagged l ps) (set_twice flags p)
already_one flags (p ∷ ps) q (inr h) = already_one (slice_set flags p true) ps q h

already : (flags : List Bool) (ps qs : List ℕ) → ((q : ℕ) → In q qs → In q ps) → flagged (flagged flags ps) qs ≡ flagged flags ps
already flags ps [] h = refl
already flags ps (q ∷ qs) h = ap (λ l. flagged l qs) (already_one flags ps q (h q (inl refl))) ∙ already flags ps qs (λ r i. h r (inr i))

pub flagged_same : (flags : List Bool) (ps qs : List ℕ) → SameMembers ps qs → flagged flags ps ≡ flagged flags qs
flagged_same flags ps qs h =
    sym (already flags ps qs (back ps qs h)) ∙ flagged_swapped flags ps qs ∙ already flags qs ps (there ps qs h)

-- ---- revision numbers by numbers

abbrev numbers_of : List (Name × ℕ) → List ℕ
numbers_of es = map (λ e. e.1) es

revision_at : (es : List (Name × ℕ)) (f : Name) (v : ℕ) → slice_get (numbers_of es) (index_of (names_in es) f) ≡ Some v → revision_of es f ≡ v
revision_at [] f v = λ e. absurd cc
revision_at (x ∷ es) f v =
    elim (bytes_eq x.0 f) as (λ b. slice_get (numbers_of (x ∷ es)) (cond b 0 (suc (index_of (names_in es) f))) ≡ Some v → cond b x.1 (revision_of es f) ≡ v) [
      | true ↦ λ e. (let h : x.1 ≡ v = cc (e) in h)
      | false ↦ λ e. revision_at es f v e
    ]

current_there : (es : List (Name × ℕ)) (f : Name) (n : ℕ) → is_current es (f, n) ≡ true → slice_get (numbers_of es) (index_of (names_in es) f) ≡ Some (revision_of es f)
current_there [] f n = λ e. absurd (true≢false (sym e))
current_there (x ∷ es) f n =
    elim (bytes_eq x.0 f) as (λ b. cond b (nat_eq x.1 n) (is_current es (f, n)) ≡ true → slice_get (numbers_of (x ∷ es)) (cond b 0 (suc (index_of (names_in es) f))) ≡ Some (cond b x.1 (revision_of es f))) [
      | true ↦ λ e. refl
      | false ↦ λ e. current_there es f n e
    ]

-- ---- the numbers whose flags are up

-- an entry has the number of a flag that is up, with its revision number
record IsUp (i : ℕ) (es : List (Name × ℕ)) (flags : List Bool) (q v : ℕ) : Type 0 where
  place : ℕ
  is : q ≡ i + place
  up : slice_get flags place ≡ Some true
  revision : slice_get (numbers_of es) place ≡ Some v

up_next : (i : ℕ) (e : Name × ℕ) (es : List (Name × ℕ)) (b : Bool) (flags : List Bool) (q v : ℕ) → IsUp (suc i) es flags q v → IsUp i (e ∷ es) (b ∷ flags) q v
up_next i e es b flags q v h = record { place = suc h.place; is = (let l : q ≡ suc i + h.place = h.is in omega (arith, l)); up = h.up; revision = h.revision }

entry_up : (i : ℕ) (es : List (Name × ℕ)) (flags : List Bool) (x : ℕ × ℕ) → In x (entries_from i es flags) → IsUp i es flags x.0 x.1
entry_up i [] flags x h = absurd h
entry_up i (e ∷ es) [] x h = absurd h
entry_up i (e ∷ es) (true ∷ flags) x (inl h) =
    record { place = 0; is = ap (λ (p : ℕ × ℕ). p.0) h ∙ (let l : i ≡ i + 0 = omega arith in l); up = refl; revision = ap (λ (p : ℕ × ℕ). Some p.1) (sym h) }
entry_up i (e ∷ es) (true ∷ flags) x (inr h) = up_next i e es true flags x.0 x.1 (entry_up (suc i) es flags x h)
entry_up i (e ∷ es) (false ∷ flags) x h = up_next i e es false flags x.0 x.1 (entry_up (suc i) es flags x h)

entry_there : (i : ℕ) (es : List (Name × ℕ)) (flags : List Bool) (p v : ℕ) → slice_get flags p ≡ Some true → slice_get (numbers_of es) p ≡ Some v → In (i + p, v) (entries_from i es flags)
entry_there i [] flags p v up r = absurd cc
entry_there i (e ∷ es) [] p v up r = absurd cc
entry_there i (e ∷ es) (true ∷ flags) zero v up r = inl (ap₂ (λ a b. (a, b)) (let l : i + 0 ≡ i = omega arith in l) (let h : v ≡ e.1 = cc (r) in h))
entry_there i (e ∷ es) (false ∷ flags) zero v up r = absurd (true≢false (let h : true ≡ false = cc (up) in h))
entry_there i (e ∷ es) (true ∷ flags) (suc p) v up r =
    inr (subst (λ n. In (n, v) (entries_from (suc i) es flags)) (let l : suc i + p ≡ i + suc p = omega arith in l) (entry_there (suc i) es flags p v up r))
entry_there i (e ∷ es) (false ∷ flags) (suc p) v up r =
    subst (λ n. In (n, v) (entries_from (suc i) es flags)) (let l : suc i + p ≡ i + suc p = omega arith in l) (entry_there (suc i) es flags p v up r)

-- ---- the entries of a record

every_in : {A : Type 0} (test : A → Bool) (xs : List A) (x : A) → every test xs ≡ true → In x xs → test x ≡ true
every_in test [] x e h = absurd h
every_in test (y ∷ xs) x e (inl h) = ap test h ∙ first_is (test y) (every test xs) e
every_in test (y ∷ xs) x e (inr h) = every_in test xs x (second_is (test y) (every test xs) e) h

place_of_name : (ps : List Proc) (f : Name) → procedure_number ps f ≡ index_of (map (λ p. p.called) ps) f
place_of_name [] f = refl
place_of_name (p ∷ ps) f = ap (λ (n : ℕ). cond (bytes_eq p.called f) 0 (suc n)) (place_of_name ps f)

module _ (t : Tree) (revisions : List (Name × ℕ)) (listed : IsInOrder t revisions) where
  abbrev with_revision : Name → Name × ℕ
  with_revision f = (f, revision_of revisions f)

  abbrev entry_of : Name → ℕ × ℕ
  entry_of f = (number_of t f, revision_of revisions f)

  number_is : (f : Name) → number_of t f ≡ index_of (names_in revisions) f
  number_is f = place_of_name (procedures t) f ∙ ap (λ (ns : List Name). index_of ns f) (sym listed)

  abbrev flags_of : List Name → List Bool
  flags_of fs = flagged (replicate (length (procedures t)) false) (map (number_of t) fs)

  entered_there : (fs : List Name) (x : ℕ × ℕ) → In x (entries_from 0 revisions (flags_of fs)) → In x (map entry_of fs)
  entered_there fs x h =
      let u = entry_up 0 revisions (flags_of fs) x h in
      let q : x.0 ≡ u.place = u.is ∙ zero-add u.place in
      let i : In u.place (map (number_of t) fs) = ⊎_elim (λ j. j) (λ j. absurd (none_up (length (procedures t)) u.place j)) (was_up (replicate (length (procedures t)) false) (map (number_of t) fs) u.place u.up) in
      let m = made_from (number_of t) fs u.place i in
      let r : revision_of revisions m.it ≡ x.1 = revision_at revisions m.it x.1 (subst (λ n. slice_get (numbers_of revisions) n ≡ Some x.1) (m.is ∙ number_is m.it) u.revision) in
      subst (λ y. In y (map entry_of fs)) (ap₂ (λ a b. (a, b)) (sym m.is ∙ sym q) r) (in_map entry_of fs m.it m.is_in)

  entered_back : (fs : List Name) → every (is_current revisions) (map with_revision fs) ≡ true → (x : ℕ × ℕ) → In x (map entry_of fs) → In x (entries_from 0 revisions (flags_of fs))
  entered_back fs now x h =
      let m = made_from entry_of fs x h in
      let c : is_current revisions (with_revision m.it) ≡ true = every_in (is_current revisions) (map with_revision fs) (with_revision m.it) now (in_map with_revision fs m.it m.is_in) in
      let r : slice_get (numbers_of revisions) (number_of t m.it) ≡ Some (revision_of revisions m.it) =
      subst (λ n. slice_get (numbers_of revisions) n ≡ Some (revision_of revisions m.it)) (sym (number_is m.it)) (current_there revisions m.it (revision_of revisions m.it) c) in
      let long : length (numbers_of revisions) ≡ length (replicate (length (procedures t)) false) =
      length-map revisions (λ e. e.1) ∙ sym (length-map revisions (λ e. e.0)) ∙ ap length listed ∙ length-map (procedures t) (λ p. p.called) ∙ sym (length-replicate (length (procedures t)) false) in
      let within : number_of t m.it < length (numbers_of revisions) = slice_get_within (numbers_of revisions) (number_of t m.it) (revision_of revisions m.it) r in
      let up : slice_get (flags_of fs) (number_of t m.it) ≡ Some true =
      put_up (replicate (length (procedures t)) false) (map (number_of t) fs) (number_of t m.it) (in_map (number_of t) fs m.it m.is_in) (omega (arith, within, long)) in
      subst (λ y. In y (entries_from 0 revisions (flags_of fs))) (ap (λ n. (n, revision_of revisions m.it)) (zero-add (number_of t m.it)) ∙ sym m.is)
      (entry_there 0 revisions (flags_of fs) (number_of t m.it) (revision_of revisions m.it) up r)

  -- the flags of what was entered give the procedures with their revision numbers, where each of them has one
  pub entries_are : (fs : List Name) → every (is_current revisions) (map with_revision fs) ≡ true
      → SameMembers (entries_from 0 revisions (flags_of fs)) (map (numbered_entry t) (map with_revision fs))
  entries_are fs now =
      subst (SameMembers (entries_from 0 revisions (flags_of fs))) (sym (map_map (numbered_entry t) with_revision fs))
      (same_members (entries_from 0 revisions (flags_of fs)) (map entry_of fs) (entered_there fs) (entered_back fs now))
