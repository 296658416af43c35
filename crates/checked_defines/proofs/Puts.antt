-- What procedures that are put in leave as it was: the reducers, and the numbers of the procedures where no name stands twice.
use Rattle.std.proofs.Common.{◌≡◌, ℕ, zero, suc, ◌+◌, ◌≤◌, ◌<◌, Bool, true, false, cond, ◌||◌, List, [], ◌∷◌, ◌++◌, Option, Some, None, ◌⊎◌, inl, inr, refl, sym, ap, subst, ◌∙◌, arith, append_assoc, add-one}
use Rattle.std.specs.Prelude.{insert, slice_set}
use Rattle.std.proofs.lemmas.List.{append-nil}
use Rattle.std.proofs.lemmas.Slice.Eq.{bytes_eq-Decides}
use Rattle.std.specs.Str.{bytes_eq}
use Rattle.meaning.specs.Tree.{Name, Proc, Red, Decl, reducer, procedure, Tree}
use Rattle.meaning.specs.TreeView.{Lined}
use Rattle.meaning.specs.Statements.{reducers}
use Rattle.source_tree.specs.Source.{Reduces, Defines, Source, stmts_of}
use Rattle.source_tree.specs.Lowering.{lower_proc, body_lines}
use Rattle.linked_program.specs.TableNames.{has_name}
use Rattle.spawn_checker.specs.Renumbered.{AreNew}
use Rattle.trail_theory.proofs.SameTrees.{name_true}
use Rattle.program_edits.specs.Putting.{is_in, is_procedure, last_place, spot_of, put_at, Placed, put_procedure, put_all}
use Rattle.checked_defines.specs.Standings.{called_in, KeepsPlaces}

-- ---- the place of a procedure

-- a procedure of that name stands there
data StandsAt (x : Name) : ℕ → Tree → Type 0 where
  here : (q : Proc) (ds : Tree) → bytes_eq q.called x ≡ true → StandsAt x 0 (procedure q ∷ ds)
  there : (n : ℕ) (d : Decl) (ds : Tree) → StandsAt x n ds → StandsAt x (suc n) (d ∷ ds)

-- it stands there, behind so many
abbrev StandsFrom : Name → ℕ → Tree → ℕ → Type 0
StandsFrom x k ds n = (m : ℕ) × (n ≡ k + m) × StandsAt x m ds

is_here : (x : Name) (d : Decl) (ds : Tree) → is_procedure x d ≡ true → StandsAt x 0 (d ∷ ds)
is_here x (reducer r) ds e = absurd cc
is_here x (procedure p) ds e = here p ds e

module _ (x : Name) (k : ℕ) (d : Decl) (ds : Tree) (n : ℕ) (later : (found : Option ℕ) → last_place (suc k) found x ds ≡ Some n → (found ≡ Some n) ⊎ StandsFrom x (suc k) ds n) where
  found_here : (found : Option ℕ) (b : Bool) → is_procedure x d ≡ b → last_place (suc k) (cond b (Some k) found) x ds ≡ Some n → (found ≡ Some n) ⊎ StandsFrom x k (d ∷ ds) n
  found_here found true i e =
      elim (later (Some k) e) [
        | inl h ↦ let is : k ≡ n = cc in inr (0, omega (arith, is), is_here x d ds i)
        | inr (m, is, at) ↦ inr (suc m, omega (arith, is), there m d ds at)
      ]
  found_here found false i e =
      elim (later found e) [
        | inl h ↦ inl h
        | inr (m, is, at) ↦ inr (suc m, omega (arith, is), there m d ds at)
      ]

found_from : (x : Name) (k : ℕ) (found : Option ℕ) (ds : Tree) (n : ℕ) → last_place k found x ds ≡ Some n → (found ≡ Some n) ⊎ StandsFrom x k ds n
found_from x k found [] n e = inl e
found_from x k found (d ∷ ds) n e = found_here x k d ds n (λ o h. found_from x (suc k) o ds n h) found (is_procedure x d) refl e

stands_at : (x : Name) (ds : Tree) (n : ℕ) → last_place 0 None x ds ≡ Some n → StandsAt x n ds
stands_at x ds n e =
    elim (found_from x 0 None ds n e) [
      | inl h ↦ absurd cc
      | inr (m, is, at) ↦ let same : m ≡ n = omega (arith, is) in subst (λ (k : ℕ). StandsAt x k ds) same at
    ]

-- ---- one procedure put in

module _ (p : Proc) where
  reducers_last : (ds : Tree) → reducers (ds ++ procedure p ∷ []) ≡ reducers ds
  reducers_last [] = refl
  reducers_last (reducer r ∷ ds) = ap (λ (rs : List Red). r ∷ rs) (reducers_last ds)
  reducers_last (procedure q ∷ ds) = reducers_last ds

  called_last : (ds : Tree) → called_in (ds ++ procedure p ∷ []) ≡ called_in ds ++ p.called ∷ []
  called_last [] = refl
  called_last (reducer r ∷ ds) = called_last ds
  called_last (procedure q ∷ ds) = ap (λ (xs : List Name). q.called ∷ xs) (called_last ds)

  reducers_behind : (n : ℕ) (ds : Tree) → reducers (insert ds n (procedure p)) ≡ reducers ds
  reducers_behind zero [] = refl
  reducers_behind (suc n) [] = refl
  reducers_behind zero (d ∷ ds) = refl
  reducers_behind (suc n) (reducer r ∷ ds) = ap (λ (rs : List Red). r ∷ rs) (reducers_behind n ds)
  reducers_behind (suc n) (procedure q ∷ ds) = reducers_behind n ds

  reducers_over : (n : ℕ) (ds : Tree) → StandsAt p.called n ds → reducers (slice_set ds n (procedure p)) ≡ reducers ds
  reducers_over _ _ (here q ds e) = refl
  reducers_over _ _ (there n (reducer r) ds at) = ap (λ (rs : List Red). r ∷ rs) (reducers_over n ds at)
  reducers_over _ _ (there n (procedure q) ds at) = reducers_over n ds at

  called_over : (n : ℕ) (ds : Tree) → StandsAt p.called n ds → called_in (slice_set ds n (procedure p)) ≡ called_in ds
  called_over _ _ (here q ds e) = ap (λ (x : Name). x ∷ called_in ds) (sym (name_true q.called p.called e))
  called_over _ _ (there n (reducer r) ds at) = called_over n ds at
  called_over _ _ (there n (procedure q) ds at) = ap (λ (xs : List Name). q.called ∷ xs) (called_over n ds at)

  abbrev placed : Bool → Option ℕ → Tree → Tree
  placed again o ds = put_at (spot_of again o) (procedure p) ds

  reducers_placed : (again : Bool) (o : Option ℕ) (ds : Tree) → last_place 0 None p.called ds ≡ o → reducers (placed again o ds) ≡ reducers ds
  reducers_placed again None ds e = reducers_last ds
  reducers_placed true (Some n) ds e = reducers_behind (n + 1) ds
  reducers_placed false (Some n) ds e = reducers_over n ds (stands_at p.called ds n e)

pub reducers_stay : (source : Source) (seen : List Name) (before : Placed) → reducers (put_all seen source before).0 ≡ reducers before.0
reducers_stay [] seen before = refl
reducers_stay (Reduces l x k vs ∷ ds) seen before = reducers_stay ds seen before
reducers_stay (Defines l m f xs ss ∷ ds) seen before =
    let p = lower_proc m f xs ss in
    reducers_stay ds (seen ++ f ∷ []) (put_procedure (is_in f seen) p (record { line = l; statements = body_lines (stmts_of ss) }) before)
    ∙ reducers_placed p (is_in f seen) (last_place 0 None p.called before.0) before.0 refl

-- ---- how often a name stands in a program

abbrev count : Name → List Name → ℕ
count f [] = 0
count f (x ∷ xs) = cond (bytes_eq x f) (suc (count f xs)) (count f xs)

one_by : (b : Bool) (n : ℕ) → n ≤ cond b (suc n) n
one_by true n = omega arith
one_by false n = omega arith

-- one name more
counts_one : (f x : Name) (xs : List Name) → count f xs ≤ count f (x ∷ xs)
counts_one f x xs = one_by (bytes_eq x f) (count f xs)

counts_same : (f x : Name) (xs : List Name) → bytes_eq x f ≡ true → count f (x ∷ xs) ≡ suc (count f xs)
counts_same f x xs e = rw e refl

swapped : (b c : Bool) (n : ℕ) → cond b (suc (cond c (suc n) n)) (cond c (suc n) n) ≡ cond c (suc (cond b (suc n) n)) (cond b (suc n) n)
swapped true true n = refl
swapped true false n = refl
swapped false true n = refl
swapped false false n = refl

counts_last : (f x : Name) (xs : List Name) → count f (xs ++ x ∷ []) ≡ count f (x ∷ xs)
counts_last f x [] = refl
counts_last f x (y ∷ xs) = ap (λ (n : ℕ). cond (bytes_eq y f) (suc n) n) (counts_last f x xs) ∙ swapped (bytes_eq y f) (bytes_eq x f) (count f xs)

module _ (f : Name) (p : Proc) where
  counts_behind : (n : ℕ) (ds : Tree) → StandsAt p.called n ds → count f (called_in (insert ds (suc n) (procedure p))) ≡ count f (p.called ∷ called_in ds)
  counts_behind _ _ (here q [] e) = swapped (bytes_eq q.called f) (bytes_eq p.called f) 0
  counts_behind _ _ (here q (d ∷ ds) e) = swapped (bytes_eq q.called f) (bytes_eq p.called f) (count f (called_in (d ∷ ds)))
  counts_behind _ _ (there n (reducer r) ds at) = counts_behind n ds at
  counts_behind _ _ (there n (procedure q) ds at) = ap (λ (m : ℕ). cond (bytes_eq q.called f) (suc m) m) (counts_behind n ds at) ∙ swapped (bytes_eq q.called f) (bytes_eq p.called f) (count f (called_in ds))

  -- put in behind its name, or last, it counts
  counts_again : (o : Option ℕ) (ds : Tree) → last_place 0 None p.called ds ≡ o → count f (called_in (placed p true o ds)) ≡ count f (p.called ∷ called_in ds)
  counts_again None ds e = ap (count f) (called_last p ds) ∙ counts_last f p.called (called_in ds)
  counts_again (Some n) ds e = ap (λ (m : ℕ). count f (called_in (insert ds m (procedure p)))) (add-one n) ∙ counts_behind n ds (stands_at p.called ds n e)

  counts_placed : (again : Bool) (o : Option ℕ) (ds : Tree) → last_place 0 None p.called ds ≡ o → count f (called_in ds) ≤ count f (called_in (placed p again o ds))
  counts_placed true o ds e = let k = counts_again o ds e in let m = counts_one f p.called (called_in ds) in omega (arith, k, m)
  counts_placed false None ds e = let k = ap (count f) (called_last p ds) ∙ counts_last f p.called (called_in ds) in let m = counts_one f p.called (called_in ds) in omega (arith, k, m)
  counts_placed false (Some n) ds e = let k = ap (count f) (called_over p n ds (stands_at p.called ds n e)) in omega (arith, k)

  counts_there : (n : ℕ) (ds : Tree) → bytes_eq p.called f ≡ true → StandsAt p.called n ds → 0 < count f (called_in ds)
  counts_there _ _ same (here q ds e) =
      let is = counts_same f q.called (called_in ds) (subst (λ (x : Name). bytes_eq x f ≡ true) (sym (name_true q.called p.called e)) same) in
      omega (arith, is)
  counts_there _ _ same (there n (reducer r) ds at) = counts_there n ds same at
  counts_there _ _ same (there n (procedure q) ds at) =
      let h = counts_there n ds same at in
      let m = counts_one f q.called (called_in ds) in
      omega (arith, h, m)

  -- a name that is put in stands there
  counts_put : (again : Bool) (o : Option ℕ) (ds : Tree) → bytes_eq p.called f ≡ true → last_place 0 None p.called ds ≡ o → 0 < count f (called_in (placed p again o ds))
  counts_put true o ds same e = let k = counts_again o ds e in let m = counts_same f p.called (called_in ds) same in omega (arith, k, m)
  counts_put false None ds same e = let k = ap (count f) (called_last p ds) ∙ counts_last f p.called (called_in ds) in let m = counts_same f p.called (called_in ds) same in omega (arith, k, m)
  counts_put false (Some n) ds same e =
      let at = stands_at p.called ds n e in
      let k = ap (count f) (called_over p n ds at) in
      let h = counts_there n ds same at in
      omega (arith, k, h)

counts_all : (f : Name) (source : Source) (seen : List Name) (before : Placed) → count f (called_in before.0) ≤ count f (called_in (put_all seen source before).0)
counts_all f [] seen before = omega arith
counts_all f (Reduces l x k vs ∷ ds) seen before = counts_all f ds seen before
counts_all f (Defines l m g xs ss ∷ ds) seen before =
    let p = lower_proc m g xs ss in
    let later = counts_all f ds (seen ++ g ∷ []) (put_procedure (is_in g seen) p (record { line = l; statements = body_lines (stmts_of ss) }) before) in
    let here = counts_placed f p (is_in g seen) (last_place 0 None p.called before.0) before.0 refl in
    omega (arith, later, here)

-- ---- the numbers of the procedures

places_then : (a b c : Tree) → KeepsPlaces a b → KeepsPlaces b c → KeepsPlaces a c
places_then a b c (m, e) (n, h) = (m ++ n, h ∙ ap (λ (xs : List Name). xs ++ n) e ∙ append_assoc (called_in a) m n)

places_placed : (p : Proc) (o : Option ℕ) (ds : Tree) → last_place 0 None p.called ds ≡ o → KeepsPlaces ds (placed p false o ds)
places_placed p None ds e = (p.called ∷ [], called_last p ds)
places_placed p (Some n) ds e = ([], called_over p n ds (stands_at p.called ds n e) ∙ sym (append-nil (called_in ds)))

-- the names that the text had before stand there
abbrev AreThere : List Name → Tree → Type 0
AreThere seen ds = (f : Name) → is_in f seen ≡ true → 0 < count f (called_in ds)

in_last : (f g : Name) (seen : List Name) → is_in f (seen ++ g ∷ []) ≡ true → (is_in f seen ≡ true) ⊎ (bytes_eq g f ≡ true)
in_last f g [] e = elim (bytes_eq g f) as (λ b. b || false ≡ true → (false ≡ true) ⊎ (b ≡ true)) [
  | true ↦ λ h. inr refl
  | false ↦ λ h. inl h
] e
in_last f g (x ∷ seen) e = elim (bytes_eq x f) as (λ b. b || is_in f (seen ++ g ∷ []) ≡ true → (b || is_in f seen ≡ true) ⊎ (bytes_eq g f ≡ true)) [
  | true ↦ λ h. inl refl
  | false ↦ λ h. in_last f g seen h
] e

there_placed : (seen : List Name) (p : Proc) (again : Bool) (ds : Tree) → AreThere seen ds → AreThere (seen ++ p.called ∷ []) (placed p again (last_place 0 None p.called ds) ds)
there_placed seen p again ds are = λ f e.
    elim (in_last f p.called seen e) [
      | inl h ↦ let k = are f h in let m = counts_placed f p again (last_place 0 None p.called ds) ds refl in omega (arith, k, m)
      | inr h ↦ counts_put f p again (last_place 0 None p.called ds) ds h refl
    ]

-- no name stands twice
abbrev NoneTwice : Tree → Type 0
NoneTwice t = (f : Name) → count f (called_in t) ≤ 1

keeps_places : (source : Source) (seen : List Name) (before : Placed) → AreThere seen before.0 → NoneTwice (put_all seen source before).0 → KeepsPlaces before.0 (put_all seen source before).0
keeps_places [] seen before are single = ([], sym (append-nil (called_in before.0)))
keeps_places (Reduces l x k vs ∷ ds) seen before are single = keeps_places ds seen before are single
keeps_places (Defines l m f xs ss ∷ ds) seen before are single =
    by_again (is_in f seen) refl single (keeps_places ds (seen ++ f ∷ []) (put_procedure (is_in f seen) p lined before) (there_placed seen p (is_in f seen) before.0 are))
  where
    p : Proc
    p = lower_proc m f xs ss

    lined : Lined
    lined = record { line = l; statements = body_lines (stmts_of ss) }

    by_again : (b : Bool) → is_in f seen ≡ b → NoneTwice (put_all (seen ++ f ∷ []) ds (put_procedure b p lined before)).0
        → (NoneTwice (put_all (seen ++ f ∷ []) ds (put_procedure b p lined before)).0 → KeepsPlaces (put_procedure b p lined before).0 (put_all (seen ++ f ∷ []) ds (put_procedure b p lined before)).0)
        → KeepsPlaces before.0 (put_all (seen ++ f ∷ []) ds (put_procedure b p lined before)).0
    by_again true i twice later =
        let o = last_place 0 None f before.0 in
        let k = are f i in
        let again = counts_again f p o before.0 refl in
        let one = counts_same f f (called_in before.0) ((bytes_eq-Decides f f).1 refl) in
        let more = counts_all f ds (seen ++ f ∷ []) (put_procedure true p lined before) in
        let most = twice f in
        absurd (omega (arith, k, again, one, more, most))
    by_again false i twice later = places_then before.0 (put_procedure false p lined before).0 (put_all (seen ++ f ∷ []) ds (put_procedure false p lined before)).0 (places_placed p (last_place 0 None f before.0) before.0 refl) (later twice)

-- ---- a program without violations

not_there : (f : Name) (xs : List Name) → has_name xs f ≡ false → count f xs ≡ 0
not_there f [] e = refl
not_there f (x ∷ xs) e = elim (bytes_eq x f) as (λ b. b || has_name xs f ≡ false → cond b (suc (count f xs)) (count f xs) ≡ 0) [
  | true ↦ λ h. absurd cc
  | false ↦ λ h. not_there f xs h
] e

one_new : (f g : Name) (xs : List Name) → has_name xs g ≡ false → count f xs ≤ 1 → count f (xs ++ g ∷ []) ≤ 1
one_new f g xs e le = one_by_name (bytes_eq g f) refl
  where
    one_by_name : (b : Bool) → bytes_eq g f ≡ b → count f (xs ++ g ∷ []) ≤ 1
    one_by_name true h =
        let none = not_there f xs (subst (λ (x : Name). has_name xs x ≡ false) (name_true g f h) e) in
        let last = counts_last f g xs ∙ counts_same f g xs h in
        omega (arith, none, last)
    one_by_name false h =
        let last : count f (xs ++ g ∷ []) ≡ count f xs = counts_last f g xs ∙ ap (λ (b : Bool). cond b (suc (count f xs)) (count f xs)) h in
        omega (arith, last, le)

each_once : (f : Name) (names : List Name) (t : Tree) → AreNew names t → count f names ≤ 1 → count f (names ++ called_in t) ≤ 1
each_once f names [] new le = let e = ap (count f) (append-nil names) in omega (arith, e, le)
each_once f names (reducer r ∷ t) new le = each_once f names t new le
each_once f names (procedure p ∷ t) new le =
    let h = each_once f (names ++ p.called ∷ []) t new.1 (one_new f p.called names new.0 le) in
    let e = ap (count f) (append_assoc names (p.called ∷ []) (called_in t)) in
    omega (arith, h, e)

-- procedures that are put in leave each its number, where in the end no name stands twice
pub places_stay : (source : Source) (before : Placed) → AreNew [] (put_all [] source before).0 → KeepsPlaces before.0 (put_all [] source before).0
places_stay source before new = keeps_places source [] before (λ f e. absurd cc) (λ f. each_once f [] (put_all [] source before).0 new (omega arith))
