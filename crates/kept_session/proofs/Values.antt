-- What sound records contribute are values of the reducers' kinds, where they hold now and could answer at some depth.
use Rattle.std.proofs.Common.{◌≡◌, ℕ, zero, suc, ◌+◌, ◌-◌, ◌<◌, ◌≤◌, List, [], ◌∷◌, length, Some, All, refl, sym, ap, ◌∙◌, subst, arith}
use Rattle.std.specs.Prelude.{slice_get, slice_set}
use Rattle.std.proofs.lemmas.List.Elements.{All-nil, All-cons, All-head, All-tail}
use Rattle.monoid_laws.specs.declared.Kind.{Kind}
use Rattle.monoid_laws.specs.Worth.{Worth}
use Rattle.monoid_laws.specs.Kinds.{Fits, AreWorths, identities}
use Rattle.meaning.specs.TreeView.{tree}
use Rattle.meaning.specs.Tables.{Tables}
use Rattle.meaning.specs.Elision.{depth_limit, start}
use Rattle.meaning.specs.Fitting.{ProgramFits}
use Rattle.meaning.specs.Records.{Kept}
use Rattle.trail_theory.specs.Order.{Every}
use Rattle.trail_theory.specs.ReadsAtEnd.{ReadsAtMainsEnd}
use Rattle.trail_theory.specs.Typed.{kinds_of, HasMonoids, TablesFit}
use Rattle.linked_program.specs.Checked.{PlainChecked, IsChecked, revised_of}
use Rattle.input_tables.specs.Edited.{Edited, CellsFit}
use Rattle.record_theory.specs.Record.{PlainRecord}
use Rattle.record_theory.specs.Named.{NameReducersFrom, IsKept, AreKept, IsValueAt, AreValuesFrom, HasValuesIfAnswers, HaveValues, filled}
use Rattle.rules_theory.proofs.Monoids.{has_monoids}
use Rattle.rules_theory.proofs.Reading.{main_reads_at_its_end}
use Rattle.kept_session.specs.Sessions.{IsRightNow, AreNewFor}
use Rattle.kept_session.proofs.Elided.{worths_elided}

-- ---- values by numbers

set_length : {A : Type 0} (xs : List A) (i : ℕ) (x : A) → length (slice_set xs i x) ≡ length xs
set_length [] i x = refl
set_length (y ∷ xs) zero x = refl
set_length (y ∷ xs) (suc i) x = ap suc (set_length xs i x)

set_same : {A : Type 0} (xs : List A) (i : ℕ) (x : A) → i < length xs → slice_get (slice_set xs i x) i ≡ Some x
set_same [] i x l = absurd (omega (arith, l))
set_same (y ∷ xs) zero x l = refl
set_same (y ∷ xs) (suc i) x l = set_same xs i x (omega (arith, l))

set_other : {A : Type 0} (xs : List A) (i j : ℕ) (x : A) → j < i → slice_get (slice_set xs i x) j ≡ slice_get xs j
set_other [] i j x l = refl
set_other (y ∷ xs) zero j x l = absurd (omega (arith, l))
set_other (y ∷ xs) (suc i) zero x l = refl
set_other (y ∷ xs) (suc i) (suc j) x l = set_other xs i j x (omega (arith, l))

-- what stands in front of the entries stays
kept_below : (n : ℕ) (acc : List Worth) (j i : ℕ) (es : List (ℕ × Worth)) → j < i → NameReducersFrom i n es → slice_get (filled acc es) j ≡ slice_get acc j
kept_below n acc j i [] l h = refl
kept_below n acc j i (e ∷ es) l h =
    let b : i ≤ e.0 = h.0 in
    kept_below n (slice_set acc e.0 e.1) j (suc e.0) es (omega (arith, l, b)) h.2 ∙ set_other acc e.0 j e.1 (omega (arith, l, b))

value_at : (kinds : List Kind) (ws : List Worth) (j : ℕ) (w : Worth) → AreWorths kinds ws → slice_get ws j ≡ Some w → IsValueAt (slice_get kinds j) w
value_at [] [] j w h e = absurd cc
value_at [] (x ∷ ws) j w h e = absurd h
value_at (k ∷ kinds) [] j w h e = absurd h
value_at (k ∷ kinds) (x ∷ ws) zero w h e = let p : x ≡ w = cc in subst (λ y. IsValueAt (Some k) y) p h.0
value_at (k ∷ kinds) (x ∷ ws) (suc j) w h e = value_at kinds ws j w h.1 e

-- entries that make values of the kinds are values of the kinds
values_from : (kinds : List Kind) (acc : List Worth) (i : ℕ) (es : List (ℕ × Worth)) → length acc ≡ length kinds → NameReducersFrom i (length kinds) es → AreWorths kinds (filled acc es) → AreValuesFrom i kinds es
values_from kinds acc i [] n h w = tt
values_from kinds acc i (e ∷ es) n h w =
    let in_acc : e.0 < length acc = let b : e.0 < length kinds = h.1 in omega (arith, b, n) in
    let there : slice_get (filled (slice_set acc e.0 e.1) es) e.0 ≡ Some e.1 = kept_below (length kinds) (slice_set acc e.0 e.1) e.0 (suc e.0) es (omega arith) h.2 ∙ set_same acc e.0 e.1 in_acc in
    (h.0, value_at kinds (filled (slice_set acc e.0 e.1) es) e.0 e.1 w there, values_from kinds (slice_set acc e.0 e.1) (suc e.0) es (set_length acc e.0 e.1 ∙ n) h.2 w)

identities_length : (kinds : List Kind) → length (identities kinds) ≡ length kinds
identities_length [] = refl
identities_length (k ∷ kinds) = ap suc (identities_length kinds)

every_of : {A : Type 0} (P : A → Type 0) (xs : List A) → All P xs → Every P xs
every_of P [] h = tt
every_of P (x ∷ xs) h = (All-head P x xs h, every_of P xs (All-tail P x xs h))

-- ---- records

module _ (program : PlainChecked) (tables : Tables) (rules : ReadsAtMainsEnd (tree program.program)) (monoids : HasMonoids (tree program.program)) (numbers : ProgramFits (tree program.program)) (held : TablesFit tables)
    (kinds_are : program.kinds ≡ kinds_of (tree program.program)) where
  abbrev FitArguments : PlainRecord → Type 0
  FitArguments r = All Fits r.arguments

  one_has_values : (k : Kept) (r : PlainRecord) → IsKept program k r → IsRightNow (revised_of program) tables k → FitArguments r → HasValuesIfAnswers program.kinds r
  one_has_values k r is right fit low =
      let shallow : 1 + k.height ≤ suc depth_limit = let e : r.height ≡ k.height = is.height in omega (arith, low, e) in
      let given = right.sound.gives tables 1 (omega arith) right.now shallow in
      let fits : Every Fits k.args = subst (Every Fits) is.arguments (every_of Fits r.arguments fit) in
      let worths : AreWorths (kinds_of (tree program.program)) k.contribution = subst (AreWorths (kinds_of (tree program.program))) given.1 (worths_elided (tree program.program) tables numbers held rules monoids (suc depth_limit - 1) start k.of k.args fits) in
      values_from program.kinds (identities program.kinds) 0 r.contribution (identities_length program.kinds) is.named
      (subst (AreWorths program.kinds) is.contribution (subst (λ (cs : List Kind). AreWorths cs k.contribution) (sym kinds_are) worths))

  have_values : (ks : List Kept) (rs : List PlainRecord) → AreKept program ks rs → Every (IsRightNow (revised_of program) tables) ks → All FitArguments rs → HaveValues program.kinds rs
  have_values [] [] stand right fit = All-nil (HasValuesIfAnswers program.kinds)
  have_values [] (r ∷ rs) stand right fit = absurd stand
  have_values (k ∷ ks) [] stand right fit = absurd stand
  have_values (k ∷ ks) (r ∷ rs) stand right fit =
      All-cons (HasValuesIfAnswers program.kinds) r rs (one_has_values k r stand.0 right.0 (All-head FitArguments r rs fit)) (have_values ks rs stand.1 right.1 (All-tail FitArguments r rs fit))

-- new ones, of a checked program
pub new_have_values : (program : PlainChecked) → IsChecked program → (tables : Edited) → ProgramFits (tree program.program) → CellsFit tables.tables → (made : List PlainRecord) → AreNewFor program tables made
    → All (λ r. All Fits r.arguments) made → HaveValues program.kinds made
new_have_values program is tables numbers cells made n fit =
    have_values program tables.tables (main_reads_at_its_end program.tables program.program is.clean) (has_monoids program.tables program.program is.clean) numbers cells is.kinds_are n.kept made n.stand n.right fit
