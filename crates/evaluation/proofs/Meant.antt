-- Evaluations by numbers are those of the definitions.
use Rattle.std.proofs.Common.{◌≡◌, ℕ, suc, ℤ, Bool, true, false, cond, List, [], ◌∷◌, ◌++◌, map, Option, Some, None, Result, Ok, Err, refl, sym, ◌∙◌, ap, append-nil}
use Rattle.std.specs.Prelude.{nat_le}
use Rattle.std.specs.Str.{bytes_eq}
use Rattle.std.specs.Int.{w64, int_wrap, int_wrapping_neg}
use Rattle.std.proofs.lemmas.List.{map-append}
use Rattle.meaning.specs.declared.tree.Operator.{Operator}
use Rattle.meaning.specs.Tree.{Name, Term, number, name, cell, has, limit, sum, negate, binary}
use Rattle.meaning.specs.declared.FaultKind.{FaultKind}
use Rattle.meaning.specs.Tables.{Tables, rows_of, columns_of, cell_of, sum_of, row_of, at_column, index_of, column_total}
use Rattle.meaning.specs.Outcome.{Log, Out}
use Rattle.meaning.specs.Outcome as outcome
use Rattle.meaning.specs.Values.{value, values, apply, look}
use Rattle.meaning.specs.Statements.{most_iterations, bounds, span}
use Rattle.meaning.specs.Statements as statements
use Rattle.input_tables.specs.Edited as read
use Rattle.linked_program.specs.TableNames.{Columned, columned_of, table_of}
use Rattle.linked_program.specs.Linked.{table_number, column_number, columns_in, linked_term}
use Rattle.evaluation.specs.declared.slot.Slot.{Slot}
use Rattle.evaluation.specs.Slots.{env_of}
use Rattle.evaluation.specs.Values.{NumberedOut, onward, behind, mapped, pure, looked, applied, ranged, value_at, values_at}
use Rattle.evaluation.specs.Numbers.{numbered, readings, by_number, ValueIs, ValuesAre, BoundsAre}
use Rattle.evaluation.proofs.Readings.{readings-append, apply_reads_nothing}
use Rattle.evaluation.proofs.Slots.{number_is}

-- ---- tables

pub rows_found : (tables : Tables) (t : Name) → read.rows_at tables (table_number (columned_of tables) t) ≡ rows_of tables t
rows_found [] t = refl
rows_found (x ∷ xs) t =
    elim (bytes_eq x.called t) as (λ b. read.rows_at (x ∷ xs) (cond b 0 (suc (table_number (columned_of xs) t))) ≡ cond b x.rows (rows_of xs t)) [
      | true ↦ refl
      | false ↦ rows_found xs t
    ]

columns_found : (tables : Tables) (t : Name) → columns_in (table_of (columned_of tables) t) ≡ columns_of tables t
columns_found [] t = refl
columns_found (x ∷ xs) t =
    elim (bytes_eq x.called t) as (λ b. columns_in (cond b (Some (record { called = x.called; columns = x.columns })) (table_of (columned_of xs) t)) ≡ cond b x.columns (columns_of xs t)) [
      | true ↦ refl
      | false ↦ columns_found xs t
    ]

pub cell_found : (tables : Tables) (t : Name) (row : ℤ) (c : Name)
    → read.cell_at tables (table_number (columned_of tables) t) row (column_number (columned_of tables) t c) ≡ cell_of tables t row c
cell_found tables t row c =
    ap (λ rows. at_column (row_of rows row) (column_number (columned_of tables) t c)) (rows_found tables t)
    ∙ ap (λ cs. at_column (row_of (rows_of tables t) row) (index_of cs c)) (columns_found tables t)

pub sum_found : (tables : Tables) (t : Name) (c : Name)
    → read.sum_at tables (table_number (columned_of tables) t) (column_number (columned_of tables) t c) ≡ sum_of tables t c
sum_found tables t c =
    ap (λ rows. int_wrap w64 (column_total (column_number (columned_of tables) t c) rows)) (rows_found tables t)
    ∙ ap (λ cs. int_wrap w64 (column_total (index_of cs c) (rows_of tables t))) (columns_found tables t)

-- ---- evaluations one behind the other

module _ (ts : List Columned) where
  noted_append : (l m : Log) → map (numbered ts) (readings (l ++ m)) ≡ map (numbered ts) (readings l) ++ map (numbered ts) (readings m)
  noted_append l m = ap (map (numbered ts)) (readings-append l m) ∙ map-append (numbered ts) (readings l) (readings m)

  then_by : {A B : Type 0} (log : Log) (r : Result A FaultKind) (f : A → Out FaultKind B) (g : A → NumberedOut B) → ((a : A) → g a ≡ by_number ts (f a))
      → onward (map (numbered ts) (readings log)) r g ≡ by_number ts (outcome.onward log r f)
  then_by log (Err k) f g h = refl
  then_by log (Ok a) f g h =
      ap (behind (map (numbered ts) (readings log))) (h a) ∙ ap (λ ns. record { notes = ns; answer = (f a).answer }) (sym (noted_append log (f a).log))

  mapped_by : {A B : Type 0} (log : Log) (r : Result A FaultKind) (f : A → B)
      → mapped f (by_number ts (record { log = log; answer = r })) ≡ by_number ts (outcome.onward log r (λ a. outcome.pure (f a)))
  mapped_by log (Err k) f = refl
  mapped_by log (Ok a) f = ap (λ l. record { notes = map (numbered ts) (readings l); answer = Ok (f a) }) (sym (append-nil log))

  then_is : {A B : Type 0} (m : NumberedOut A) (n : Out FaultKind A) (f : A → Out FaultKind B) (g : A → NumberedOut B) → m ≡ by_number ts n → ((a : A) → g a ≡ by_number ts (f a))
      → onward m.notes m.answer g ≡ by_number ts (outcome.onward n.log n.answer f)
  then_is m n f g e h = ap (λ o. onward o.notes o.answer g) e ∙ then_by n.log n.answer f g h

  mapped_is : {A B : Type 0} (m : NumberedOut A) (n : Out FaultKind A) (f : A → B) → m ≡ by_number ts n → mapped f m ≡ by_number ts (outcome.onward n.log n.answer (λ a. outcome.pure (f a)))
  mapped_is m n f e = ap (mapped f) e ∙ mapped_by n.log n.answer f

  look_by : (t : Name) (row : ℤ) (c : Name) (v : Option ℤ) → looked (table_number ts t) row (column_number ts t c) v ≡ by_number ts (look t row c v)
  look_by t row c None = refl
  look_by t row c (Some v) = refl

  applied_is : (op : Operator) (x y : ℤ) → applied op x y ≡ by_number ts (apply op x y)
  applied_is op x y = ap (λ l. record { notes = map (numbered ts) (readings l); answer = (apply op x y).answer }) (sym (apply_reads_nothing op x y))

  ranged_by : (b : Bool) (n : ℕ) (k : FaultKind) → cond b (pure n) (record { notes = []; answer = Err k }) ≡ by_number ts (cond b (outcome.pure n) (outcome.fail k))
  ranged_by true n k = refl
  ranged_by false n k = refl

-- ---- expressions

module _ (tables : Tables) (slots : List Slot) where
  pub value_is : (e : Term) → ValueIs tables slots e
  value_is (number n) = refl
  value_is (name x) = ap pure (number_is slots x)
  value_is (cell t e c) =
      then_is (columned_of tables) (value_at tables slots (linked_term (columned_of tables) e)) (value tables (env_of slots) e) _ _ (value_is e)
      (λ row. ap (looked (table_number (columned_of tables) t) row (column_number (columned_of tables) t c)) (cell_found tables t row c) ∙ look_by (columned_of tables) t row c (cell_of tables t row c))
  value_is (has t e) =
      then_is (columned_of tables) (value_at tables slots (linked_term (columned_of tables) e)) (value tables (env_of slots) e) _ _ (value_is e)
      (λ row. rw (rows_found tables t) refl)
  value_is (limit t) = rw (rows_found tables t) refl
  value_is (sum t c) = rw (sum_found tables t c) refl
  value_is (negate e) = mapped_is (columned_of tables) (value_at tables slots (linked_term (columned_of tables) e)) (value tables (env_of slots) e) (int_wrapping_neg w64) (value_is e)
  value_is (binary op e f) =
      then_is (columned_of tables) (value_at tables slots (linked_term (columned_of tables) e)) (value tables (env_of slots) e) _ _ (value_is e)
      (λ x. then_is (columned_of tables) (value_at tables slots (linked_term (columned_of tables) f)) (value tables (env_of slots) f) _ _ (value_is f)
      (λ y. applied_is (columned_of tables) op x y))

  pub values_are : (es : List Term) → ValuesAre tables slots es
  values_are [] = refl
  values_are (e ∷ es) =
      then_is (columned_of tables) (value_at tables slots (linked_term (columned_of tables) e)) (value tables (env_of slots) e) _ _ (value_is e)
      (λ v. mapped_is (columned_of tables) (values_at tables slots (map (linked_term (columned_of tables)) es)) (values tables (env_of slots) es) (λ vs. v ∷ vs) (values_are es))

  pub bounds_are : (e f : Term) → BoundsAre tables slots e f
  bounds_are e f =
      then_is (columned_of tables) (value_at tables slots (linked_term (columned_of tables) e)) (value tables (env_of slots) e) _ _ (value_is e)
      (λ low. then_is (columned_of tables) (value_at tables slots (linked_term (columned_of tables) f)) (value tables (env_of slots) f) _ _ (value_is f)
      (λ high. mapped_is (columned_of tables) (ranged (span low high)) (statements.ranged (span low high)) (λ n. (low, n)) (ranged_by (columned_of tables) (nat_le (span low high) most_iterations) (span low high) _)))
