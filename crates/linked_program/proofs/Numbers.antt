-- The number of a name is that of what it means.
use Rattle.std.proofs.Common.{◌≡◌, ℕ, zero, suc, ◌+◌, ◌<◌, Bool, true, false, cond, List, [], ◌∷◌, length, Some, slice_get, refl, ap, sym, subst, add-one, add-zero, zero-add, arith}
use Rattle.std.specs.List.{slice_index_or}
use Rattle.std.specs.Str.{bytes_eq}
use Rattle.std.proofs.lemmas.Slice.Eq.{bytes_eq-Decides}
use Rattle.meaning.specs.Tree.{Name, Red, procedure, reducer, Tree}
use Rattle.meaning.specs.Statements.{reducers, procedure_of, numbered}
use Rattle.meaning.specs.Tables.{Tables, columns_of, index_of}
use Rattle.meaning.specs.Edits.{table_of}
use Rattle.linked_program.specs.TableNames.{columned_of, table_of as columned_table}
use Rattle.linked_program.specs.Procedures.{procedures}
use Rattle.linked_program.specs.Linked.{procedure_number, reducer_number, table_number, columns_in}
use Rattle.linked_program.specs.Links.{with_number, ProcedureIs, ReducerIs, TableIs, ColumnIs}

pub procedure_is : (t : Tree) (f : Name) → ProcedureIs t f
procedure_is [] f = refl
procedure_is (reducer r ∷ rest) f = procedure_is rest f
procedure_is (procedure p ∷ rest) f =
    elim (bytes_eq p.called f) as (λ b. slice_get (p ∷ procedures rest) (cond b 0 (suc (procedure_number (procedures rest) f))) ≡ cond b (Some p) (procedure_of rest f)) [
      | true ↦ refl
      | false ↦ procedure_is rest f
    ]

reducer_from : (k : ℕ) (rs : List Red) (f : Name) → with_number (k + reducer_number rs f) (slice_get rs (reducer_number rs f)) ≡ numbered k rs f
reducer_from k [] f = refl
reducer_from k (r ∷ rest) f =
    elim (bytes_eq r.called f) as (λ b. with_number (k + cond b 0 (suc (reducer_number rest f))) (slice_get (r ∷ rest) (cond b 0 (suc (reducer_number rest f)))) ≡ cond b (Some (k, r)) (numbered (k + 1) rest f)) [
      | true ↦ rw add-zero refl
      | false ↦ let e : k + suc (reducer_number rest f) ≡ suc k + reducer_number rest f = omega arith in rw (add-one, e) (reducer_from (suc k) rest f)
    ]

pub reducer_is : (t : Tree) (r : Name) → ReducerIs t r
reducer_is t r = rw zero-add at (reducer_from 0 (reducers t) r)

pub table_is : (tables : Tables) (u : Name) → TableIs tables u
table_is [] u = refl
table_is (x ∷ xs) u =
    elim (bytes_eq x.called u) as (λ b. slice_get (x ∷ xs) (cond b 0 (suc (table_number (columned_of xs) u))) ≡ cond b (Some x) (table_of xs u)) [
      | true ↦ refl
      | false ↦ table_is xs u
    ]

-- the columns that the linker sees are those of the definitions
same_columns : (tables : Tables) (u : Name) → columns_in (columned_table (columned_of tables) u) ≡ columns_of tables u
same_columns [] u = refl
same_columns (x ∷ xs) u =
    elim (bytes_eq x.called u) as (λ b. columns_in (cond b (Some (record { called = x.called; columns = x.columns })) (columned_table (columned_of xs) u)) ≡ cond b x.columns (columns_of xs u)) [
      | true ↦ refl
      | false ↦ same_columns xs u
    ]

same_bytes : (x y : Name) → bytes_eq x y ≡ true → x ≡ y
same_bytes x y = (bytes_eq-Decides x y).0

first_found : (x : Name) (xs : List Name) (c : Name) → x ≡ c → slice_get (x ∷ xs) (index_of (x ∷ xs) c) ≡ Some c
first_found x xs c e = rw ((bytes_eq-Decides x c).1 e) (ap Some e)

later_found : (x : Name) (xs : List Name) (c : Name) (b : Bool) → bytes_eq x c ≡ b → slice_get xs (index_of xs c) ≡ Some c → slice_get (x ∷ xs) (cond b 0 (suc (index_of xs c))) ≡ Some c
later_found x xs c true q h = ap Some (same_bytes x c q)
later_found x xs c false q h = h

column_found : (cs : List Name) (c : Name) (k : ℕ) → k < length cs → slice_index_or cs k c ≡ c → slice_get cs (index_of cs c) ≡ Some c
column_found [] c k l e = absurd (omega (arith, l))
column_found (x ∷ xs) c zero l e = first_found x xs c e
column_found (x ∷ xs) c (suc k) l e = later_found x xs c (bytes_eq x c) refl (column_found xs c k (omega (arith, l)) e)

pub column_is : (tables : Tables) (u c : Name) → ColumnIs tables u c
column_is tables u c = record {
  place = ap (λ (cs : List Name). index_of cs c) (same_columns tables u);
  name = λ h. subst (λ (cs : List Name). slice_get (columns_of tables u) (index_of cs c) ≡ Some c) (sym (same_columns tables u)) (column_found (columns_of tables u) c h.0 h.1 h.2);
}
