-- An edit of a table changes no name of a table or column.
use Rattle.std.proofs.Common.{◌≡◌, ℕ, ℤ, Bool, true, false, cond, List, [], ◌∷◌, Option, Some, None, Result, Ok, Err, refl, sym, ap, ◌∙◌}
use Rattle.std.specs.Prelude.{nat_eq, not, length}
use Rattle.std.specs.Str.{bytes_eq}
use Rattle.meaning.specs.Tree.{Name}
use Rattle.meaning.specs.Tables.{Tables, Listed, is_there, row_of}
use Rattle.meaning.specs.Edits.{Standing, EditRefusal, RowRange, WrongColumns, NoRow, Exhausted, most, in_range, unless, table_of, table_changed, row_put, row_gone, with_rows, with_tables, put_in, after_put, delete_in, after_delete}
use Rattle.linked_program.specs.TableNames.{columned_of}

-- other rows in a table
changed_keeps : (rows : Listed → List (ℤ × List ℤ)) (ts : Tables) (t : Name) → columned_of (table_changed (λ x. with_rows x (rows x)) ts t) ≡ columned_of ts
changed_keeps rows [] t = refl
changed_keeps rows (x ∷ xs) t =
    elim (bytes_eq x.called t) as (λ b. columned_of (cond b (with_rows x (rows x) ∷ xs) (x ∷ table_changed (λ y. with_rows y (rows y)) xs t)) ≡ columned_of (x ∷ xs)) [
      | true ↦ refl
      | false ↦ ap (λ ys. record { called = x.called; columns = x.columns } ∷ ys) (changed_keeps rows xs t)
    ]

-- what is accepted, whichever causes to refuse it there are
accepted : (b : Bool) (e : EditRefusal) (r : Result Standing EditRefusal) (s : Standing) → unless b e r ≡ Ok s → r ≡ Ok s
accepted true e r s h = absurd cc
accepted false e r s h = h

changed_standing : (s t : Standing) (ts : Tables) (r : Result Standing EditRefusal) → r ≡ Ok (with_tables s ts) → r ≡ Ok t → t.tables ≡ ts
changed_standing s t ts r e h = let same : with_tables s ts ≡ t = cc in ap (λ (x : Standing). x.tables) (sym same)

put_keeps : (s s' : Standing) (t : Name) (row : ℤ) (vs : List ℤ) (o : Option Listed) → put_in s t row vs o ≡ Ok s' → columned_of s'.tables ≡ columned_of s.tables
put_keeps s s' t row vs None h = absurd cc
put_keeps s s' t row vs (Some x) h =
    let done = accepted (nat_eq s.edits most) Exhausted _ s' (accepted (not (nat_eq (length vs) (length x.columns))) WrongColumns _ s' (accepted (not (in_range row)) RowRange _ s' h)) in
    ap columned_of (changed_standing s s' _ _ refl done) ∙ changed_keeps (λ y. row_put row vs y.rows) s.tables t

pub put_keeps_columns : (s s' : Standing) (t : Name) (row : ℤ) (vs : List ℤ) → after_put s t row vs ≡ Ok s' → columned_of s'.tables ≡ columned_of s.tables
put_keeps_columns s s' t row vs h = put_keeps s s' t row vs (table_of s.tables t) h

delete_keeps : (s s' : Standing) (t : Name) (row : ℤ) (o : Option Listed) → delete_in s t row o ≡ Ok s' → columned_of s'.tables ≡ columned_of s.tables
delete_keeps s s' t row None h = absurd cc
delete_keeps s s' t row (Some x) h =
    let done = accepted (nat_eq s.edits most) Exhausted _ s' (accepted (not (is_there (row_of x.rows row))) NoRow _ s' (accepted (not (in_range row)) RowRange _ s' h)) in
    ap columned_of (changed_standing s s' _ _ refl done) ∙ changed_keeps (λ y. row_gone row y.rows) s.tables t

pub delete_keeps_columns : (s s' : Standing) (t : Name) (row : ℤ) → after_delete s t row ≡ Ok s' → columned_of s'.tables ≡ columned_of s.tables
delete_keeps_columns s s' t row h = delete_keeps s s' t row (table_of s.tables t) h
