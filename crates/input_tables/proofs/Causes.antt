-- Edits that the definitions allow or refuse, by their numbers alone.
use Rattle.std.proofs.Common.{◌≡◌, ℕ, ℤ, List, length, Bool, true, false, not, nat_eq, Option, Some, None, Result, Ok, Err, refl, ap, ◌∙◌}
use Rattle.std.specs.Prelude.{OnOk, IfErr}
use Rattle.meaning.specs.Tree.{Name}
use Rattle.meaning.specs.TreeView.{Lined}
use Rattle.meaning.specs.Records.{Revised}
use Rattle.meaning.specs.Tables.{Listed, is_there, row_of}
use Rattle.meaning.specs.Edits.{Standing, EditRefusal, Exhausted, RowRange, unless, most, in_range, put_in, delete_in}
use Rattle.table_parts.specs.Refusals.{put_refusal, delete_refusal}
use Rattle.table_parts.specs.Refusals as by_number
use Rattle.table_parts.specs.declared.refusals.RowError.{RowError}
use Rattle.table_parts.specs.declared.refusals.RowError.TheVariants as e
use Rattle.input_tables.specs.Edited.{Edited, beside, edited, row_into, row_out_of, row_refusal}

-- the first of three causes, the second of which is the edit's own
abbrev cause : Bool → Bool → Bool → RowError → Option RowError
cause a b c own = by_number.unless a e.RowRange (by_number.unless b own (by_number.unless c e.Exhausted None))

abbrev tried : Bool → Bool → Bool → RowError → Standing → Result Standing EditRefusal
tried a b c own s = unless a RowRange (unless b (row_refusal own) (unless c Exhausted (Ok s)))

allowed : (a b c : Bool) (own : RowError) (s : Standing) → cause a b c own ≡ None → tried a b c own s ≡ Ok s
allowed true b c own s h = absurd cc
allowed false true c own s h = absurd cc
allowed false false true own s h = absurd cc
allowed false false false own s h = refl

refused : (a b c : Bool) (own : RowError) (s : Standing) (error : RowError) → cause a b c own ≡ Some error → tried a b c own s ≡ Err (row_refusal error)
refused true b c own s error h =
    let is : e.RowRange ≡ error = cc in
    ap (λ r. Err (row_refusal r)) is
refused false true c own s error h =
    let is : own ≡ error = cc in
    ap (λ r. Err (row_refusal r)) is
refused false false true own s error h =
    let is : e.Exhausted ≡ error = cc in
    ap (λ r. Err (row_refusal r)) is
refused false false false own s error h = absurd cc

module _ (now : Edited) (row : ℤ) (x : Listed) (program : Revised) (lines : List Lined) (t : Name) where
  put_allowed : (vs : List ℤ) → put_refusal row (length vs) (length x.columns) now.edits ≡ None
      → put_in (beside program lines now) t row vs (Some x) ≡ Ok (edited program lines (row_into row vs) now t)
  put_allowed vs h =
      allowed (not (in_range row)) (not (nat_eq (length vs) (length x.columns))) (nat_eq now.edits most) e.WrongColumns
      (edited program lines (row_into row vs) now t) h

  put_refused : (vs : List ℤ) (error : RowError) → put_refusal row (length vs) (length x.columns) now.edits ≡ Some error
      → put_in (beside program lines now) t row vs (Some x) ≡ Err (row_refusal error)
  put_refused vs error h =
      refused (not (in_range row)) (not (nat_eq (length vs) (length x.columns))) (nat_eq now.edits most) e.WrongColumns
      (edited program lines (row_into row vs) now t) error h

  delete_allowed : delete_refusal row (is_there (row_of x.rows row)) now.edits ≡ None
      → delete_in (beside program lines now) t row (Some x) ≡ Ok (edited program lines (row_out_of row) now t)
  delete_allowed h =
      allowed (not (in_range row)) (not (is_there (row_of x.rows row))) (nat_eq now.edits most) e.NoRow
      (edited program lines (row_out_of row) now t) h

  delete_refused : (error : RowError) → delete_refusal row (is_there (row_of x.rows row)) now.edits ≡ Some error
      → delete_in (beside program lines now) t row (Some x) ≡ Err (row_refusal error)
  delete_refused error h =
      refused (not (in_range row)) (not (is_there (row_of x.rows row))) (nat_eq now.edits most) e.NoRow
      (edited program lines (row_out_of row) now t) error h

-- what a check of these numbers says of the table that stands there
module _ (now : Edited) (m row : ℤ) (edits : ℕ) (x : Listed) (o : Option Listed) (same : m ≡ row) (count : edits ≡ now.edits) (stands : o ≡ Some x) where
  put_numbers : (values columns : ℕ) (vs : List ℤ) → columns ≡ length x.columns → length vs ≡ values
      → put_refusal row (length vs) (length x.columns) now.edits ≡ put_refusal m values columns edits
  put_numbers values columns vs wide many = rw (same, count, wide, many) refl

  delete_numbers : (there : Bool) → there ≡ is_there (row_of x.rows m)
      → delete_refusal row (is_there (row_of x.rows row)) now.edits ≡ delete_refusal m there edits
  delete_numbers there is = rw (is, same, count) refl

  pub may_put : (r : Result (Unit {0}) RowError) (values columns : ℕ) → columns ≡ length x.columns → OnOk r (put_refusal m values columns edits ≡ None)
      → OnOk r ((t : Name) (program : Revised) (lines : List Lined) (vs : List ℤ) → length vs ≡ values
      → put_in (beside program lines now) t row vs o ≡ Ok (edited program lines (row_into row vs) now t))
  may_put (Ok u) values columns wide h = λ t program lines vs many.
      rw stands (put_allowed now row x program lines t vs (put_numbers values columns vs wide many ∙ h))
  may_put (Err error) values columns wide h = h

  pub may_not_put : (r : Result (Unit {0}) RowError) (values columns : ℕ) → columns ≡ length x.columns
      → IfErr r (λ error. put_refusal m values columns edits ≡ Some error)
      → IfErr r (λ error. (t : Name) (program : Revised) (lines : List Lined) (vs : List ℤ) → length vs ≡ values
      → put_in (beside program lines now) t row vs o ≡ Err (row_refusal error))
  may_not_put (Ok u) values columns wide h = h
  may_not_put (Err error) values columns wide h = λ t program lines vs many.
      rw stands (put_refused now row x program lines t vs error (put_numbers values columns vs wide many ∙ h))

  pub may_delete : (r : Result (Unit {0}) RowError) (there : Bool) → there ≡ is_there (row_of x.rows m) → OnOk r (delete_refusal m there edits ≡ None)
      → OnOk r ((t : Name) (program : Revised) (lines : List Lined)
      → delete_in (beside program lines now) t row o ≡ Ok (edited program lines (row_out_of row) now t))
  may_delete (Ok u) there is h = λ t program lines. rw stands (delete_allowed now row x program lines t (delete_numbers there is ∙ h))
  may_delete (Err error) there is h = h

  pub may_not_delete : (r : Result (Unit {0}) RowError) (there : Bool) → there ≡ is_there (row_of x.rows m)
      → IfErr r (λ error. delete_refusal m there edits ≡ Some error)
      → IfErr r (λ error. (t : Name) (program : Revised) (lines : List Lined)
      → delete_in (beside program lines now) t row o ≡ Err (row_refusal error))
  may_not_delete (Ok u) there is h = h
  may_not_delete (Err error) there is h = λ t program lines. rw stands (delete_refused now row x program lines t error (delete_numbers there is ∙ h))
