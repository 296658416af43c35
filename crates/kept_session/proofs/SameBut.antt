-- An edit of a table changes what is read of one row, and its table's limit and sums.
use Rattle.std.proofs.Common.{◌≡◌, ℕ, zero, suc, ℤ, pos, Bool, true, false, true≢false, cond, List, [], ◌∷◌, Option, Some, None, Result, Ok, refl, sym, ap, ◌∙◌, subst}
use Rattle.std.specs.Prelude.{◌&&◌, nat_eq, not, length, int_lt}
use Rattle.std.specs.Int.{w64, int_wrap}
use Rattle.std.specs.Ordering.{int_eq}
use Rattle.std.proofs.lemmas.Bool.Decides.{Decides-eqb, Decides-int_eq}
use Rattle.meaning.specs.Tree.{Name}
use Rattle.meaning.specs.TreeView.{Lined}
use Rattle.meaning.specs.Records.{Revised}
use Rattle.meaning.specs.Tables.{Tables, Listed, row_of, at_column, is_there, above_all, column_total, index_of}
use Rattle.meaning.specs.Edits.{Standing, EditRefusal, RowRange, WrongColumns, NoRow, Exhausted, most, in_range, unless, table_of, table_changed, row_put, row_gone, with_rows, with_tables, put_in, after_put, delete_in, after_delete}
use Rattle.linked_program.specs.Checked.{nothing}
use Rattle.input_tables.specs.Edited.{Edited, beside, names_of, rows_at, changed_at, row_into, row_out_of}
use Rattle.input_tables.proofs.Numbered.{changed_at-place}
use Rattle.input_tables.proofs.Orders.{lower, same, higher, compared}
use Rattle.record_theory.specs.InStep.{IsSameBut}

-- ---- rows

differ : (n r : ℤ) → int_eq r n ≡ false → int_eq n r ≡ false
differ n r d =
    elim (int_eq n r) as (λ b. int_eq n r ≡ b → b ≡ false) [
      | true ↦ λ e. (let back : int_eq r n ≡ true = (Decides-int_eq r n).1 (sym ((Decides-int_eq n r).0 e)) in sym back ∙ d)
      | false ↦ λ e. refl
    ] refl

module _ (n : ℤ) (vs : List ℤ) (r : ℤ) (d : int_eq n r ≡ false) where
  put_one : (m : ℤ) (ws : List ℤ) (rest : List (ℤ × List ℤ)) (below above : Bool) → (below ≡ false → above ≡ false → m ≡ n) → row_of (row_put n vs rest) r ≡ row_of rest r
      → row_of (cond below ((n, vs) ∷ (m, ws) ∷ rest) (cond above ((m, ws) ∷ row_put n vs rest) ((n, vs) ∷ rest))) r ≡ row_of ((m, ws) ∷ rest) r
  put_one m ws rest true above is h = ap (λ b. cond b (Some vs) (row_of ((m, ws) ∷ rest) r)) d
  put_one m ws rest false true is h = ap (λ o. cond (int_eq m r) (Some ws) o) h
  put_one m ws rest false false is h =
      let here : int_eq m r ≡ false = ap (λ k. int_eq k r) (is refl refl) ∙ d in
      ap (λ b. cond b (Some vs) (row_of rest r)) d ∙ sym (ap (λ b. cond b (Some ws) (row_of rest r)) here)

  neither : (m : ℤ) → int_lt n m ≡ false → int_lt m n ≡ false → m ≡ n
  neither m e f =
      elim (compared n m) as (λ _. m ≡ n) [
        | lower h ↦ absurd (true≢false (sym h ∙ e))
        | same h ↦ sym h
        | higher h ↦ absurd (true≢false (sym h ∙ f))
      ]

  others_put : (rows : List (ℤ × List ℤ)) → row_of (row_put n vs rows) r ≡ row_of rows r
  others_put [] = ap (λ b. cond b (Some vs) None) d
  others_put ((m, ws) ∷ rest) = put_one m ws rest (int_lt n m) (int_lt m n) (neither m) (others_put rest)

  gone_one : (m : ℤ) (ws : List ℤ) (rest : List (ℤ × List ℤ)) (b : Bool) → (b ≡ true → m ≡ n) → row_of (row_gone n rest) r ≡ row_of rest r
      → row_of (cond b rest ((m, ws) ∷ row_gone n rest)) r ≡ row_of ((m, ws) ∷ rest) r
  gone_one m ws rest true is h = (let here : int_eq m r ≡ false = ap (λ k. int_eq k r) (is refl) ∙ d in sym (ap (λ b. cond b (Some ws) (row_of rest r)) here))
  gone_one m ws rest false is h = ap (λ o. cond (int_eq m r) (Some ws) o) h

  others_gone : (rows : List (ℤ × List ℤ)) → row_of (row_gone n rows) r ≡ row_of rows r
  others_gone [] = refl
  others_gone ((m, ws) ∷ rest) = gone_one m ws rest (int_eq m n) (Decides-int_eq m n).0 (others_gone rest)

-- ---- the table of a number

module _ (rows : List (ℤ × List ℤ) → List (ℤ × List ℤ)) where
  abbrev with : Listed → Listed
  with t = with_rows t (rows t.rows)

  smaller : (t n : ℕ) → nat_eq (suc t) (suc n) ≡ false → nat_eq t n ≡ false
  smaller t n d =
      elim (nat_eq t n) as (λ b. nat_eq t n ≡ b → b ≡ false) [
        | true ↦ λ e. absurd (true≢false (sym ((Decides-eqb (suc t) (suc n)).1 (ap suc ((Decides-eqb t n).0 e))) ∙ d))
        | false ↦ λ e. refl
      ] refl

  other_tables : (ts : Tables) (n t : ℕ) → nat_eq t n ≡ false → rows_at (changed_at with ts n) t ≡ rows_at ts t
  other_tables [] n t d = refl
  other_tables (x ∷ xs) zero zero d = absurd (true≢false d)
  other_tables (x ∷ xs) zero (suc t) d = refl
  other_tables (x ∷ xs) (suc n) zero d = refl
  other_tables (x ∷ xs) (suc n) (suc t) d = other_tables xs n t (smaller t n d)

  other_rows : (r : ℤ) → ((es : List (ℤ × List ℤ)) → row_of (rows es) r ≡ row_of es r) → (ts : Tables) (n : ℕ) → row_of (rows_at (changed_at with ts n) n) r ≡ row_of (rows_at ts n) r
  other_rows r h [] n = refl
  other_rows r h (x ∷ xs) zero = h x.rows
  other_rows r h (x ∷ xs) (suc n) = other_rows r h xs n

  module _ (row : ℤ) (others : (r : ℤ) → int_eq row r ≡ false → (es : List (ℤ × List ℤ)) → row_of (rows es) r ≡ row_of es r) (ts : Tables) (n : ℕ) where
    row_kept : (t : ℕ) (r : ℤ) → nat_eq t n && int_eq r row ≡ false → row_of (rows_at (changed_at with ts n) t) r ≡ row_of (rows_at ts t) r
    row_kept t r d =
        elim (nat_eq t n) as (λ b. nat_eq t n ≡ b → b && int_eq r row ≡ false → row_of (rows_at (changed_at with ts n) t) r ≡ row_of (rows_at ts t) r) [
          | true ↦ λ e f.
              subst (λ k. row_of (rows_at (changed_at with ts n) k) r ≡ row_of (rows_at ts k) r) (sym ((Decides-eqb t n).0 e)) (other_rows r (others r (differ row r f)) ts n)
          | false ↦ λ e f. ap (λ es. row_of es r) (other_tables ts n t e)
        ] refl d

    same_but : IsSameBut n row ts (changed_at with ts n)
    same_but = record {
      cells = λ t r c d. ap (λ o. at_column o c) (row_kept t r d);
      there = λ t r d. ap is_there (row_kept t r d);
      limits = λ t d. ap (above_all (pos 0)) (other_tables ts n t d);
      sums = λ t c d. ap (λ es. int_wrap w64 (column_total c es)) (other_tables ts n t d);
    }

put_at_number : (row : ℤ) (vs : List ℤ) (ts : Tables) (n : ℕ) → IsSameBut n row ts (changed_at (row_into row vs) ts n)
put_at_number row vs ts n = same_but (row_put row vs) row (others_put row vs) ts n

gone_at_number : (row : ℤ) (ts : Tables) (n : ℕ) → IsSameBut n row ts (changed_at (row_out_of row) ts n)
gone_at_number row ts n = same_but (row_gone row) row (others_gone row []) ts n

-- ---- accepted edits

accepted : (b : Bool) (e : EditRefusal) (r : Result Standing EditRefusal) (s : Standing) → unless b e r ≡ Ok s → r ≡ Ok s
accepted true e r s h = absurd cc
accepted false e r s h = h

changed_standing : (s t : Standing) (ts : Tables) (r : Result Standing EditRefusal) → r ≡ Ok (with_tables s ts) → r ≡ Ok t → t.tables ≡ ts
changed_standing s t ts r e h = let both : with_tables s ts ≡ t = cc in ap (λ (x : Standing). x.tables) (sym both)

put_tables : (s s' : Standing) (t : Name) (row : ℤ) (vs : List ℤ) (o : Option Listed) → put_in s t row vs o ≡ Ok s' → s'.tables ≡ table_changed (row_into row vs) s.tables t
put_tables s s' t row vs None h = absurd cc
put_tables s s' t row vs (Some x) h =
    let done = accepted (nat_eq s.edits most) Exhausted _ s' (accepted (not (nat_eq (length vs) (length x.columns))) WrongColumns _ s' (accepted (not (in_range row)) RowRange _ s' h)) in
    changed_standing s s' _ _ refl done

delete_tables : (s s' : Standing) (t : Name) (row : ℤ) (o : Option Listed) → delete_in s t row o ≡ Ok s' → s'.tables ≡ table_changed (row_out_of row) s.tables t
delete_tables s s' t row None h = absurd cc
delete_tables s s' t row (Some x) h =
    let done = accepted (nat_eq s.edits most) Exhausted _ s' (accepted (not (is_there (row_of x.rows row))) NoRow _ s' (accepted (not (in_range row)) RowRange _ s' h)) in
    changed_standing s s' _ _ refl done

pub put_same_but : (old new : Edited) (t : Name) (row : ℤ) (vs : List ℤ) (n : ℕ) → n ≡ index_of (names_of old.tables) t
    → ((program : Revised) (lines : List Lined) → after_put (beside program lines old) t row vs ≡ Ok (beside program lines new)) → IsSameBut n row old.tables new.tables
put_same_but old new t row vs n place put =
    let now : new.tables ≡ changed_at (row_into row vs) old.tables n =
    put_tables (beside nothing [] old) (beside nothing [] new) t row vs (table_of old.tables t) (put nothing []) ∙ sym (changed_at-place (row_into row vs) old.tables t)
    ∙ ap (changed_at (row_into row vs) old.tables) (sym place) in
    subst (IsSameBut n row old.tables) (sym now) (put_at_number row vs old.tables n)

pub delete_same_but : (old new : Edited) (t : Name) (row : ℤ) (n : ℕ) → n ≡ index_of (names_of old.tables) t
    → ((program : Revised) (lines : List Lined) → after_delete (beside program lines old) t row ≡ Ok (beside program lines new)) → IsSameBut n row old.tables new.tables
delete_same_but old new t row n place deleted =
    let now : new.tables ≡ changed_at (row_out_of row) old.tables n =
    delete_tables (beside nothing [] old) (beside nothing [] new) t row (table_of old.tables t) (deleted nothing []) ∙ sym (changed_at-place (row_out_of row) old.tables t)
    ∙ ap (changed_at (row_out_of row) old.tables) (sym place) in
    subst (IsSameBut n row old.tables) (sym now) (gone_at_number row old.tables n)
