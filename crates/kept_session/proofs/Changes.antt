-- A row that an edit changes was noted with it, and the edit keeps all columns: so the records can be told of it.
use Rattle.std.proofs.Common.{◌≡◌, ℕ, zero, suc, ◌<◌, ℤ, List, [], ◌∷◌, length, Ok, ◌⊎◌, inl, inr, refl, sym, ap, subst, ◌∙◌}
use Rattle.meaning.specs.Tree.{Name}
use Rattle.meaning.specs.TreeView.{Lined}
use Rattle.meaning.specs.Records.{Revised}
use Rattle.meaning.specs.Tables.{Tables, index_of}
use Rattle.meaning.specs.Edits.{after_put, after_delete}
use Rattle.linked_program.specs.Checked.{nothing}
use Rattle.linked_program.specs.TableNames.{Columned, columned_of}
use Rattle.input_tables.specs.Befores.{PlainBefore}
use Rattle.input_tables.specs.Edited.{Edited, IsNoted, beside, names_of, columns_at}
use Rattle.rules_theory.proofs.EditedTables.{put_keeps_columns, delete_keeps_columns}
use Rattle.record_theory.specs.InStep.{IsSameBut}
use Rattle.record_index.specs.Befores.{HasRoomFor}
use Rattle.record_index.specs.Indexed.{PlainIndexed, IsIndexed, IsBeside, HaveSameColumns}
use Rattle.kept_session.proofs.SameBut.{put_same_but, delete_same_but}

-- ---- the tables have the columns that they had

abbrev columns_of_number : List Columned → ℕ → List Name
columns_of_number [] n = []
columns_of_number (x ∷ xs) zero = x.columns
columns_of_number (x ∷ xs) (suc n) = columns_of_number xs n

columns_by_number : (ts : Tables) (n : ℕ) → columns_at ts n ≡ columns_of_number (columned_of ts) n
columns_by_number [] n = refl
columns_by_number (x ∷ xs) zero = refl
columns_by_number (x ∷ xs) (suc n) = columns_by_number xs n

have_same_columns : (before after : Tables) → columned_of after ≡ columned_of before → HaveSameColumns before after
have_same_columns before after e n = ap length (columns_by_number after n ∙ ap (λ (cs : List Columned). columns_of_number cs n) e ∙ sym (columns_by_number before n))

-- ---- what is told of a changed row

-- the records may be told of that row, which alone has changed
pub record IsToldOf (before after : Tables) (n : ℕ) (row : ℤ) (was : PlainBefore) : Type 0 where
  pub noted : IsNoted before n row was
  pub same_but : IsSameBut n row before after
  pub columns : HaveSameColumns before after

module _ (before after : Tables) (n : ℕ) (row : ℤ) (was : PlainBefore) (x : PlainIndexed) (told : IsToldOf before after n row was) where
  has_room : HasRoomFor before x.room → IsBeside after n row was × (length was.sums < x.room)
  has_room room =
      let wide : length was.sums ≡ length (columns_at before n) = told.noted.before.wide ∙ ap (λ (m : ℕ). length (columns_at before m)) told.noted.table_is in
      (record { table_is = told.noted.table_is; row_is = told.noted.row_is; wide = wide ∙ sym (told.columns n) }, subst (λ (m : ℕ). m < x.room) (sym wide) (room n))

  is_beside : (x.records ≡ []) ⊎ HasRoomFor before x.room → (x.records ≡ []) ⊎ (IsBeside after n row was × (length was.sums < x.room))
  is_beside (inl none) = inl none
  is_beside (inr room) = inr (has_room room)

pub told_beside : (revisions : List (Name × ℕ)) (before after : Tables) (n : ℕ) (row : ℤ) (was : PlainBefore) (x : PlainIndexed) → IsIndexed revisions before x
    → IsToldOf before after n row was → (x.records ≡ []) ⊎ (IsBeside after n row was × (length was.sums < x.room))
told_beside revisions before after n row was x is told = is_beside before after n row was x told is.room

module _ (old new : Edited) (t : Name) (row : ℤ) (n : ℕ) (place : n ≡ index_of (names_of old.tables) t) (noted : IsNoted old.tables n row new.was) where
  pub put_told : (vs : List ℤ) → ((program : Revised) (lines : List Lined) → after_put (beside program lines old) t row vs ≡ Ok (beside program lines new))
      → IsToldOf old.tables new.tables n row new.was
  put_told vs put = record {
    noted = noted;
    same_but = put_same_but old new t row vs n place put;
    columns = have_same_columns old.tables new.tables (put_keeps_columns (beside nothing [] old) (beside nothing [] new) t row vs (put nothing []));
  }

  pub delete_told : ((program : Revised) (lines : List Lined) → after_delete (beside program lines old) t row ≡ Ok (beside program lines new))
      → IsToldOf old.tables new.tables n row new.was
  delete_told deleted = record {
    noted = noted;
    same_but = delete_same_but old new t row n place deleted;
    columns = have_same_columns old.tables new.tables (delete_keeps_columns (beside nothing [] old) (beside nothing [] new) t row (deleted nothing []));
  }
