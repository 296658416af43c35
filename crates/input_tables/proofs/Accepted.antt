-- What an accepted edit leaves.
use Rattle.std.proofs.Common.{◌≡◌, ℕ, suc, List, ap, sym, ◌∙◌, refl}
use Rattle.meaning.specs.Tree.{Name}
use Rattle.meaning.specs.TreeView.{Lined}
use Rattle.meaning.specs.Records.{Revised}
use Rattle.meaning.specs.Tables.{Listed, index_of}
use Rattle.input_tables.specs.Edited.{Edited, beside, edited, changed_at, names_of}
use Rattle.input_tables.proofs.Numbered.{changed_at-place}

-- the table of a name changed, by its number, and one more edit
pub edited_by_number : (program : Revised) (lines : List Lined) (f : Listed → Listed) (old new : Edited) (t : Name) (n : ℕ) → n ≡ index_of (names_of old.tables) t
    → new.tables ≡ changed_at f old.tables n → new.edits ≡ suc old.edits → edited program lines f old t ≡ beside program lines new
edited_by_number program lines f old new t n place tables edits =
    let changed = sym (tables ∙ ap (changed_at f old.tables) place ∙ changed_at-place f old.tables t) in
    rw (changed, sym edits) refl
