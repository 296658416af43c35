-- An operator on two cells of one row.
use Rattle.std.proofs.Common.{◌≡◌, ℤ, List, [], ◌∷◌, ◌++◌, Option, Some, None, Result, Ok, Err, IfSome, refl, ap, sym, ◌∙◌, append-nil, append_assoc}
use Rattle.std.proofs.Math.Seq.{take-length}
use Rattle.std.specs.Prelude.{slice_get}
use Rattle.meaning.specs.declared.tree.Operator.{Operator}
use Rattle.meaning.specs.Tables.{Tables, row_of, at_column}
use Rattle.input_tables.specs.Edited.{rows_at, cell_at}
use Rattle.linked_program.specs.declared.code.RowCells.{RowCells}
use Rattle.linked_program.specs.CodeView.{on_row}
use Rattle.evaluation.specs.declared.note.Note.{Note}
use Rattle.evaluation.specs.declared.note.Note.TheVariants.{Cell}
use Rattle.evaluation.specs.declared.slot.Slot.{Slot}
use Rattle.evaluation.specs.declared.stop.Stop.{Stop}
use Rattle.evaluation.specs.declared.stop.Stop.TheVariants.{NoMemory, Fault}
use Rattle.evaluation.specs.Slots.{number_in}
use Rattle.evaluation.specs.Values.{NumberedOut, ◌>>=◌, pure, looked, applied, value_at}
use Rattle.evaluation.specs.Ends.{AreNoted, Ends, Stops}
use Rattle.evaluation.proofs.Ending.{second_ends}

-- what is said of what was found
pub if_some : {A : Type 0} {P Q : A → Type 0} (o : Option A) → ((a : A) → P a → Q a) → IfSome o P → IfSome o Q
if_some (Some a) f p = f a p
if_some None f p = tt

-- the value of the operator, by what stands in the two columns
abbrev by_cells : Operator → RowCells → ℤ → Option ℤ → Option ℤ → NumberedOut ℤ
by_cells op c row o p = (pure row >>= (λ n. looked c.table n c.first o)) >>= (λ x. (pure row >>= (λ n. looked c.table n c.second p)) >>= (λ y. applied op x y))

pub value_on_row : (ts : Tables) (slots : List Slot) (op : Operator) (c : RowCells) (vs : List ℤ) (x y v : ℤ)
    → row_of (rows_at ts c.table) (number_in (slice_get slots c.slot)) ≡ Some vs → slice_get vs c.first ≡ Some x → slice_get vs c.second ≡ Some y → applied op x y ≡ pure v
    → (value_at ts slots (on_row op c)).answer ≡ Ok v
value_on_row ts slots op c vs x y v row left right is =
    let n = number_in (slice_get slots c.slot) in
    let first : cell_at ts c.table n c.first ≡ Some x = ap (λ o. at_column o c.first) row ∙ left in
    let second : cell_at ts c.table n c.second ≡ Some y = ap (λ o. at_column o c.second) row ∙ right in
    ap (λ o. (by_cells op c n o (cell_at ts c.table n c.second)).answer) first ∙ ap (λ o. (by_cells op c n (Some x) o).answer) second ∙ ap (λ o. o.answer) is

applied_stops : (op : Operator) (x y : ℤ) (notes : List Note) (r : Result ℤ Stop) → Ends {A = ℤ} {B = ℤ} (λ v. v) (applied op x y) [] [] r
    → Stops {A = ℤ} {B = ℤ} (λ v. v) (applied op x y) notes notes r
applied_stops op x y notes (Ok v) h = (h.0, sym (append-nil notes))
applied_stops op x y notes (Err (Fault k)) h = (h.0, sym (append-nil notes))
applied_stops op x y notes (Err NoMemory) h = take-length notes

-- the operator on what two evaluations gave ends as both and the operator
pub both_end : (op : Operator) (m k : NumberedOut ℤ) (old mid new : List Note) (x y : ℤ) (r : Result ℤ Stop)
    → m.answer ≡ Ok x → mid ≡ old ++ m.notes → k.answer ≡ Ok y → new ≡ mid ++ k.notes → Ends {A = ℤ} {B = ℤ} (λ v. v) (applied op x y) [] [] r
    → Stops {A = ℤ} {B = ℤ} (λ v. v) (m >>= (λ a. k >>= (λ b. applied op a b))) old new r
both_end op m k old mid new x y r left noted right more is =
    second_ends (λ v. v) m (λ a. k >>= (λ b. applied op a b)) old mid new x r left noted
    (second_ends (λ v. v) k (λ b. applied op x b) mid new new y r right more (applied_stops op x y new r is))

-- ---- both cells at once

pub are_noted : (ts : Tables) (slots : List Slot) (c : RowCells) (vs : List ℤ) (x y : ℤ) (old new : List Note)
    → row_of (rows_at ts c.table) (number_in (slice_get slots c.slot)) ≡ Some vs → slice_get vs c.first ≡ Some x → slice_get vs c.second ≡ Some y
    → new ≡ old ++ Cell c.table (number_in (slice_get slots c.slot)) c.first x ∷ Cell c.table (number_in (slice_get slots c.slot)) c.second y ∷ []
    → AreNoted ts slots c x y old new
are_noted ts slots c vs x y old new row left right noted = (ap (λ o. at_column o c.first) row ∙ left, ap (λ o. at_column o c.second) row ∙ right, noted)

pub noted_end : (ts : Tables) (slots : List Slot) (op : Operator) (c : RowCells) (x y : ℤ) (old new : List Note) (r : Result ℤ Stop)
    → AreNoted ts slots c x y old new → Ends {A = ℤ} {B = ℤ} (λ v. v) (applied op x y) [] [] r
    → Stops {A = ℤ} {B = ℤ} (λ v. v) (value_at ts slots (on_row op c)) old new r
noted_end ts slots op c x y old new r are is =
    let n = number_in (slice_get slots c.slot) in
    let first = looked c.table n c.first (cell_at ts c.table n c.first) in
    let second = looked c.table n c.second (cell_at ts c.table n c.second) in
    both_end op first second old (old ++ first.notes) new x y r
    (ap (λ o. (looked c.table n c.first o).answer) are.0) refl (ap (λ o. (looked c.table n c.second o).answer) are.1)
    (are.2 ∙ sym (append_assoc old (Cell c.table n c.first x ∷ []) (Cell c.table n c.second y ∷ []))
    ∙ ap (λ o. (old ++ (looked c.table n c.first o).notes) ++ Cell c.table n c.second y ∷ []) (sym are.0)
    ∙ ap (λ o. (old ++ first.notes) ++ (looked c.table n c.second o).notes) (sym are.1)) is
