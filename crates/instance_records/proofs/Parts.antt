-- What was read in a part was read above it.
use Rattle.std.proofs.Common.{◌≡◌, ℕ, zero, suc, ◌<◌, ℤ, Bool, true, false, List, [], ◌∷◌, Option, Some, None, IfSome, length, map, refl, sym, ap, ◌∙◌, arith, get_or}
use Rattle.std.specs.Prelude.{◌||◌, slice_get, Box}
use Rattle.std.specs.declared.alloc.Global.{Global}
use Rattle.std.specs.declared.sync.Arc.{Arc}
use Rattle.std.specs.List.{flat_map}
use Rattle.evaluation.specs.declared.note.Note.{Note}
use Rattle.evaluation.specs.declared.reading.Reading.{Reading}
use Rattle.evaluation.specs.Short.{note_of}
use Rattle.instance_records.specs.declared.readings.Node.{Node, out-Node}
use Rattle.instance_records.specs.declared.readings.Below.{Below, out-Below}
use Rattle.instance_records.specs.ShortLists.{items_in}
use Rattle.instance_records.specs.Readings.{node_notes, shared_notes}
use Rattle.record_theory.specs.Same.{same_note, is_read}
use Rattle.instance_records.proofs.NodeNotes.{with_parts}
use Rattle.record_theory.proofs.Same.{read_append}

surely : (a b : Bool) → a ≡ true → (a || b) ≡ true
surely a b e = ap (λ x. x || b) e

surely_behind : (a b : Bool) → b ≡ true → (a || b) ≡ true
surely_behind true b e = refl
surely_behind false b e = e

read_there : (own : List Reading) (k : ℕ) (x : Reading) (note : Note) → slice_get own k ≡ Some x → same_note note (note_of x) ≡ true → is_read (map note_of own) note ≡ true
read_there [] k x note at e = absurd cc
read_there (r ∷ rs) zero x note at e =
    let same : r ≡ x = cc in
    surely (same_note note (note_of r)) (is_read (map note_of rs) note) (ap (λ y. same_note note (note_of y)) same ∙ e)
read_there (r ∷ rs) (suc k) x note at e = surely_behind (same_note note (note_of r)) (is_read (map note_of rs) note) (read_there rs k x note at e)

pub some_there : (own : List Reading) (k : ℕ) (x : Reading) (f : ℤ → Note) (o : Option ℤ) → slice_get own k ≡ Some x → IfSome o (λ v. same_note (f v) (note_of x) ≡ true) → IfSome o (λ v. is_read (map note_of own) (f v) ≡ true)
some_there own k x f None at e = e
some_there own k x f (Some v) at e = read_there own k x (f v) at e

-- ---- what a part has read

pub read_in_part : (parts : List (Arc Node Global)) (k : ℕ) (part : Arc Node Global) (note : Note) → k < length parts → part ≡ get_or parts k part → is_read (shared_notes part) note ≡ true → is_read (flat_map shared_notes parts) note ≡ true
read_in_part [] k part note l at e = absurd (omega (arith, l))
read_in_part (p ∷ ps) zero part note l at e =
    read_append (shared_notes p) (flat_map shared_notes ps) note
    ∙ surely (is_read (shared_notes p) note) (is_read (flat_map shared_notes ps) note) (ap (λ y. is_read (shared_notes y) note) (sym at) ∙ e)
read_in_part (p ∷ ps) (suc k) part note l at e =
    read_append (shared_notes p) (flat_map shared_notes ps) note
    ∙ surely_behind (is_read (shared_notes p) note) (is_read (flat_map shared_notes ps) note) (read_in_part ps k part note (omega (arith, l)) at e)

pub read_below : (n : Node) (note : Note) (b : Box Below Global) → (out-Node n).below ≡ Some b → is_read (flat_map shared_notes (items_in (out-Below b.value).parts)) note ≡ true → is_read (node_notes n) note ≡ true
read_below n note b at e =
    ap (λ ns. is_read ns note) (with_parts n b at)
    ∙ read_append (map note_of (items_in (out-Node n).own)) (flat_map shared_notes (items_in (out-Below b.value).parts)) note
    ∙ surely_behind (is_read (map note_of (items_in (out-Node n).own)) note) (is_read (flat_map shared_notes (items_in (out-Below b.value).parts)) note) e
