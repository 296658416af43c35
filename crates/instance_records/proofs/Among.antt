-- A reading that lies in no span is none of those that the spans hold; what was read in a node, by its own and its parts.
use Rattle.std.proofs.Common.{◌≡◌, ℕ, zero, suc, ◌+◌, ◌<◌, Bool, true, false, true≢false, List, [], ◌∷◌, Some, None, length, take, map, refl, sym, ◌∙◌, ap, subst, arith, get_or}
use Rattle.std.specs.Prelude.{◌||◌, Box}
use Rattle.std.specs.declared.alloc.Global.{Global}
use Rattle.std.specs.List.{flat_map}
use Rattle.evaluation.specs.declared.note.Note.{Note}
use Rattle.evaluation.specs.Short.{note_of}
use Rattle.meaning.specs.Every.{every}
use Rattle.instance_records.specs.declared.readings.Node.{Node, out-Node}
use Rattle.instance_records.specs.declared.readings.Below.{Below, out-Below}
use Rattle.instance_records.specs.ShortLists.{items_in}
use Rattle.instance_records.specs.Readings.{node_notes, shared_notes, held_notes, is_covered}
use Rattle.instance_records.specs.declared.spans.Span.{Span}
use Rattle.instance_records.specs.Spans.{is_covered_by, spans_in}
use Rattle.record_theory.specs.Record.{PlainRecord}
use Rattle.record_theory.specs.Same.{same_note, is_read}
use Rattle.record_theory.proofs.Members.{left_is, right_is, both, every_weaker}
use Rattle.instance_records.proofs.NodeNotes.{notes_out, alone, with_parts, spans_cover}
use Rattle.record_theory.proofs.Same.{note_is, read_append}

-- one that no span covers is none of those that the spans cover
not_same : (spans : List Span) (note x : Note) (b : Bool) → is_covered_by spans note ≡ false → is_covered_by spans x ≡ true → same_note note x ≡ b → b ≡ false
not_same spans note x false h e s = refl
not_same spans note x true h e s = absurd (true≢false (sym e ∙ ap (is_covered_by spans) (sym (note_is note x s)) ∙ h))

pub read_elsewhere : (spans : List Span) (ns : List Note) (note : Note) → is_covered_by spans note ≡ false → every (is_covered_by spans) ns ≡ true → is_read ns note ≡ false
read_elsewhere spans [] note h e = refl
read_elsewhere spans (x ∷ ns) note h e =
    ap (λ b. b || is_read ns note) (not_same spans note x (same_note note x) h (left_is (is_covered_by spans x) (every (is_covered_by spans) ns) e) refl)
    ∙ read_elsewhere spans ns note h (right_is (is_covered_by spans x) (every (is_covered_by spans) ns) e)

-- ---- in a node, by its own and those of its parts

either : (a b : Bool) → a ≡ false → (a || b) ≡ b
either a b e = ap (λ x. x || b) e

surely : (a b : Bool) → a ≡ true → (a || b) ≡ true
surely a b e = ap (λ x. x || b) e

module _ (n : Node) (note : Note) where
  pub read_own : is_read (map note_of (items_in (out-Node n).own)) note ≡ true → is_read (node_notes n) note ≡ true
  read_own e =
      ap (λ ns. is_read ns note) (notes_out n)
      ∙ read_append (map note_of (items_in (out-Node n).own)) (held_notes (out-Node n).below) note
      ∙ surely (is_read (map note_of (items_in (out-Node n).own)) note) (is_read (held_notes (out-Node n).below) note) e

  pub read_alone : (out-Node n).below ≡ None → is_read (map note_of (items_in (out-Node n).own)) note ≡ false → is_read (node_notes n) note ≡ false
  read_alone b e =
      ap (λ ns. is_read ns note) (alone n b)
      ∙ read_append (map note_of (items_in (out-Node n).own)) [] note
      ∙ either (is_read (map note_of (items_in (out-Node n).own)) note) false e

  pub read_in_parts : (b : Box Below Global) → (out-Node n).below ≡ Some b → is_read (map note_of (items_in (out-Node n).own)) note ≡ false
      → is_read (node_notes n) note ≡ is_read (flat_map shared_notes (items_in (out-Below b.value).parts)) note
  read_in_parts b at e =
      ap (λ ns. is_read ns note) (with_parts n b at)
      ∙ read_append (map note_of (items_in (out-Node n).own)) (flat_map shared_notes (items_in (out-Below b.value).parts)) note
      ∙ either (is_read (map note_of (items_in (out-Node n).own)) note) (is_read (flat_map shared_notes (items_in (out-Below b.value).parts)) note) e

  -- where its rows lie in no span, it isn't below
  pub read_outside : (b : Box Below Global) → (out-Node n).below ≡ Some b → is_covered n ≡ true → is_covered_by (spans_in (out-Below b.value).spans) note ≡ false
      → is_read (map note_of (items_in (out-Node n).own)) note ≡ false → is_read (node_notes n) note ≡ false
  read_outside b at covered outside e =
      read_in_parts b at e ∙ read_elsewhere (spans_in (out-Below b.value).spans) (flat_map shared_notes (items_in (out-Below b.value).parts)) note outside (spans_cover n b at covered)

-- ---- rows of one more record

more_held : (rs : List PlainRecord) (i : ℕ) (r : PlainRecord) (old new : List Span) → i < length rs → r ≡ get_or rs i r → ((note : Note) → is_covered_by old note ≡ true → is_covered_by new note ≡ true)
    → every (is_covered_by new) r.reads ≡ true → every (λ (x : PlainRecord). every (is_covered_by old) x.reads) (take i rs) ≡ true
    → every (λ (x : PlainRecord). every (is_covered_by new) x.reads) (take (suc i) rs) ≡ true
more_held [] i r old new l at kept put so_far = absurd (omega (arith, l))
more_held (x ∷ xs) zero r old new l at kept put so_far = both (every (is_covered_by new) x.reads) true (ap (λ (y : PlainRecord). every (is_covered_by new) y.reads) (sym at) ∙ put) refl
more_held (x ∷ xs) (suc i) r old new l at kept put so_far =
    both (every (is_covered_by new) x.reads) (every (λ (y : PlainRecord). every (is_covered_by new) y.reads) (take (suc i) xs))
    (every_weaker (is_covered_by old) (is_covered_by new) x.reads kept (left_is (every (is_covered_by old) x.reads) (every (λ (y : PlainRecord). every (is_covered_by old) y.reads) (take i xs)) so_far))
    (more_held xs i r old new (omega (arith, l)) at kept put (right_is (every (is_covered_by old) x.reads) (every (λ (y : PlainRecord). every (is_covered_by old) y.reads) (take i xs)) so_far))

pub one_more_held : (rs : List PlainRecord) (i : ℕ) (r : PlainRecord) (old new : List Span) → i < length rs → r ≡ get_or rs i r → ((note : Note) → is_covered_by old note ≡ true → is_covered_by new note ≡ true)
    → every (is_covered_by new) r.reads ≡ true → every (λ (x : PlainRecord). every (is_covered_by old) x.reads) (take i rs) ≡ true
    → every (λ (x : PlainRecord). every (is_covered_by new) x.reads) (take (i + 1) rs) ≡ true
one_more_held rs i r old new l at kept put so_far =
    let next : suc i ≡ i + 1 = omega arith in
    subst (λ (k : ℕ). every (λ (x : PlainRecord). every (is_covered_by new) x.reads) (take k rs) ≡ true) next (more_held rs i r old new l at kept put so_far)
