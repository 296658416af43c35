-- The notes of a node and of all below it, one level at a time.
use Rattle.std.proofs.Common.{◌≡◌, ℤ, Bool, true, List, [], ◌∷◌, map, ◌++◌, refl, sym, ap, ◌∙◌, append_assoc, subst, Option, Some, None, Result, Ok, Err, OnOk}
use Rattle.std.specs.Prelude.{◌&&◌, Box}
use Rattle.std.specs.declared.alloc.Global.{Global}
use Rattle.std.specs.declared.sync.Arc.{Arc}
use Rattle.std.specs.Arc.{arc_value}
use Rattle.std.specs.List.{flat_map}
use Rattle.std.proofs.lemmas.List.Folds.{flat_map-map}
use Rattle.std.proofs.lemmas.Grind.{flat_map-append}
use Rattle.evaluation.specs.declared.note.Note.{Note}
use Rattle.meaning.specs.Every.{every}
use Rattle.instance_records.specs.declared.readings.Node.{Node, out-Node, roll-Node, roll-out-Node, fold-roll-Node}
use Rattle.instance_records.specs.declared.readings.Below.{Below, Below-F, out-Below, roll-Below, roll-out-Below, fold-roll-Below}
use Rattle.evaluation.specs.Short.{note_of}
use Rattle.evaluation.specs.declared.reading.Reading.{Reading}
use Rattle.instance_records.specs.declared.few_spans.FewSpans.{FewSpans}
use Rattle.instance_records.specs.declared.full.Full.{Full}
use Rattle.instance_records.specs.declared.short_list.ShortList.{ShortList}
use Rattle.instance_records.specs.declared.short_list.ShortList.TheVariants.{One, Two, Several}
use Rattle.instance_records.specs.declared.spans.Span.{Span}
use Rattle.instance_records.specs.ShortLists.{items_in}
use Rattle.instance_records.specs.Spans.{is_covered_by, span_of, put_spans, spans_in}
use Rattle.record_theory.proofs.Members.{left_is, right_is, both, every_mapped, every_weaker, every_append}
use Rattle.instance_records.proofs.Covered.{keeps_all, adds_all, adds_read}
use Rattle.instance_records.specs.Readings.{all_of, Told, node_step, below_step, node_told, below_told, node_notes, is_covered, shared_notes, is_covered_share, held_notes, is_covered_below}

-- ---- one level of a fold

roll_told : (own : ShortList Reading) (below : Option (Box Below Global)) → node_told (roll-Node (record { own = own; below = below })) ≡ (map note_of (items_in own) ++ held_notes below, is_covered_below below)
roll_told own None = fold-roll-Node Told Told below_step node_step (record { own = own; below = None })
roll_told own (Some b) = fold-roll-Node Told Told below_step node_step (record { own = own; below = Some b })

out_told : (n : Node) → node_told n ≡ (map note_of (items_in (out-Node n).own) ++ held_notes (out-Node n).below, is_covered_below (out-Node n).below)
out_told n = ap node_told (sym (roll-out-Node n)) ∙ roll_told (out-Node n).own (out-Node n).below

pub notes_out : (n : Node) → node_notes n ≡ map note_of (items_in (out-Node n).own) ++ held_notes (out-Node n).below
notes_out n = ap (λ t. t.0) (out_told n)

pub covered_out : (n : Node) → is_covered n ≡ is_covered_below (out-Node n).below
covered_out n = ap (λ t. t.1) (out_told n)

abbrev told_of : List Note → Bool → Told
told_of notes covered = (notes, covered)

told_same : (spans : FewSpans) (a b : Bool) (xs ys : List Note) → a ≡ b → xs ≡ ys
    → told_of xs (a && every (is_covered_by (spans_in spans)) xs) ≡ told_of ys (b && every (is_covered_by (spans_in spans)) ys)
told_same spans a b xs ys e f =
    ap (λ c. told_of xs (c && every (is_covered_by (spans_in spans)) xs)) e ∙ ap (λ zs. told_of zs (b && every (is_covered_by (spans_in spans)) zs)) f

parts_roll : (parts : ShortList (Arc Node Global)) (from : ℤ) (spans : FewSpans) (full : Full) → below_told (roll-Below (record { parts = parts; last_from = from; spans = spans; full = full }))
    ≡ (flat_map shared_notes (items_in parts), every is_covered_share (items_in parts) && every (is_covered_by (spans_in spans)) (flat_map shared_notes (items_in parts)))
parts_roll (One item) from spans full = fold-roll-Below Told Told below_step node_step (record { parts = One item; last_from = from; spans = spans; full = full })
parts_roll (Two pair) from spans full =
    fold-roll-Below Told Told below_step node_step (record { parts = Two pair; last_from = from; spans = spans; full = full })
    ∙ told_same spans _ _ _ _
    (sym (every_mapped (λ (p : Arc Told Global). (arc_value p).1) is_covered_share _ pair (λ p. refl)))
    (flat_map-map (λ (p : Arc Told Global). (arc_value p).0) _ pair)
parts_roll (Several items) from spans full =
    fold-roll-Below Told Told below_step node_step (record { parts = Several items; last_from = from; spans = spans; full = full })
    ∙ told_same spans _ _ _ _
    (sym (every_mapped (λ (p : Arc Told Global). (arc_value p).1) is_covered_share _ items.items (λ p. refl)))
    (flat_map-map (λ (p : Arc Told Global). (arc_value p).0) _ items.items)

pub below_roll : (x : Below-F Below Node) → (below_told (roll-Below x)).0 ≡ flat_map shared_notes (items_in x.parts)
below_roll x = ap (λ t. t.0) (parts_roll x.parts x.last_from x.spans x.full)

pub below_covered_roll : (x : Below-F Below Node) → (below_told (roll-Below x)).1 ≡ (every is_covered_share (items_in x.parts) && every (is_covered_by (spans_in x.spans)) (flat_map shared_notes (items_in x.parts)))
below_covered_roll x = ap (λ t. t.1) (parts_roll x.parts x.last_from x.spans x.full)

pub below_out : (b : Below) → (below_told b).0 ≡ flat_map shared_notes (items_in (out-Below b).parts)
below_out b = ap (λ x. (below_told x).0) (sym (roll-out-Below b)) ∙ below_roll (out-Below b)

pub below_covered_out : (b : Below) → (below_told b).1 ≡ (every is_covered_share (items_in (out-Below b).parts) && every (is_covered_by (spans_in (out-Below b).spans)) (flat_map shared_notes (items_in (out-Below b).parts)))
below_covered_out b = ap (λ x. (below_told x).1) (sym (roll-out-Below b)) ∙ below_covered_roll (out-Below b)

-- ---- its own readings and those below

every_both : {A : Type 0} (p : A → Bool) (xs ys : List A) → every p xs ≡ true → every p ys ≡ true → every p (xs ++ ys) ≡ true
every_both p xs ys e f = every_append p xs ys ∙ both (every p xs) (every p ys) e f

pub append_nil : {A : Type 0} (xs : List A) → xs ++ [] ≡ xs
append_nil [] = refl
append_nil (x ∷ xs) = ap (λ ys. x ∷ ys) (append_nil xs)

module _ (n : Node) where
  -- its own notes and those of its parts are all of them
  pub with_parts : (b : Box Below Global) → (out-Node n).below ≡ Some b → node_notes n ≡ map note_of (items_in (out-Node n).own) ++ flat_map shared_notes (items_in (out-Below b.value).parts)
  with_parts b e = notes_out n ∙ ap (λ o. map note_of (items_in (out-Node n).own) ++ held_notes o) e ∙ ap (λ ns. map note_of (items_in (out-Node n).own) ++ ns) (below_out b.value)

  pub alone : (out-Node n).below ≡ None → node_notes n ≡ map note_of (items_in (out-Node n).own) ++ []
  alone e = notes_out n ∙ ap (λ o. map note_of (items_in (out-Node n).own) ++ held_notes o) e

  covered_there : (b : Box Below Global) → (out-Node n).below ≡ Some b → is_covered n ≡ true → (every is_covered_share (items_in (out-Below b.value).parts) && every (is_covered_by (spans_in (out-Below b.value).spans)) (flat_map shared_notes (items_in (out-Below b.value).parts))) ≡ true
  covered_there b e h = sym (below_covered_out b.value) ∙ ap is_covered_below (sym e) ∙ sym (covered_out n) ∙ h

  pub parts_covered : (b : Box Below Global) → (out-Node n).below ≡ Some b → is_covered n ≡ true → every is_covered_share (items_in (out-Below b.value).parts) ≡ true
  parts_covered b e h = left_is (every is_covered_share (items_in (out-Below b.value).parts)) _ (covered_there b e h)

  pub spans_cover : (b : Box Below Global) → (out-Node n).below ≡ Some b → is_covered n ≡ true → every (is_covered_by (spans_in (out-Below b.value).spans)) (flat_map shared_notes (items_in (out-Below b.value).parts)) ≡ true
  spans_cover b e h = right_is (every is_covered_share (items_in (out-Below b.value).parts)) _ (covered_there b e h)

  -- ---- tests of all notes

  pub every_alone : (p : Note → Bool) → (out-Node n).below ≡ None → every p (node_notes n) ≡ every p (map note_of (items_in (out-Node n).own))
  every_alone p e = ap (every p) (alone e ∙ append_nil (map note_of (items_in (out-Node n).own)))

  pub every_with_parts : (p : Note → Bool) (b : Box Below Global) → (out-Node n).below ≡ Some b → every p (map note_of (items_in (out-Node n).own)) ≡ true
      → every p (node_notes n) ≡ every p (flat_map shared_notes (items_in (out-Below b.value).parts))
  every_with_parts p b e h =
      ap (every p) (with_parts b e)
      ∙ every_append p (map note_of (items_in (out-Node n).own)) (flat_map shared_notes (items_in (out-Below b.value).parts))
      ∙ ap (λ c. c && every p (flat_map shared_notes (items_in (out-Below b.value).parts))) h

  -- ---- its notes are covered by spans that it is joined with

  own_covered : (old new : List Span) → new ≡ put_spans old (map span_of (items_in (out-Node n).own)) → every (is_covered_by new) (map note_of (items_in (out-Node n).own)) ≡ true
  own_covered old new e = subst (λ ss. every (is_covered_by ss) (map note_of (items_in (out-Node n).own)) ≡ true) (sym e) (adds_read (items_in (out-Node n).own) old)

  pub alone_covered : (old new : List Span) → new ≡ put_spans old (map span_of (items_in (out-Node n).own)) → (out-Node n).below ≡ None → every (is_covered_by new) (node_notes n) ≡ true
  alone_covered old new e h = every_alone (is_covered_by new) h ∙ own_covered old new e

  pub all_covered : (old mid new : List Span) (b : Box Below Global) → (out-Node n).below ≡ Some b → is_covered n ≡ true
      → mid ≡ put_spans old (map span_of (items_in (out-Node n).own)) → new ≡ put_spans mid (spans_in (out-Below b.value).spans) → every (is_covered_by new) (node_notes n) ≡ true
  all_covered old mid new b e h f g =
      let spans = (spans_in (out-Below b.value).spans) in
      let more : (note : Note) → is_covered_by mid note ≡ true → is_covered_by new note ≡ true = λ note k. subst (λ ss. is_covered_by ss note ≡ true) (sym g) (keeps_all spans mid note k) in
      let put : (note : Note) → is_covered_by spans note ≡ true → is_covered_by new note ≡ true = λ note k. subst (λ ss. is_covered_by ss note ≡ true) (sym g) (adds_all spans mid note k) in
      every_with_parts (is_covered_by new) b e (every_weaker (is_covered_by mid) (is_covered_by new) (map note_of (items_in (out-Node n).own)) more (own_covered old mid f))
      ∙ every_weaker (is_covered_by spans) (is_covered_by new) (flat_map shared_notes (items_in (out-Below b.value).parts)) put (spans_cover b e h)

-- what was covered stays so, where more is put in
pub still_covered : (old new more : List Span) → new ≡ put_spans old more → (note : Note) → is_covered_by old note ≡ true → is_covered_by new note ≡ true
still_covered old new more e note h = subst (λ ss. is_covered_by ss note ≡ true) (sym e) (keeps_all more old note h)

-- one more node behind the others
pub one_more_covered : (old new : List Span) (before after : List (Arc Node Global)) (p : Arc Node Global) → after ≡ before ++ p ∷ [] → ((note : Note) → is_covered_by old note ≡ true → is_covered_by new note ≡ true)
    → every (is_covered_by old) (flat_map shared_notes before) ≡ true → every (is_covered_by new) (shared_notes p) ≡ true → every (is_covered_by new) (flat_map shared_notes after) ≡ true
one_more_covered old new before after p e kept h put =
    ap (λ ps. every (is_covered_by new) (flat_map shared_notes ps)) e
    ∙ ap (every (is_covered_by new)) (flat_map-append shared_notes before (p ∷ []) ∙ ap (λ ns. flat_map shared_notes before ++ ns) (append_nil (shared_notes p)))
    ∙ every_both (is_covered_by new) (flat_map shared_notes before) (shared_notes p) (every_weaker (is_covered_by old) (is_covered_by new) (flat_map shared_notes before) kept h) put

pub one_more_each : (before after : List (Arc Node Global)) (p : Arc Node Global) → after ≡ before ++ p ∷ [] → every is_covered_share before ≡ true → is_covered_share p ≡ true → every is_covered_share after ≡ true
one_more_each before after p e h k = ap (every is_covered_share) e ∙ every_both is_covered_share before (p ∷ []) h (both (is_covered_share p) true k refl)

pub moved_on : (before after : List (Arc Node Global)) (p : Arc Node Global) (part whole : List Note) (items rest : List (List Note)) → after ≡ before ++ p ∷ [] → shared_notes p ≡ part → items ≡ part ∷ rest
    → flat_map shared_notes before ++ all_of items ≡ whole → flat_map shared_notes after ++ all_of rest ≡ whole
moved_on before after p part whole items rest e f g h =
    ap (λ ps. flat_map shared_notes ps ++ all_of rest) e
    ∙ ap (λ ns. ns ++ all_of rest) (flat_map-append shared_notes before (p ∷ []) ∙ ap (λ ns. flat_map shared_notes before ++ ns) (append_nil (shared_notes p)))
    ∙ append_assoc (flat_map shared_notes before) (shared_notes p) (all_of rest)
    ∙ ap (λ ns. flat_map shared_notes before ++ (ns ++ all_of rest)) f
    ∙ ap (λ xs. flat_map shared_notes before ++ all_of xs) (sym g)
    ∙ h

-- the node's own notes are put behind the others, and then those of its parts
pub put_with_parts : (n : Node) (b : Box Below Global) (old mid new : List Note) → (out-Node n).below ≡ Some b → mid ≡ old ++ map note_of (items_in (out-Node n).own)
    → new ≡ mid ++ flat_map shared_notes (items_in (out-Below b.value).parts) → new ≡ old ++ node_notes n
put_with_parts n b old mid new e f g =
    g
    ∙ ap (λ ns. ns ++ flat_map shared_notes (items_in (out-Below b.value).parts)) f
    ∙ append_assoc old (map note_of (items_in (out-Node n).own)) (flat_map shared_notes (items_in (out-Below b.value).parts))
    ∙ ap (λ ns. old ++ ns) (sym (with_parts n b e))

pub on_ok : {A E P Q : Type 0} (r : Result A E) → (P → Q) → OnOk r P → OnOk r Q
on_ok (Ok a) f h = f h
on_ok (Err e) f h = tt
