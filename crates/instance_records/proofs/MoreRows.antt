-- Lines of cells: one cell more, one row more, and the rows at the end; rows that are joined, and those of more notes.
use Rattle.std.proofs.Common.{◌≡◌, ℕ, zero, suc, length, drop, get_or, ◌+◌, ◌≤◌, ◌<◌, ◌≤ℤ◌, ◌<ℤ◌, ℤ, pos, negsuc, Bool, true, false, List, [], ◌∷◌, ◌++◌, map, refl, sym, ap, ◌∙◌, subst, arith, Option, Some}
use Rattle.std.proofs.lemmas.Int.{ints, clamps}
use Rattle.std.specs.Prelude.{Box, ◌||◌}
use Rattle.std.proofs.lemmas.List.{drop_more}
use Rattle.evaluation.specs.declared.reading.Reading.{Reading}
use Rattle.record_theory.specs.Same.{same_note, is_read}
use Rattle.record_theory.proofs.NumbersThen.{note_itself}
use Rattle.std.specs.Int.{int_min, int_max}
use Rattle.std.specs.declared.alloc.Global.{Global}
use Rattle.std.specs.List.{flat_map}
use Rattle.evaluation.specs.declared.note.Note.{Note}
use Rattle.evaluation.specs.Short.{note_of}
use Rattle.instance_records.specs.declared.full.Full.{Full}
use Rattle.instance_records.specs.declared.lines.Lines.{Lines}
use Rattle.instance_records.specs.declared.spans.Span.{Span}
use Rattle.instance_records.specs.declared.readings.Node.{Node, out-Node}
use Rattle.instance_records.specs.declared.readings.Below.{Below, Below-F, out-Below, roll-Below, out-roll-Below}
use Rattle.instance_records.specs.Full.{has_cell, HasCells, IsFull, AreLines, IsFullBelow, IsFullNode}
use Rattle.instance_records.specs.Readings.{all_of, below_told, node_notes, shared_notes, held_notes}
use Rattle.instance_records.specs.ShortLists.{items_in}
use Rattle.instance_records.specs.Spans.{span_of, put_span, put_spans}
use Rattle.instance_records.proofs.HadCells.{one_cell, first_cell, Rows, no_rows, one_row, both_rows, cell_before, cell_behind, narrower, on_right}
use Rattle.instance_records.proofs.NodeNotes.{notes_out, below_roll}
use Rattle.instance_records.proofs.Runs.{made, put_row}

-- ---- rows

pub joined_full : (notes : List Note) (a b : Full) → a.until ≡ b.low → a.table ≡ b.table → a.first ≡ b.first → a.end ≡ b.end → IsFull notes a → IsFull notes b → IsFull notes (record a { until = b.until })
joined_full notes a b u t f e g h =
    both_rows notes a.low a.until b.until a.table a.first a.end g
    (subst (λ (k : ℕ). Rows notes k b.until a.table a.first a.end) (sym u)
    (subst (λ (k : ℕ). Rows notes b.low b.until k a.first a.end) (sym t)
    (subst (λ (k : ℕ). Rows notes b.low b.until b.table k a.end) (sym f)
    (subst (λ (k : ℕ). Rows notes b.low b.until b.table b.first k) (sym e) h))))

module _ (notes : List Note) (l : Lines) (h : AreLines notes l) where
  -- the next cell of the row at hand
  pub more_cells : (t row c : ℕ) → l.full.table ≡ t → l.full.until ≡ row → l.next ≡ c → c ≤ 255 → has_cell notes t (pos row) c ≡ true → AreLines notes (record l { next = c + 1 })
  more_cells t row c e f g small there = record {
    full = h.full;
    few = h.few;
    next = λ few.
        let within : l.next ≤ 256 = omega (arith, g, small) in
        let cell : has_cell notes l.full.table (pos l.full.until) l.next ≡ true =
        ap (λ x. has_cell notes x (pos l.full.until) l.next) e ∙ ap (λ (x : ℕ). has_cell notes t (pos x) l.next) f ∙ ap (has_cell notes t (pos row)) g ∙ there in
        subst (λ (x : ℕ). HasCells notes l.full.table (pos l.full.until) l.full.first (x + 1)) g (one_cell notes l.full.table (pos l.full.until) l.full.first l.next (h.next within) cell);
  }

  first_of : (t row c : ℕ) → l.full.table ≡ t → l.full.first ≡ c → has_cell notes t (pos row) c ≡ true → HasCells notes l.full.table (pos row) l.full.first (c + 1)
  first_of t row c e g there =
      subst (λ (x : ℕ). HasCells notes x (pos row) l.full.first (c + 1)) (sym e) (subst (λ (x : ℕ). HasCells notes t (pos row) x (c + 1)) (sym g) (first_cell notes t (pos row) c there))

  -- the first cell of the next row
  pub more_rows : (t row c : ℕ) → l.next ≡ l.full.end → row ≡ l.full.until + 1 → l.full.first ≡ c → l.full.table ≡ t → has_cell notes t (pos row) c ≡ true
      → AreLines notes (record { full = record l.full { until = row }; next = c + 1 })
  more_rows t row c whole behind g e there =
      let few = h.few in
      let line : HasCells notes l.full.table (pos l.full.until) l.full.first l.full.end =
      subst (λ (x : ℕ). HasCells notes l.full.table (pos l.full.until) l.full.first x) whole (h.next (omega (arith, whole, few))) in
      record {
        full =
            subst (λ (x : ℕ). Rows notes l.full.low x l.full.table l.full.first l.full.end) (sym behind)
            (one_row notes l.full.low l.full.until l.full.table l.full.first l.full.end h.full line);
        few = few;
        next = λ _. first_of t row c e g there;
      }

  -- the first cell of the second row
  pub second_row : (t row c : ℕ) → l.full.until ≤ l.full.low → l.next ≤ 256 → row ≡ l.full.until + 1 → l.full.first ≡ c → l.full.table ≡ t → has_cell notes t (pos row) c ≡ true
      → AreLines notes (record { full = record l.full { end = l.next; until = row }; next = c + 1 })
  second_row t row c one few behind g e there = record {
    full =
        subst (λ (x : ℕ). Rows notes l.full.low x l.full.table l.full.first l.next) (sym behind)
        (one_row notes l.full.low l.full.until l.full.table l.full.first l.next (no_rows notes l.full.low l.full.until l.full.table l.full.first l.next one) (h.next few));
    few = few;
    next = λ _. first_of t row c e g there;
  }

  pub one_whole : l.full.until ≤ l.full.low → l.next ≤ 256 → IsFull notes (record l.full { until = l.full.until + 1; end = l.next })
  one_whole one few = one_row notes l.full.low l.full.until l.full.table l.full.first l.next (no_rows notes l.full.low l.full.until l.full.table l.full.first l.next one) (h.next few)

  pub last_whole : l.next ≤ 256 → l.next ≡ l.full.end → IsFull notes (record l.full { until = l.full.until + 1 })
  last_whole few whole =
      one_row notes l.full.low l.full.until l.full.table l.full.first l.full.end h.full
      (subst (λ (x : ℕ). HasCells notes l.full.table (pos l.full.until) l.full.first x) whole (h.next few))

-- ---- a row that is in a span

pub held_row : (xs : List Span) (a : Span) (t : ℕ) (row : ℤ) → a.table ≡ t → a.low ≤ℤ row → row ≤ℤ a.high → put_span (put_span xs a) (made t false row row) ≡ put_span xs a
held_row xs a t row e lo hi =
    let least : int_min a.low row ≡ a.low = omega (arith, ints, clamps, lo) in
    let most : int_max a.high row ≡ a.high = omega (arith, ints, clamps, hi) in
    sym (put_row xs a row (made t false row row) (ap (λ x. made x false row row) (sym e)))
    ∙ ap (λ x. put_span xs (made a.table a.whole x (int_max a.high row))) least
    ∙ ap (λ x. put_span xs (made a.table a.whole a.low x)) most

-- ---- of more notes

pub more_notes : (xs ys : List Note) (f : Full) → ((t : ℕ) (row : ℤ) (c : ℕ) → has_cell xs t row c ≡ true → has_cell ys t row c ≡ true) → IsFull xs f → IsFull ys f
more_notes xs ys f more h row lo hi c from to = more f.table (pos row) c (h row lo hi c from to)

pub among_all : (before part whole : List Note) (items rest : List (List Note)) (f : Full) → items ≡ part ∷ rest → before ++ all_of items ≡ whole → IsFull part f → IsFull whole f
among_all before part whole items rest f e g =
    more_notes part whole f
    (λ t row c there.
    subst (λ ns. has_cell ns t row c ≡ true) (ap (λ xs. before ++ all_of xs) (sym e) ∙ g)
    (cell_behind before (part ++ all_of rest) t row c (cell_before part (all_of rest) t row c there)))

pub below_full : (n : Node) (b : Box Below Global) → (out-Node n).below ≡ Some b → IsFullNode n → IsFull (node_notes n) (out-Below b.value).full
below_full n b e h =
    let there : IsFull (below_told b.value).0 (out-Below b.value).full = subst IsFullBelow e h in
    more_notes (below_told b.value).0 (node_notes n) (out-Below b.value).full
    (λ t row c cell.
    subst (λ ns. has_cell ns t row c ≡ true) (sym (notes_out n ∙ ap (λ o. map note_of (items_in (out-Node n).own) ++ held_notes o) e))
    (cell_behind (map note_of (items_in (out-Node n).own)) (below_told b.value).0 t row c cell))
    there

pub below_is_full : (b : Below) (x : Below-F Below Node) (notes : List Note) → b ≡ roll-Below x → flat_map shared_notes (items_in x.parts) ≡ notes → IsFull notes x.full → IsFull (below_told b).0 (out-Below b).full
below_is_full b x notes e f h =
    subst (λ (y : Below). IsFull (below_told y).0 (out-Below y).full) (sym e)
    (subst (λ (ns : List Note). IsFull ns (out-Below (roll-Below x)).full) (sym (below_roll x ∙ f)) (subst (λ (y : Below-F Below Node). IsFull notes y.full) (sym (out-roll-Below x)) h))

-- ---- a row that is one of them

on_row : (notes : List Note) (f : Full) (z : ℤ) → pos f.low ≤ℤ z → z <ℤ pos f.until → IsFull notes f → HasCells notes f.table z f.first f.end
on_row notes f (pos n) lo hi h = h n (omega (arith, ints, lo)) (omega (arith, ints, hi))
on_row notes f (negsuc n) lo hi h = absurd (omega (arith, ints, lo))

pub full_there : (notes : List Note) (f : Full) (change : ℕ × ℤ) (first end : ℕ) → f.table ≡ change.0 → pos f.low ≤ℤ change.1 → change.1 <ℤ pos f.until → f.first ≤ first → end ≤ f.end → IsFull notes f
    → HasCells notes change.0 change.1 first end
full_there notes f change first end e lo hi from to h =
    subst (λ (t : ℕ). HasCells notes t change.1 first end) e (narrower notes f.table change.1 f.first f.end first end (on_row notes f change.1 lo hi h) from to)

-- ---- one reading more

pub one_read : (own : List Reading) (i : ℕ) (x : Reading) → i < length own → is_read (map note_of own) (note_of (get_or own i x)) ≡ true
one_read [] i x l = absurd (omega (arith, l))
one_read (r ∷ rs) zero x l = ap (λ b. b || is_read (map note_of rs) (note_of r)) (note_itself (note_of r))
one_read (r ∷ rs) (suc i) x l = on_right (same_note (note_of (get_or rs i x)) (note_of r)) (is_read (map note_of rs) (note_of (get_or rs i x))) (one_read rs i x (omega (arith, l)))

pub put_more : (own : List Reading) (i : ℕ) (x : Reading) (xs new whole : List Span) → i < length own → new ≡ put_span xs (span_of (get_or own i x))
    → put_spans xs (map span_of (drop i own)) ≡ whole → put_spans new (map span_of (drop (i + 1) own)) ≡ whole
put_more own i x xs new whole l e h =
    ap (λ s. put_spans s (map span_of (drop (i + 1) own))) e ∙ sym (ap (λ rs. put_spans xs (map span_of rs)) (drop_more own i x l)) ∙ h
