-- What holds and has the cells of a row has those that hold as they are, and none that doesn't hold.
use Rattle.std.proofs.Common.{◌≡◌, ◌≤◌, ◌<◌, ◌+◌, ℕ, zero, suc, ℤ, Bool, true, false, true≢false, cond, not, List, [], ◌∷◌, length, drop, get_or, refl, sym, ap, ◌∙◌, subst, arith}
use Rattle.std.proofs.lemmas.List.{drop_more, drop_all}
use Rattle.std.specs.Prelude.{◌&&◌, ◌||◌, nat_eq}
use Rattle.std.specs.Ordering.{int_eq}
use Rattle.std.proofs.lemmas.Bool.Decides.{Decides-int_eq}
use Rattle.meaning.specs.Every.{every}
use Rattle.meaning.specs.Records.{same_number}
use Rattle.meaning.specs.Tables.{Tables}
use Rattle.input_tables.specs.Edited.{cell_at}
use Rattle.evaluation.specs.declared.note.Note.{Note}
use Rattle.evaluation.specs.declared.note.Note.TheVariants.{Cell, Has, Limit, Sum}
use Rattle.instance_records.specs.Full.{is_of_cell, has_cell, HasCells}
use Rattle.record_theory.specs.Counts.{how_many, has_lapsed}
use Rattle.record_theory.specs.Same.{same_note, is_read}
use Rattle.record_theory.specs.Validity.{note_agrees}
use Rattle.record_theory.proofs.Members.{left_is, right_is, both}
use Rattle.record_theory.proofs.Same.{number_is, integer_is}
use Rattle.rerun_records.specs.Line.{TellsOfOne, IsLine}
use Rattle.rerun_records.specs.Settled.{HasNoSums}
use Rattle.rerun_records.proofs.OneTime.{held, read_passes}
use Rattle.rerun_records.proofs.Settled.{one_counted}

on_left : (a b : Bool) → a ≡ true → a || b ≡ true
on_left a b e = ap (λ x. x || b) e

on_right : (a b : Bool) → b ≡ true → a || b ≡ true
on_right true b e = refl
on_right false b e = e

module _ (tables : Tables) where
  -- two readings of one cell that hold are the same
  same_if : (t : ℕ) (row : ℤ) (c : ℕ) (v : ℤ) (n : Note) → is_of_cell t row c n ≡ true → note_agrees tables n ≡ true → note_agrees tables (Cell t row c v) ≡ true → same_note (Cell t row c v) n ≡ true
  same_if t row c v (Cell u s d w) i e f =
      let rest = right_is (nat_eq t u) (int_eq row s && nat_eq c d) i in
      let tables_are = left_is (nat_eq t u) (int_eq row s && nat_eq c d) i in
      let rows_are = left_is (int_eq row s) (nat_eq c d) rest in
      let columns_are = right_is (int_eq row s) (nat_eq c d) rest in
      let there : same_number (cell_at tables t row c) w ≡ true =
      ap (λ x. same_number (cell_at tables x row c) w) (number_is t u tables_are)
      ∙ ap (λ x. same_number (cell_at tables u x c) w) (integer_is row s rows_are)
      ∙ ap (λ x. same_number (cell_at tables u s x) w) (number_is c d columns_are)
      ∙ e in
      let values_are : int_eq v w ≡ true = subst (λ (x : ℤ). int_eq v x ≡ true) (held (cell_at tables t row c) v w f there) ((Decides-int_eq v v).1 refl) in
      both (nat_eq t u) (int_eq row s && (nat_eq c d && int_eq v w)) tables_are
      (both (int_eq row s) (nat_eq c d && int_eq v w) rows_are (both (nat_eq c d) (int_eq v w) columns_are values_are))
  same_if t row c v (Has u s there) i e f = absurd (true≢false (sym i))
  same_if t row c v (Limit u w) i e f = absurd (true≢false (sym i))
  same_if t row c v (Sum u d w) i e f = absurd (true≢false (sym i))

  agreed_cell : (reads : List Note) (t : ℕ) (row : ℤ) (c : ℕ) (v : ℤ) → every (note_agrees tables) reads ≡ true → has_cell reads t row c ≡ true → note_agrees tables (Cell t row c v) ≡ true
      → is_read reads (Cell t row c v) ≡ true
  agreed_cell [] t row c v e h f = absurd (true≢false (sym h))
  agreed_cell (n ∷ ns) t row c v e h f =
      elim (is_of_cell t row c n) as (λ b. is_of_cell t row c n ≡ b → b || has_cell ns t row c ≡ true → is_read (n ∷ ns) (Cell t row c v) ≡ true) [
        | true ↦ λ i _. on_left (same_note (Cell t row c v) n) (is_read ns (Cell t row c v)) (same_if t row c v n i (left_is (note_agrees tables n) (every (note_agrees tables) ns) e) f)
        | false ↦ λ _ r. on_right (same_note (Cell t row c v) n) (is_read ns (Cell t row c v)) (agreed_cell ns t row c v (right_is (note_agrees tables n) (every (note_agrees tables) ns) e) r f)
      ] refl h

  not_read : (reads : List Note) (n : Note) (b : Bool) → every (note_agrees tables) reads ≡ true → has_lapsed tables n ≡ true → is_read reads n ≡ b → b ≡ false
  not_read reads n false e h r = refl
  not_read reads n true e h r = absurd (true≢false (sym h ∙ ap not (read_passes (note_agrees tables) reads n e r)))

  -- none of those that don't hold was read
  pub none_won : (won reads : List Note) → every (has_lapsed tables) won ≡ true → every (note_agrees tables) reads ≡ true → how_many same_note won reads ≡ 0
  none_won [] reads h e = refl
  none_won (n ∷ ns) reads h e =
      ap (λ b. cond b (suc (how_many same_note ns reads)) (how_many same_note ns reads))
      (not_read reads n (is_read reads n) e (left_is (has_lapsed tables n) (every (has_lapsed tables) ns) h) refl)
      ∙ none_won ns reads (right_is (has_lapsed tables n) (every (has_lapsed tables) ns) h) e

module _ (change : ℕ × ℤ) (first end : ℕ) where
  pub cell_tells : (t : ℕ) (row : ℤ) (c : ℕ) (v : ℤ) → t ≡ change.0 → row ≡ change.1 → first ≤ c → c < end → TellsOfOne change first end (Cell t row c v) true
  cell_tells t row c v e f lo hi = record {
    told = λ tables reads none agree cells holds.
        agreed_cell tables reads t row c v agree (ap (λ x. has_cell reads x row c) e ∙ ap (λ x. has_cell reads change.0 x c) f ∙ cells c lo hi) holds;
  }

  pub sum_tells : (t c : ℕ) (v : ℤ) → TellsOfOne change first end (Sum t c v) false
  sum_tells t c v = record { told = λ tables reads none agree cells holds. none t c v }

  -- ---- how many

  abbrev pub CountedTo : List Note → ℕ → ℕ → Type 0
  CountedTo notes i count =
      (tables : Tables) (reads : List Note) → HasNoSums reads → every (note_agrees tables) reads ≡ true → HasCells reads change.0 change.1 first end
      → every (note_agrees tables) notes ≡ true → count + how_many same_note (drop i notes) reads ≡ how_many same_note notes reads

  one_holds : (p : Note → Bool) (notes : List Note) (i : ℕ) (x : Note) → i < length notes → every p notes ≡ true → p (get_or notes i x) ≡ true
  one_holds p [] i x l e = absurd (omega (arith, l))
  one_holds p (n ∷ ns) zero x l e = left_is (p n) (every p ns) e
  one_holds p (n ∷ ns) (suc i) x l e = one_holds p ns i x (omega (arith, l)) (right_is (p n) (every p ns) e)

  pub still_counted : (notes : List Note) (i : ℕ) (x : Note) (there : Bool) (count one : ℕ) → i < length notes → TellsOfOne change first end (get_or notes i x) there → one ≡ cond there 1 0
      → CountedTo notes i count → CountedTo notes (i + 1) (count + one)
  still_counted notes i x there count one l tells is so_far tables reads none agree cells holds =
      let rest = how_many same_note (drop (i + 1) notes) reads in
      one_counted there count one rest is
      ∙ ap (λ b. count + cond b (suc rest) rest) (sym (tells.told tables reads none agree cells (one_holds (note_agrees tables) notes i x l holds)))
      ∙ ap (λ ns. count + how_many same_note ns reads) (sym (drop_more notes i x l))
      ∙ so_far tables reads none agree cells holds

  pub all_counted : (notes : List Note) (i count : ℕ) → length notes ≤ i → CountedTo notes i count → count + length (drop i notes) ≤ length notes → IsLine change first end count notes
  all_counted notes i count l so_far few = record {
    many = λ tables reads none agree cells holds.
        let nothing : how_many same_note (drop i notes) reads ≡ 0 = ap (λ ns. how_many same_note ns reads) (drop_all i notes l) in
        let whole = so_far tables reads none agree cells holds in
        sym whole ∙ omega (arith, nothing);
    few = omega (arith, few);
  }
