-- What the edit of a row makes of records with their numbers.
use Rattle.std.proofs.Common.{◌≡◌, ◌⊎◌, inl, inr, ℕ, ◌<◌, ℤ, Bool, true, false, not, List, [], ◌∷◌, ◌++◌, length, map, refl, sym, ap, ◌∙◌, subst, arith}
use Rattle.std.specs.Prelude.{◌||◌}
use Rattle.std.proofs.lemmas.Bool.{and_from}
use Rattle.meaning.specs.Tree.{Name}
use Rattle.meaning.specs.Every.{every}
use Rattle.meaning.specs.Tables.{Tables}
use Rattle.input_tables.specs.Befores.{PlainBefore}
use Rattle.input_tables.specs.Edited.{IsBefore, IsNoted}
use Rattle.evaluation.specs.declared.note.Note.{Note}
use Rattle.record_theory.specs.Record.{PlainRecord, as_made}
use Rattle.record_theory.specs.Counts.{is_among, has_lapsed}
use Rattle.record_theory.specs.InStep.{is_apart, IsInStep, IsSameBut}
use Rattle.record_theory.specs.Numbers.{told_by}
use Rattle.record_theory.specs.Same.{same_note}
use Rattle.record_theory.specs.Validity.{note_agrees}
use Rattle.rerun_records.specs.Line.{AreBefore}
use Rattle.record_theory.proofs.Members.{left_is, right_is, both, every_append}
use Rattle.record_theory.proofs.NumbersThen.{note_itself}
use Rattle.record_index.specs.Befores.{held_only, now_of, sums_from, HasRoomFor}
use Rattle.record_index.specs.Indexed.{PlainIndexed, IsIndexed, HaveSameColumns, AreTold}
use Rattle.record_index.proofs.Befores.{held_is, held_distinct, held_rests, same_but_back}
use Rattle.record_index.proofs.NumbersThen.{in_step_then}
use Rattle.record_index.proofs.RowSums.{length_sums}

-- ---- what is told rests on the row

pub all_rest : (tables : Tables) (a : PlainBefore) (change : ℕ × ℤ) (lost won : List Note) → change.0 ≡ a.table → change.1 ≡ a.row → lost ≡ held_only a (now_of tables a)
    → won ≡ held_only (now_of tables a) a → every (λ n. not (is_apart (change ∷ []) n)) (lost ++ won) ≡ true
all_rest tables a change lost won t r l w =
    subst (λ k. every (λ n. not (is_apart ((k, change.1) ∷ []) n)) (lost ++ won) ≡ true) (sym t)
    (subst (λ k. every (λ n. not (is_apart ((a.table, k) ∷ []) n)) (lost ++ won) ≡ true) (sym r)
    (every_append (λ n. not (is_apart ((a.table, a.row) ∷ []) n)) lost won
    ∙ and_from (every (λ n. not (is_apart ((a.table, a.row) ∷ []) n)) lost) (every (λ n. not (is_apart ((a.table, a.row) ∷ []) n)) won)
    (subst (λ ns. every (λ n. not (is_apart ((a.table, a.row) ∷ []) n)) ns ≡ true) (sym l) (held_rests a (now_of tables a)))
    (subst (λ ns. every (λ n. not (is_apart ((a.table, a.row) ∷ []) n)) ns ≡ true) (sym w) (held_rests (now_of tables a) a))))

-- ---- before the edit the tables held what holds no more, and nothing of what holds again

on_right : (a b : Bool) → b ≡ true → a || b ≡ true
on_right true b e = refl
on_right false b e = e

all_among : (p : Note → Bool) (xs : List Note) → ((n : Note) → is_among same_note xs n ≡ true → p n ≡ true) → every p xs ≡ true
all_among p [] h = refl
all_among p (x ∷ xs) h =
    both (p x) (every p xs) (h x (ap (λ b. b || is_among same_note xs x) (note_itself x)))
    (all_among p xs (λ n m. h n (on_right (same_note n x) (is_among same_note xs n) m)))

before_edit : (before now : Tables) (a : PlainBefore) → IsBefore before a → IsBefore now (now_of now a) → IsSameBut a.table a.row before now
    → AreBefore before (held_only a (now_of now a)) (held_only (now_of now a) a)
before_edit before now a was is same =
    let wide : length a.sums ≡ length (sums_from now a.table 0 (length a.sums)) = sym (length_sums now a.table 0 (length a.sums)) in
    record {
      all_held =
          all_among (note_agrees before) (held_only a (now_of now a))
          (λ n m. left_is (note_agrees before n) (not (note_agrees now n)) (sym (held_is a (now_of now a) before now was is refl refl wide same n) ∙ m));
      none_held =
          all_among (has_lapsed before) (held_only (now_of now a) a)
          (λ n m. right_is (note_agrees now n) (not (note_agrees before n)) (sym (held_is (now_of now a) a now before is was refl refl (sym wide) (same_but_back a.table a.row before now same) n) ∙ m));
    }

-- ---- the numbers are right for the tables now

right_now : (before now : Tables) (a : PlainBefore) (rs : List PlainRecord) → IsBefore before a → IsBefore now (now_of now a) → IsSameBut a.table a.row before now → IsInStep before rs
    → IsInStep now (map (told_by (held_only a (now_of now a)) (held_only (now_of now a) a)) rs)
right_now before now a rs was is same h =
    let wide : length a.sums ≡ length (sums_from now a.table 0 (length a.sums)) = sym (length_sums now a.table 0 (length a.sums)) in
    in_step_then before now (held_only a (now_of now a)) (held_only (now_of now a) a) (held_is a (now_of now a) before now was is refl refl wide same)
    (held_is (now_of now a) a now before is was refl refl (sym wide) (same_but_back a.table a.row before now same)) (held_distinct a (now_of now a)) (held_distinct (now_of now a) a) rs h

none_counted : (rs : List PlainRecord) → map as_made rs ≡ [] → rs ≡ []
none_counted [] e = refl
none_counted (r ∷ rs) e = absurd cc

-- records that differ in their numbers alone are none where the others are none
still_room : (before now : Tables) (old new : List PlainRecord) (room : ℕ) → map as_made new ≡ map as_made old → HaveSameColumns before now
    → (old ≡ []) ⊎ HasRoomFor before room → (new ≡ []) ⊎ HasRoomFor now room
still_room before now old new room e same (inl none) = inl (none_counted new (e ∙ ap (map as_made) none))
still_room before now old new room e same (inr has) = inr (λ t. subst (λ k. k < room) (sym (same t)) (has t))

pub indexed_then : (revisions : List (Name × ℕ)) (before now : Tables) (table : ℕ) (row : ℤ) (old : PlainIndexed) (records : List PlainRecord) (was : PlainBefore) (room : ℕ) (lost won : List Note)
    → IsNoted before table row was → IsSameBut table row before now → HaveSameColumns before now → IsIndexed revisions before old → IsBefore now (now_of now was)
    → lost ≡ held_only was (now_of now was) → won ≡ held_only (now_of now was) was
    → ((b : Tables) → IsInStep b old.records → AreBefore b lost won → records ≡ map (told_by lost won) old.records) → map as_made records ≡ map as_made old.records → room ≡ old.room
    → IsIndexed revisions now (record { records = records; told = old.told; room = room })
indexed_then revisions before now table row old records was room lost won noted same columns indexed is lost_is won_is told_is same_records same_room =
    let here : IsSameBut was.table was.row before now =
    subst (λ t. IsSameBut t was.row before now) (sym noted.table_is) (subst (λ r. IsSameBut table r before now) (sym noted.row_is) same) in
    let right : IsInStep now (map (told_by (held_only was (now_of now was)) (held_only (now_of now was) was)) old.records) =
    right_now before now was old.records noted.before is here indexed.in_step in
    let there : AreBefore before lost won =
    subst (λ (xs : List Note). AreBefore before xs won) (sym lost_is)
    (subst (AreBefore before (held_only was (now_of now was))) (sym won_is) (before_edit before now was noted.before is here)) in
    record {
      in_step =
          subst (IsInStep now) (sym (told_is before indexed.in_step there))
          (subst (λ (xs : List Note). IsInStep now (map (told_by xs won) old.records)) (sym lost_is)
          (subst (λ (xs : List Note). IsInStep now (map (told_by (held_only was (now_of now was)) xs) old.records)) (sym won_is) right));
      told = subst (AreTold revisions old.told) (sym same_records) indexed.told;
      room = subst (λ (n : ℕ). (records ≡ []) ⊎ HasRoomFor now n) (sym same_room) (still_room before now old.records records old.room same_records columns indexed.room);
    }

-- where there are no records, they stay in step
pub none_indexed : (revisions : List (Name × ℕ)) (before now : Tables) (old : PlainIndexed) → length old.records ≡ 0 → IsIndexed revisions before old → IsIndexed revisions now old
none_indexed revisions before now old none indexed =
    let empty : old.records ≡ [] = no_records old.records none in
    record { in_step = subst (IsInStep now) (sym empty) refl; told = indexed.told; room = inl empty }
  where
    no_records : (rs : List PlainRecord) → length rs ≡ 0 → rs ≡ []
    no_records [] e = refl
    no_records (r ∷ rs) e = absurd (omega (arith, e))

-- where there are records, the row is noted
pub surely_noted : (before : Tables) (table : ℕ) (row : ℤ) (was : PlainBefore) (records : List PlainRecord) → (length records ≡ 0 → ⊥) → (records ≡ []) ⊎ IsNoted before table row was → IsNoted before table row was
surely_noted before table row was records some (inl none) = absurd (some (ap length none))
surely_noted before table row was records some (inr noted) = noted
