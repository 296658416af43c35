-- What readings of the changed cells tell of a record that has them.
use Rattle.std.proofs.Common.{◌≡◌, ◌≤◌, ◌<◌, ◌+◌, ℕ, suc, Bool, true, false, true≢false, List, ◌∷◌, length, map, drop, get_or, pos, refl, sym, ap, ◌∙◌, subst, arith, cond}
use Rattle.std.proofs.lemmas.List.{drop_more, drop_all}
use Rattle.std.specs.Prelude.{◌||◌}
use Rattle.evaluation.specs.declared.note.Note.{Note}
use Rattle.evaluation.specs.declared.reading.Reading.{Reading}
use Rattle.evaluation.specs.Short.{note_of}
use Rattle.evaluation.specs.declared.note.Note.TheVariants.{Sum}
use Rattle.record_theory.specs.Counts.{how_many}
use Rattle.record_theory.specs.OneTime.{IsOfOneTime}
use Rattle.record_theory.specs.Same.{same_note, is_read}
use Rattle.record_theory.proofs.Same.{note_is}
use Rattle.rerun_records.specs.Settled.{HasNoSums, AreReadIn, TellsOf, Settles}

-- ---- all of these were read

same_as : (own : List Note) (x note : Note) (b : Bool) (rest : Bool) → same_note note x ≡ b → is_read own x ≡ true → (rest ≡ true → is_read own note ≡ true) → (b || rest) ≡ true → is_read own note ≡ true
same_as own x note true rest s e h r = ap (is_read own) (note_is note x s) ∙ e
same_as own x note false rest s e h r = h r

read_too : (own : List Note) (x : Note) (xs : List Note) → is_read own x ≡ true → AreReadIn xs own → AreReadIn (x ∷ xs) own
read_too own x xs e h note r = same_as own x note (same_note note x) (is_read xs note) refl e (h note) r

pub still_read : (own : List Note) (cells : List Reading) (i : ℕ) (x : Reading) → i < length cells → is_read own (note_of (get_or cells i x)) ≡ true
    → (AreReadIn (map note_of (drop i cells)) own → AreReadIn (map note_of cells) own) → AreReadIn (map note_of (drop (i + 1) cells)) own → AreReadIn (map note_of cells) own
still_read own cells i x l e h rest =
    h (subst (λ (xs : List Reading). AreReadIn (map note_of xs) own) (sym (drop_more cells i x l)) (read_too own (note_of (get_or cells i x)) (map note_of (drop (i + 1) cells)) e rest))

pub all_read : (own : List Note) (cells : List Reading) (i : ℕ) → length cells ≤ i → (AreReadIn (map note_of (drop i cells)) own → AreReadIn (map note_of cells) own) → AreReadIn (map note_of cells) own
all_read own cells i l h = h (subst (λ (xs : List Reading). AreReadIn (map note_of xs) own) (sym (drop_all i cells l)) (λ note r. absurd (true≢false (sym r))))

-- ---- how many

abbrev pub CountedTo : List Note → List Note → ℕ → ℕ → Type 0
CountedTo cells notes i count =
    (reads : List Note) → HasNoSums reads → IsOfOneTime reads → AreReadIn cells reads → count + how_many same_note (drop i notes) reads ≡ how_many same_note notes reads

pub one_counted : (b : Bool) (count one rest : ℕ) → one ≡ cond b 1 0 → count + one + rest ≡ count + cond b (suc rest) rest
one_counted true count one rest e = omega (arith, e)
one_counted false count one rest e = omega (arith, e)

pub still_counted : (cells notes : List Note) (i : ℕ) (x : Note) (there : Bool) (count one : ℕ) → i < length notes → TellsOf cells (get_or notes i x) there → one ≡ cond there 1 0
    → CountedTo cells notes i count → CountedTo cells notes (i + 1) (count + one)
still_counted cells notes i x there count one l tells is so_far reads none once within =
    let rest = how_many same_note (drop (i + 1) notes) reads in
    one_counted there count one rest is
    ∙ ap (λ b. count + cond b (suc rest) rest) (sym (tells.told reads none once within))
    ∙ ap (λ ns. count + how_many same_note ns reads) (sym (drop_more notes i x l))
    ∙ so_far reads none once within

pub still_few : (notes : List Note) (i count one : ℕ) → i < length notes → one ≤ 1 → count + length (drop i notes) ≤ length notes → count + one + length (drop (i + 1) notes) ≤ length notes
still_few notes i count one l small few =
    let more : length (drop i notes) ≡ suc (length (drop (i + 1) notes)) = ap length (drop_more notes i (Sum 0 0 (pos 0)) l) in
    omega (arith, more, small, few)

pub all_counted : (cells notes : List Note) (i count : ℕ) → length notes ≤ i → CountedTo cells notes i count → count + length (drop i notes) ≤ length notes → Settles cells count notes
all_counted cells notes i count l so_far few = record {
  many = λ reads none once within.
      let nothing : how_many same_note (drop i notes) reads ≡ 0 = ap (λ ns. how_many same_note ns reads) (drop_all i notes l) in
      let whole = so_far reads none once within in
      sym whole ∙ omega (arith, nothing);
  few = omega (arith, few);
}
