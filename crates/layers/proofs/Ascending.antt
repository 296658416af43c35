-- Readings of which each comes behind the one before it.
use Rattle.std.proofs.Common.{◌≡◌, ℕ, ◌+◌, ◌<◌, ◌≤◌, Bool, true, false, cond, ◌||◌, List, [], ◌∷◌, ◌++◌, length, take, drop, map, refl, sym, ap, ◌∙◌, subst, arith, get_or}
use Rattle.std.specs.Prelude.{All}
use Rattle.std.specs.List.{list_any}
use Rattle.std.proofs.lemmas.List.{map_more}
use Rattle.std.proofs.lemmas.List.Elements.{All-head, All-tail, All-push}
use Rattle.evaluation.specs.declared.note.Note.{Note}
use Rattle.evaluation.specs.declared.reading.Reading.{Reading}
use Rattle.evaluation.specs.Short.{note_of}
use Rattle.record_theory.specs.Same.{same_note}
use Rattle.record_theory.proofs.Same.{note_is}
use Rattle.positions.specs.Values.{once, once_behind}
use Rattle.layers.proofs.Marks.{still_once}

module _ (rank : Note → ℕ) where
  other_by : (b : Bool) (m n : Note) → (b ≡ true → n ≡ m) → rank m < rank n → b ≡ false
  other_by false m n same less = refl
  other_by true m n same less = (let e : rank n ≡ rank m = ap rank (same refl) in absurd (omega (arith, e, less)))

  -- a reading behind all of these is none of them
  none_there : (seen : List Note) (n : Note) (last : ℕ) → All (λ m. rank m ≤ last) seen → last < rank n → list_any (same_note n) seen ≡ false
  none_there [] n last h less = refl
  none_there (m ∷ seen) n last h less =
      let least : rank m ≤ last = All-head (λ k. rank k ≤ last) m seen h in
      let behind : rank m < rank n = omega (arith, least, less) in
      ap (λ b. b || list_any (same_note n) seen) (other_by (same_note n m) m n (note_is n m) behind)
      ∙ none_there seen n last (All-tail (λ k. rank k ≤ last) m seen h) less

  -- such a reading is put in
  pub rising_next : (rs : List Reading) (i last : ℕ) (r : Reading) → i < length rs → All (λ m. rank m ≤ last) (map note_of (take i rs)) → last < rank (note_of (get_or rs i r))
      → once_behind (map note_of (take i rs)) (map note_of (drop i rs)) ≡ once (map note_of rs)
      → once_behind (map note_of (take (i + 1) rs)) (map note_of (drop (i + 1) rs)) ≡ once (map note_of rs)
  rising_next rs i last r l h less so_far =
      let seen = map note_of (take i rs) in
      let n = note_of (get_or rs i r) in
      still_once seen (map note_of (take (i + 1) rs)) rs i r l
      (map_more note_of rs i r l ∙ sym (ap (λ b. cond b seen (seen ++ n ∷ [])) (none_there seen n last h less))) so_far

  -- and all so far come before the next ones
  pub all_before : (rs : List Reading) (i last next : ℕ) (r : Reading) → i < length rs → All (λ m. rank m ≤ last) (map note_of (take i rs)) → last < next
      → next ≡ rank (note_of (get_or rs i r)) → All (λ m. rank m ≤ next) (map note_of (take (i + 1) rs))
  all_before rs i last next r l h less e =
      let seen = map note_of (take i rs) in
      subst (All (λ m. rank m ≤ next)) (sym (map_more note_of rs i r l))
      (All-push (λ m. rank m ≤ next) seen (note_of (get_or rs i r)) (λ k d lt. omega (arith, h k d lt, less)) (omega (arith, e)))
