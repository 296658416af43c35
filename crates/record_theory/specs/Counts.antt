-- How many different ones of a list pass, and of what was read those that the tables don't hold.
use Rattle.std.specs.Prelude.{ℕ, suc, Bool, not, ◌&&◌, cond, List, [], ◌∷◌}
use Rattle.std.specs.List.{list_any}
use Rattle.meaning.specs.Tables.{Tables}
use Rattle.evaluation.specs.declared.note.Note.{Note}
use Rattle.record_theory.specs.Same.{same_note}
use Rattle.record_theory.specs.Validity.{note_agrees}

-- ---- each counted once

module _ {A : Type 0} (same : A → A → Bool) where
  -- it is one of these
  abbrev pub is_among : List A → A → Bool
  is_among xs x = list_any (same x) xs

  -- how many different ones of these pass: each counts where it stands last
  abbrev pub count_once : (A → Bool) → List A → ℕ
  count_once p [] = 0
  count_once p (x ∷ xs) = cond (p x && not (is_among xs x)) (suc (count_once p xs)) (count_once p xs)

  -- how many of the first are among the others
  abbrev pub how_many : List A → List A → ℕ
  how_many [] xs = 0
  how_many (y ∷ ys) xs = cond (is_among xs y) (suc (how_many ys xs)) (how_many ys xs)

-- the tables don't hold what was read
abbrev pub has_lapsed : Tables → Note → Bool
has_lapsed tables note = not (note_agrees tables note)

-- how many different readings the tables don't hold
abbrev pub lapsed_count : Tables → List Note → ℕ
lapsed_count tables notes = count_once same_note (has_lapsed tables) notes
