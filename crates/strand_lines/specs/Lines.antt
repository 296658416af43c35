-- What is asked of a list of strands' lines.
use Rattle.std.specs.Prelude.{Bool, true, false, not, ◌&&◌, ◌||◌, List, [], ◌∷◌}
use Rattle.std.specs.Str.{bytes_eq}
use Rattle.meaning.specs.Every.{every}
use Rattle.meaning.specs.Outcome.{Place}
use Rattle.meaning.specs.Strands.{Line, State, Faulted, Finished}

abbrev pub is_unused : Place → List Place → Bool
is_unused n used = every (λ p. not (bytes_eq p n)) used

-- the right place stands directly behind the left one, at the list's beginning
abbrev pub begins_with : Place → Place → List Line → Bool
begins_with l r (x ∷ y ∷ rest) = bytes_eq x.0 l && bytes_eq y.0 r
begins_with l r _ = false

-- a strand begins at that place
abbrev pub has_strand : Place → List Line → Bool
has_strand p [] = false
has_strand p (l ∷ ls) = bytes_eq l.0 p || has_strand p ls

-- whether a strand that is laid down so is a run's last
abbrev pub is_last : State → Bool
is_last Finished = true
is_last Faulted = true
is_last _ = false
