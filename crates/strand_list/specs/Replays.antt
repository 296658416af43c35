-- What a history leaves, or the first of its steps that isn't allowed.
use Rattle.std.specs.Prelude.{◌≡◌, ℕ, List, [], ◌∷◌, take, drop, Option, Some, None}
use Rattle.meaning.specs.Strands.{State, Line, BookStep, Book, stepped, replayed}
use Rattle.strand_list.specs.declared.error.ReplayError.{ReplayError}
use Rattle.strand_list.specs.declared.error.ReplayError.TheVariants as error

abbrev pub lines_of : Option Book → Option (List Line)
lines_of None = None
lines_of (Some b) = Some b.lines

-- the step of that number isn't allowed in the list that the ones before leave
pub record RefusedAt (steps : List BookStep) (n : ℕ) : Type 0 where
  pub book : Book
  pub step : BookStep
  pub later : List BookStep
  pub before : replayed (take n steps) ≡ Some book
  pub there : drop n steps ≡ step ∷ later
  pub refused : stepped book step ≡ None

abbrev pub Refuses : List BookStep → ReplayError → Type 0
Refuses steps (error.BadStep n) = RefusedAt steps n
Refuses steps error.NoMemory = Unit {0}

-- the history is legal, and leaves the first strand alone
pub record LeavesRootAlone (steps : List BookStep) : Type 0 where
  pub book : Book
  pub state : State
  pub legal : replayed steps ≡ Some book
  pub alone : book.lines ≡ ([], state) ∷ []
