-- Some step is always there, until a run has come to its end: a worker that holds a strand goes on with it, and where no strand
-- is held two neighbours may be folded.
use Rattle.std.specs.Prelude.{true, false, ◌≡◌, ◌⊎◌, ℕ, List, Some}
use Rattle.meaning.specs.Tables.{Tables}
use Rattle.meaning.specs.Outcome.{Place}
use Rattle.meaning.specs.Elision.{Answer}
use Rattle.meaning.specs.Records.{Revised}
use Rattle.meaning.specs.Strands.{is_held}
use Rattle.meaning.specs.Schedules.{Memory, RunState, RunStep, work, push, pop, stall, fold, first_state, after_step, path, end_of, is_idle}
use Rattle.trail_theory.specs.Order.{Every}

-- a step that a worker takes with the strand that it holds
abbrev pub IsOwnStep : ℕ → RunStep → Type 0
IsOwnStep w e = (e ≡ work w) ⊎ (e ≡ push w) ⊎ (e ≡ pop w) ⊎ (e ≡ stall w)

-- no worker holds a strand
abbrev pub AllLaid : RunState → Type 0
AllLaid s = Every (λ p. is_held p.state ≡ false) s.pieces

abbrev pub HasEnded : RunState → Type 0
HasEnded s = (a : Answer) × (end_of s ≡ Some a)

module _ (program : Revised) (tables : Tables) (memory : Memory) where
  abbrev pub IsTaken : RunState → RunStep → Type 0
  IsTaken s e = (t : RunState) × (after_step program tables memory s e ≡ Some t)

  -- the worker goes on with its strand
  pub record GoesOn (w : ℕ) (s : RunState) : Type 0 where
    pub step : RunStep
    pub own : IsOwnStep w step
    pub taken : IsTaken s step

  -- the worker holds nothing, and folds
  pub record Folds (w : ℕ) (s : RunState) : Type 0 where
    pub idle : is_idle w s.pieces ≡ true
    pub place : Place
    pub taken : IsTaken s (fold w place)

  -- after any steps a worker that holds a strand goes on with it
  abbrev pub HoldersGoOn : Type 0
  HoldersGoOn = (kits : ℕ) (es : List RunStep) (w : ℕ)
      → let s = path program tables memory (first_state program.tree kits) es in is_idle w s.pieces ≡ false → GoesOn w s

  -- after any steps, where no strand is held, the run has come to its end or each worker may fold
  abbrev pub LaidRunsGoOn : Type 0
  LaidRunsGoOn = (kits : ℕ) (es : List RunStep) (w : ℕ)
      → let s = path program tables memory (first_state program.tree kits) es in AllLaid s → HasEnded s ⊎ Folds w s

  -- a worker that holds a strand goes on with it
  abbrev pub SomeHolderGoesOn : RunState → Type 0
  SomeHolderGoesOn s = (v : ℕ) × (is_idle v s.pieces ≡ false) × GoesOn v s

  -- after any steps, whichever worker may fold: the run has come to its end, a holder goes on, or that worker folds
  abbrev pub SomeStepIsThere : Type 0
  SomeStepIsThere = (kits : ℕ) (es : List RunStep) (w : ℕ)
      → let s = path program tables memory (first_state program.tree kits) es in HasEnded s ⊎ SomeHolderGoesOn s ⊎ Folds w s
