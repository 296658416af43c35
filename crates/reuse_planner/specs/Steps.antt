-- The steps that are done of those that a run is given.
use Rattle.std.specs.Prelude.{ℕ, zero, suc, Bool, true, false, List, [], ◌∷◌}
use Rattle.std.specs.List.{filter}
use Rattle.meaning.specs.Schedules.{RunStep, push, inline}
use Rattle.stepped_runs.specs.Runs.{are_workers}

-- a push for which memory was refused is done as an inline of its worker
abbrev pub done_as : Bool → RunStep → RunStep
done_as true (push w) = inline w
done_as _ step = step

-- the steps, of which those marked were refused memory
abbrev pub done_of : List Bool → List RunStep → List RunStep
done_of [] steps = steps
done_of (b ∷ bs) [] = []
done_of (b ∷ bs) (step ∷ steps) = done_as b step ∷ done_of bs steps

-- only a push is marked
abbrev pub IsMark : Bool → RunStep → Type 0
IsMark true (push w) = Unit {0}
IsMark true _ = ⊥
IsMark false step = Unit {0}

-- each mark stands at a step, and those of memory that was refused at pushes
abbrev pub AreMarks : List Bool → List RunStep → Type 0
AreMarks [] steps = Unit {0}
AreMarks (b ∷ bs) [] = ⊥
AreMarks (b ∷ bs) (step ∷ steps) = IsMark b step × AreMarks bs steps

abbrev pub marked : List Bool → ℕ
marked [] = zero
marked (true ∷ bs) = suc (marked bs)
marked (false ∷ bs) = marked bs

-- those by workers that there are
abbrev pub by_workers : ℕ → List RunStep → List RunStep
by_workers workers steps = filter (are_workers workers) steps
