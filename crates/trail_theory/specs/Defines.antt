-- A program whose procedures are defined anew: those that are as they were keep their numbers, the others get new ones.
use Rattle.std.specs.Prelude.{◌≡◌, true}
use Rattle.meaning.specs.Tree.{Name, Tree}
use Rattle.meaning.specs.Tables.{is_there}
use Rattle.meaning.specs.Statements.{reducers, procedure_of, proc_of}
use Rattle.meaning.specs.Records.{Revised}
use Rattle.meaning.specs.Edits.{revised}
use Rattle.trail_theory.specs.ReadsAtEnd.{EntersOnly}
use Rattle.trail_theory.specs.MadeRecords.{IsLater}
use Rattle.trail_theory.specs.OpenLayers.{IsNumbered}

-- the program with that tree in place of its own
abbrev pub redefined : Revised → Tree → Revised
redefined old tree = record { tree = tree; revisions = (revised old tree old.counter).0; counter = (revised old tree old.counter).1 }

-- each procedure that is called, spawned or looped over is there
abbrev pub IsComplete : Tree → Type 0
IsComplete tree = (f : Name) → EntersOnly (λ g. is_there (procedure_of tree g) ≡ true) (proc_of tree f).body

-- the reducers stay
pub record DefinesKeep (old : Revised) (tree : Tree) : Type 0 where
  pub later : reducers old.tree ≡ reducers tree → IsLater old (redefined old tree)
  pub numbered : IsComplete tree → IsNumbered (redefined old tree)
