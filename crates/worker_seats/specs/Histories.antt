-- The history of a run by threads.
use Rattle.std.specs.Prelude.{List}
use Rattle.meaning.specs.Strands.{BookStep}
use Rattle.positions.specs.declared.answer.RunAnswer.{RunAnswer}
use Rattle.positions.specs.declared.answer.RunAnswer.TheVariants as answer
use Rattle.strand_list.specs.Replays.{LeavesRootAlone}

-- that of a run that has ended
abbrev pub HasHistory : RunAnswer → List BookStep → Type 0
HasHistory (answer.Finished v values n m k) steps = LeavesRootAlone steps
HasHistory (answer.Fault f) steps = LeavesRootAlone steps
HasHistory _ steps = Unit {0}
