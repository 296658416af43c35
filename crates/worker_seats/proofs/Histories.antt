-- The history of a run that has ended.
use Rattle.std.proofs.Common.{◌≡◌, List, sym, subst}
use Rattle.meaning.specs.Strands.{BookStep as NamedStep}
use Rattle.numbered_runs.specs.declared.step.BookStep.{BookStep}
use Rattle.numbered_runs.specs.Named.{history}
use Rattle.strand_list.specs.Replays.{LeavesRootAlone}
use Rattle.positions.specs.declared.answer.RunAnswer.{RunAnswer}
use Rattle.positions.specs.declared.answer.RunAnswer.TheVariants as answer
use Rattle.worker_seats.specs.Histories.{HasHistory}

-- a legal history that leaves the first strand alone is that of a run that has ended, whatever its answer
pub has_history : (given : RunAnswer) (steps : List BookStep) (noted : List NamedStep) → history steps ≡ noted → LeavesRootAlone noted → HasHistory given (history steps)
has_history (answer.Finished v values n m k) steps noted is h = subst LeavesRootAlone (sym is) h
has_history (answer.Fault f) steps noted is h = subst LeavesRootAlone (sym is) h
has_history answer.Unfinished steps noted is h = tt
has_history answer.NoMemory steps noted is h = tt
has_history answer.NoKit steps noted is h = tt
