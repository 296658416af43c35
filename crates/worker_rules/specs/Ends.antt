-- What ends a run by threads.
use Rattle.std.specs.Prelude.{Bool, true, false}
use Rattle.strand_list.specs.declared.error.BookError.{BookError}
use Rattle.strand_list.specs.declared.error.BookError.TheVariants as error
use Rattle.positions.specs.declared.answer.RunAnswer.{RunAnswer}
use Rattle.positions.specs.declared.answer.RunAnswer.TheVariants as answer

-- a refusal that isn't for want of memory
abbrev pub is_refusal : BookError → Bool
is_refusal error.NoMemory = false
is_refusal _ = true

-- the run has come to its result
abbrev pub is_finished : RunAnswer → Bool
is_finished (answer.Finished v values n m k) = true
is_finished _ = false
