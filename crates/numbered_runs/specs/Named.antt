-- How the definitions name steps, states and what a history notes.
use Rattle.std.specs.Prelude.{List, map}
use Rattle.meaning.specs.Strands as strands
use Rattle.meaning.specs.Schedules as schedules
use Rattle.numbered_runs.specs.declared.step.Step.{Step}
use Rattle.numbered_runs.specs.declared.step.Step.TheVariants as step
use Rattle.numbered_runs.specs.declared.step.State.{State}
use Rattle.numbered_runs.specs.declared.step.State.TheVariants as state
use Rattle.numbered_runs.specs.declared.step.BookStep.{BookStep}
use Rattle.numbered_runs.specs.declared.step.BookStep.TheVariants as book
use Rattle.numbered_runs.specs.declared.step.StrandLine.{StrandLine}

abbrev pub run_step : Step → schedules.RunStep
run_step (step.Work w) = schedules.work w
run_step (step.Push w) = schedules.push w
run_step (step.Inline w) = schedules.inline w
run_step (step.Pop w) = schedules.pop w
run_step (step.Stall w) = schedules.stall w
run_step (step.Steal t v) = schedules.steal t v
run_step (step.Fold w q) = schedules.fold w q.items

abbrev pub named_state : State → strands.State
named_state (state.Held w) = strands.Held w
named_state state.Ended = strands.Ended
named_state state.Stalled = strands.Stalled
named_state state.Faulted = strands.Faulted
named_state state.Finished = strands.Finished

abbrev pub book_step : BookStep → strands.BookStep
book_step (book.Split v n w) = strands.Split v.items n.items w
book_step (book.End p) = strands.End p.items
book_step (book.Stall p) = strands.Stall p.items
book_step (book.Fault p) = strands.Fault p.items
book_step (book.Finish p) = strands.Finish p.items
book_step (book.Fold l r w) = strands.Fold l.items r.items w

abbrev pub history : List BookStep → List strands.BookStep
history steps = map book_step steps

abbrev pub line : StrandLine → strands.Line
line l = (l.place.items, named_state l.state)
