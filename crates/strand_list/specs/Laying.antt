-- How a strand is laid down.
use Rattle.std.specs.Prelude.{Bool, not, ◌&&◌, List}
use Rattle.meaning.specs.Outcome.{Place}
use Rattle.meaning.specs.Strands.{Line, State, Ended, Stalled, Faulted, Finished, BookStep, End, Stall, Fault, Finish, is_root, is_alone, is_held_at}
use Rattle.strand_list.specs.declared.laid_state.LaidState.{LaidState}
use Rattle.strand_list.specs.declared.laid_state.LaidState.TheVariants as laid_state

abbrev pub state_as : LaidState → State
state_as laid_state.Ended = Ended
state_as laid_state.Stalled = Stalled
state_as laid_state.Faulted = Faulted
state_as laid_state.Finished = Finished

-- the step of the book
abbrev pub laying_step : LaidState → Place → BookStep
laying_step laid_state.Ended p = End p
laying_step laid_state.Stalled p = Stall p
laying_step laid_state.Faulted p = Fault p
laying_step laid_state.Finished p = Finish p

-- whether the strand of a place may be laid down so
abbrev pub may_lay : LaidState → Place → List Line → Bool
may_lay laid_state.Ended p ls = is_held_at ls p
may_lay laid_state.Faulted p ls = is_held_at ls p
may_lay laid_state.Stalled p ls = is_held_at ls p && not (is_root p)
may_lay laid_state.Finished p ls = is_held_at ls p && is_root p && is_alone ls
