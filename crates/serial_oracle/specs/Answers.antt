-- The code's answer as the definition's.
use Rattle.std.specs.Prelude.{◌≡◌, ℤ, List, [], map, Result, Ok, Err}
use Rattle.monoid_laws.specs.Kinds.{meaning}
use Rattle.meaning.specs.Outcome.{Accumulators}
use Rattle.meaning.specs.Tables.{Tables}
use Rattle.meaning.specs.Statements.{initial_values}
use Rattle.meaning.specs.Records.{Revised, Kept, needing}
use Rattle.meaning.specs.Elision as elision
use Rattle.serial_oracle.specs.declared.answer.Answer.{Answer}
use Rattle.serial_oracle.specs.declared.answer.Answer.TheVariants as a
use Rattle.serial_oracle.specs.declared.stops.NoMemory as no
use Rattle.serial_oracle.specs.declared.stops.Stop.{Stop}
use Rattle.serial_oracle.specs.declared.stops.Stop.TheVariants as stop
use Rattle.serial_oracle.specs.Results.{fault_plain}

abbrev pub finish : ℤ → Accumulators → elision.Answer
finish v ws = elision.Finished v ws

abbrev pub answer_plain : Answer → elision.Answer
answer_plain (a.Finished v values) = finish v (map meaning values.items)
answer_plain (a.Faulted f) = elision.Faulted (fault_plain f)

-- a run that was stopped: by its fault, or for want of memory
abbrev pub IsHalted : Stop → Result Answer no.NoMemory → Type 0
IsHalted (stop.Fault f) (Ok a) = answer_plain a ≡ elision.Faulted (fault_plain f)
IsHalted stop.NoMemory (Err e) = Unit {0}
IsHalted _ _ = ⊥

-- the answer of a run in which valid records answer memo instances
abbrev pub needed_answer : Revised → Tables → List Kept → elision.Answer
needed_answer program tables records = elision.answer_of (initial_values program.tree)
    (needing program tables records elision.depth_limit elision.start elision.main [] (initial_values program.tree))
