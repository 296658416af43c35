-- Where a part of a table has a fault.
use Rattle.std.specs.Prelude.{◌≡◌, Option, None}
use Rattle.input_tables.specs.declared.refusal.Fault.{Fault}
use Rattle.input_tables.specs.declared.refusal.Fault.TheVariants as fault

-- the part isn't of the shape, unless memory was refused
abbrev pub IsFaulty : {A : Type 0} → Option A → Fault → Type 0
IsFaulty o fault.NoMemory = Unit {0}
IsFaulty o fault.Shape = o ≡ None
