-- Why a definition of procedures is refused.
use Rattle.std.specs.Prelude.{◌≡◌, Result, Err, string_bytes}
use Rattle.meaning.specs.Edits.{Standing, EditRefusal, BadText, Broken, Exhausted}
use Rattle.token_readers.specs.declared.fault.TextError.{TextError}
use Rattle.token_readers.specs.declared.fault.TextError.TheVariants as t
use Rattle.spawn_checker.specs.declared.violation.CheckError.{CheckError}
use Rattle.spawn_checker.specs.declared.violation.CheckError.TheVariants as c
use Rattle.linked_program.specs.Violations.{number_of}
use Rattle.checked_defines.specs.declared.refusal.DefineError.{DefineError}
use Rattle.checked_defines.specs.declared.refusal.DefineError.TheVariants as d

abbrev pub of_text : TextError → DefineError
of_text t.NoMemory = d.NoMemory
of_text (t.Text line) = d.Text line

abbrev pub of_check : CheckError → DefineError
of_check c.NoMemory = d.NoMemory
of_check (c.Check rule name line) = d.Check rule name line
of_check c.Exhausted = d.Exhausted

-- the refusal is that of this answer of the definitions; or memory was refused
abbrev pub IsDefineCause : Result Standing EditRefusal → DefineError → Type 0
IsDefineCause answer d.NoMemory = Unit {0}
IsDefineCause answer (d.Text line) = answer ≡ Err (BadText line)
IsDefineCause answer (d.Check rule name line) = answer ≡ Err (Broken (record { rule = number_of rule; holder = string_bytes name; line = line }))
IsDefineCause answer d.Exhausted = answer ≡ Err Exhausted
