-- What edits and their refusals are for the definitions.
use Rattle.std.specs.Prelude.{ℕ, List, string_bytes}
use Rattle.meaning.specs.Edits as e
use Rattle.linked_program.specs.Violations.{number_of}
use Rattle.linked_program.specs.declared.violation.Rule.{Rule}
use Rattle.input_tables.specs.Edited.{row_refusal}
use Rattle.session_edits.specs.declared.edit.Edit.{Edit}
use Rattle.session_edits.specs.declared.edit.Edit.TheVariants.{Put, Delete, Define}
use Rattle.session_edits.specs.declared.refusal.EditError.{EditError}
use Rattle.session_edits.specs.declared.refusal.EditError.TheVariants.{Row, BadText, Broken, Exhausted}

abbrev pub said : Edit → e.Edit
said (Put table row values) = e.Put table.now row values.items
said (Delete table row) = e.Delete table.now row
said (Define text) = e.Define text.now

-- a rule of the code broken by the declaration of that name, on that line
abbrev pub violation : Rule → List ℕ → ℕ → e.Violation
violation rule holder line = record { rule = number_of rule; holder = holder; line = line }

abbrev pub refusal : EditError → e.EditRefusal
refusal (Row error) = row_refusal error
refusal (BadText line) = e.BadText line
refusal (Broken rule holder line) = e.Broken (violation rule (string_bytes holder) line)
refusal Exhausted = e.Exhausted
