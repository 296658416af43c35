-- What the check of the whole language answers.
use Rattle.std.specs.Prelude.{◌≡◌, List, Option, Some, string_bytes}
use Rattle.meaning.specs.Tree.{Tree}
use Rattle.meaning.specs.TreeView.{Lined}
use Rattle.linked_program.specs.TableNames.{Columned}
use Rattle.linked_program.specs.declared.violation.Violation.{Violation}
use Rattle.linked_program.specs.Declarations.{reported, violations}
use Rattle.linked_program.specs.Violations.{first_of}
use Rattle.spawn_checker.specs.declared.violation.CheckError.{CheckError}
use Rattle.spawn_checker.specs.declared.violation.CheckError.TheVariants.{NoMemory, Check, Exhausted}

-- a program is refused by this violation, or for want of memory
abbrev pub IsRefusedBy : Tree → Option Violation → CheckError → Type 0
IsRefusedBy program found NoMemory = Unit {0}
IsRefusedBy program found (Check rule name line) = reported program found ≡ Some (rule, string_bytes name, line)
IsRefusedBy program found Exhausted = ⊥

-- by its first violation
abbrev pub IsRefused : List Columned → Tree → List Lined → CheckError → Type 0
IsRefused tables program lines error = IsRefusedBy program (first_of (violations tables program lines)) error
