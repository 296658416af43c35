-- The text of what a run came to, and of an edit that was accepted.
use Rattle.std.specs.Prelude.{◌≡◌, List, ◌++◌, map, codes, ℕ, String, string_bytes}
use Rattle.std.specs.declared.alloc.Global.{Global}
use Rattle.monoid_laws.specs.Kinds.{meaning}
use Rattle.meaning.specs.TreeView.{tree}
use Rattle.meaning.specs.declared.FaultKind.{FaultKind}
use Rattle.meaning.specs.Statements.{reducers}
use Rattle.meaning.specs.Text.{run_line, result_text, worths_text, fault_text}
use Rattle.linked_program.specs.Checked.{PlainChecked}
use Rattle.positions.specs.Stands.{fault_in}
use Rattle.positions.specs.declared.phase.Fault.{Fault}
use Rattle.positions.specs.declared.answer.RunAnswer.{RunAnswer}
use Rattle.positions.specs.declared.answer.RunAnswer.TheVariants as answer

-- the new text is the old one, and more behind it
abbrev pub Extends : String Global → String Global → List ℕ → Type 0
Extends old new more = string_bytes new ≡ string_bytes old ++ more

-- the line of a fault of that kind, at that statement of the procedure of that name
abbrev pub fault_line : FaultKind → List ℕ → ℕ → List ℕ
fault_line kind procedure statement =
    fault_text (record { kind = kind; site = record { procedure = procedure; statement = statement } })

-- the line of a fault by numbers
abbrev pub named_fault_text : PlainChecked → Fault → List ℕ
named_fault_text program fault = fault_text (fault_in (tree program.program) fault)

-- what a run came to was put behind the old text: its result and the reducers' values, or its fault; a run that came to no
-- end has no text
abbrev pub Shows : PlainChecked → RunAnswer → String Global → String Global → Type 0
Shows program (answer.Finished v values executed reused unrecorded) old new =
    Extends old new (result_text v ++ worths_text (reducers (tree program.program)) (map meaning values.items))
Shows program (answer.Fault fault) old new = Extends old new (named_fault_text program fault)
Shows program answer.Unfinished old new = ⊥
Shows program answer.NoMemory old new = ⊥
Shows program answer.NoKit old new = ⊥

-- the answer to a run of that number: its line, and what it came to
abbrev pub IsRunText : ℕ → PlainChecked → RunAnswer → List ℕ → Type 0
IsRunText n program (answer.Finished v values executed reused unrecorded) text =
    text ≡ run_line n ++ (result_text v ++ worths_text (reducers (tree program.program)) (map meaning values.items))
IsRunText n program (answer.Fault fault) text = text ≡ run_line n ++ named_fault_text program fault
IsRunText n program answer.Unfinished text = ⊥
IsRunText n program answer.NoMemory text = ⊥
IsRunText n program answer.NoKit text = ⊥

-- the answer to an edit that was accepted
abbrev pub accepted_text : List ℕ
accepted_text = codes "ok\n"
