-- The text of the answers to a script.
use Rattle.std.specs.Prelude.{ℕ, ◌+◌, ℤ, Bool, List, [], ◌∷◌, ◌++◌, flat_map, Option, Some, None, Result, Ok, Err, codes}
use Rattle.std.specs.Fmt.{decimal, signed_decimal}
use Rattle.meaning.specs.Tree.{Red}
use Rattle.monoid_laws.specs.Worth.{Worth, number, items, best, line, amounts, element}
use Rattle.meaning.specs.declared.FaultKind.{FaultKind}
use Rattle.meaning.specs.declared.FaultKind.TheVariants as k
use Rattle.meaning.specs.Outcome.{Fault, Accumulators}
use Rattle.meaning.specs.Statements.{reducers}
use Rattle.meaning.specs.Elision.{Answer, Finished, Faulted, from_scratch}
use Rattle.meaning.specs.Edits.{Standing, Violation, EditRefusal, UnknownTable, WrongColumns, RowRange, NoRow, BadText, Broken, Exhausted}
use Rattle.meaning.specs.Edits.{TextReader, Checker, tried, after_edit}
use Rattle.meaning.specs.Script.{Command, Run, Change, Unknown, commands}

-- a number after a space
abbrev pub spaced : ℤ → List ℕ
spaced z = 32 ∷ signed_decimal z

-- an amount at its key, after a space
abbrev pub spaced_amount : ℤ × ℤ → List ℕ
spaced_amount e = spaced e.0 ++ 58 ∷ signed_decimal e.1

abbrev pub best_text : Option (ℤ × ℤ) → List ℕ
best_text None = codes " none"
best_text (Some (v, r)) = spaced v ++ spaced r

-- a reducer's value, with a space before each of its parts
abbrev pub worth_text : Worth → List ℕ
worth_text (number z) = spaced z
worth_text (items xs) = flat_map spaced xs
worth_text (best o) = best_text o
worth_text (line a b) = spaced a ++ spaced b
worth_text (amounts es) = flat_map spaced_amount es
worth_text (element e) = 32 ∷ decimal e

-- the line of a reducer: its name and its value
abbrev pub worth_line : Red → Worth → List ℕ
worth_line r w = r.called ++ worth_text w ++ codes "\n"

abbrev pub worths_text : List Red → Accumulators → List ℕ
worths_text rs [] = []
worths_text [] (w ∷ ws) = []
worths_text (r ∷ rs) (w ∷ ws) = worth_line r w ++ worths_text rs ws

abbrev pub fault_name : FaultKind → List ℕ
fault_name k.DivideByZero = codes "divide by zero"
fault_name k.MissingRow = codes "missing row"
fault_name k.RangeTooLong = codes "range too long"
fault_name k.TooDeep = codes "too deep"
fault_name k.BadElement = codes "bad element"

abbrev pub fault_text : Fault → List ℕ
fault_text f =
    codes "fault " ++ fault_name f.kind ++ codes " in " ++ f.site.procedure ++ codes " at " ++ decimal f.site.statement ++ codes "\n"

abbrev pub result_text : ℤ → List ℕ
result_text v = codes "result " ++ signed_decimal v ++ codes "\n"

-- what a run came to, with the reducers in the order of the program
abbrev pub outcome_text : List Red → Answer → List ℕ
outcome_text reds (Finished v acc) = result_text v ++ worths_text reds acc
outcome_text reds (Faulted f) = fault_text f

abbrev pub run_line : ℕ → List ℕ
run_line n = codes "run " ++ decimal n ++ codes "\n"

-- a run, counted from 1, and what it came to
abbrev pub run_text : ℕ → List Red → Answer → List ℕ
run_text n reds answer = run_line n ++ outcome_text reds answer

-- a line that is no command
abbrev pub unknown_text : ℕ → List ℕ
unknown_text n = codes "refused E19 " ++ decimal n ++ codes "\n"

-- the rule, the declaration that holds the violation, the line
abbrev pub violation_text : Violation → List ℕ
violation_text v = codes "refused E9 C" ++ decimal v.rule ++ codes " " ++ v.holder ++ codes " " ++ decimal v.line ++ codes "\n"

abbrev pub refusal_text : EditRefusal → List ℕ
refusal_text UnknownTable = codes "refused E4\n"
refusal_text WrongColumns = codes "refused E5\n"
refusal_text RowRange = codes "refused E6\n"
refusal_text NoRow = codes "refused E7\n"
refusal_text (BadText n) = codes "refused E8 " ++ decimal n ++ codes "\n"
refusal_text (Broken v) = violation_text v
refusal_text Exhausted = codes "refused E18\n"

-- what an edit came to
abbrev pub edit_text : Result Standing EditRefusal → List ℕ
edit_text (Ok s) = codes "ok\n"
edit_text (Err e) = refusal_text e

-- how many runs there were after a command
abbrev pub runs_after : ℕ → Command → ℕ
runs_after runs Run = runs + 1
runs_after runs (Change e) = runs
runs_after runs (Unknown n) = runs

module _ (reads : TextReader) (checks : Checker) where
  -- the answer to a command in a standing, after so many runs
  abbrev pub answer_text : Standing → ℕ → Command → List ℕ
  answer_text s runs Run = run_text (runs + 1) (reducers s.program.tree) (from_scratch s.program.tree s.tables)
  answer_text s runs (Change e) = edit_text (tried reads checks s e)
  answer_text s runs (Unknown n) = unknown_text n

  -- the standing after a command
  abbrev pub standing_after : Standing → Command → Standing
  standing_after s Run = s
  standing_after s (Change e) = after_edit reads checks s e
  standing_after s (Unknown n) = s

  -- the answers to commands from a standing on, after so many runs
  abbrev pub answers_from : Standing → ℕ → List Command → List ℕ
  answers_from s runs [] = []
  answers_from s runs (c ∷ cs) = answer_text s runs c ++ answers_from (standing_after s c) (runs_after runs c) cs

  -- the answers to a script
  abbrev pub answers_text : Standing → List ℕ → List ℕ
  answers_text s script = answers_from s 0 (commands script)
