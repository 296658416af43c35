-- How a text's procedures are put into a program, and how a program is checked: the two that the definitions of edits leave open.
use Rattle.std.specs.Prelude.{◌≡◌, ◌↔◌, ℕ, nat_lt, cond, List, [], Some, None, Result, Ok, Err, length, option_map}
use Rattle.meaning.specs.Tree.{Tree}
use Rattle.meaning.specs.TreeView.{Lined}
use Rattle.meaning.specs.Tables.{Tables}
use Rattle.meaning.specs.Edits.{TextReader, Checker}
use Rattle.meaning.specs.Edits as edits
use Rattle.token_scanner.specs.Words.{Words}
use Rattle.token_scanner.specs.Scanning.{tokens_of, longest_text}
use Rattle.source_tree.specs.Source.{Source}
use Rattle.token_readers.specs.Rooms.{room_of}
use Rattle.procedure_parser.specs.Defining.{definition_at}
use Rattle.token_readers.specs.Lines.{line_at}
use Rattle.procedure_parser.specs.Correct.{InDefinition, IsFaultLineIn}
use Rattle.program_edits.specs.Putting.{put_all}
use Rattle.procedure_parser.specs.Defined.{IsDefined}
use Rattle.linked_program.specs.declared.violation.Violation.{Violation}
use Rattle.linked_program.specs.TableNames.{columned_of}
use Rattle.linked_program.specs.Violations.{number_of, first_of}
use Rattle.linked_program.specs.Declarations.{violations, name_at}
use Rattle.linked_program.specs.First.{IsFirst}

-- ---- texts

-- a fault by its line
abbrev pub located : List ℕ → Result Source Words → Result Source ℕ
located text (Ok s) = Ok s
located text (Err ts) = Err (line_at text ts)

-- the source tree of a text that defines procedures of a program, or the line of its fault: 0 for a text that is too long
abbrev pub source_of : Tree → List ℕ → Result Source ℕ
source_of t text = cond (nat_lt longest_text (length text)) (Err 0) (located text (definition_at (room_of t) (tokens_of text)))

abbrev pub put_into : Tree × List Lined → Result Source ℕ → Result (Tree × List Lined) ℕ
put_into before (Ok s) = Ok (put_all [] s before)
put_into before (Err line) = Err line

-- the program with a text's procedures put in, or the line of the text's fault
unfoldable pub reads_text : TextReader
reads_text text before = put_into before (source_of before.0 text)

-- a reader gives what the grammar says
pub record ReadsGrammar (reads : TextReader) : Type 0 where
  pub puts : (text : List ℕ) (before after : Tree × List Lined) → (reads text before ≡ Ok after) ↔ IsDefined before text after
  pub refuses : (text : List ℕ) (before : Tree × List Lined) (line : ℕ)
      → (reads text before ≡ Err line) ↔ IsFaultLineIn (InDefinition (room_of before.0)) text line

-- ---- rules

-- a violation by its rule's number, the name of the declaration that holds it, its line
abbrev pub violation_in : Tree → Violation → edits.Violation
violation_in program v = record { rule = number_of v.rule; holder = name_at program v.declaration; line = v.line }

-- the first violation of the nine rules
unfoldable pub checks_rules : Checker
checks_rules program lines tables = option_map (violation_in program) (first_of (violations (columned_of tables) program lines))

-- the violation that is found is the first of a program's
abbrev pub IsFoundIn : List Violation → Tree → edits.Violation → Type 0
IsFoundIn vs program found = (v : Violation) × IsFirst vs v × (found ≡ violation_in program v)

-- a checker finds what the rules say
pub record ChecksRules (checks : Checker) : Type 0 where
  pub clean : (program : Tree) (lines : List Lined) (tables : Tables)
      → (checks program lines tables ≡ None) ↔ (violations (columned_of tables) program lines ≡ [])
  pub first : (program : Tree) (lines : List Lined) (tables : Tables) (v : edits.Violation) → checks program lines tables ≡ Some v
      → IsFoundIn (violations (columned_of tables) program lines) program v
