-- Programs with the procedures of a text put in.
use Rattle.std.specs.Prelude.{◌≡◌, ℕ, List, [], Result, Ok, Err}
use Rattle.meaning.specs.declared.tree.Program.{Program}
use Rattle.meaning.specs.Tree.{Tree}
use Rattle.meaning.specs.TreeView.{tree, lines, Lined}
use Rattle.source_tree.specs.Source.{Source}
use Rattle.program_edits.specs.Putting.{put_all}
use Rattle.token_readers.specs.declared.fault.TextError.{TextError}
use Rattle.token_readers.specs.declared.fault.TextError.TheVariants.{NoMemory, Text}
use Rattle.procedure_parser.specs.Correct.{IsDefinition}

-- the program, with its lines, is the one before with a text's procedures put in
abbrev pub IsDefined : Tree × List Lined → List ℕ → Tree × List Lined → Type 0
IsDefined before text after = (s : Source) × IsDefinition before.0 s text × (after ≡ put_all [] s before)

-- the answer to a text with such a source tree, unless memory runs out
abbrev pub AnswersDefinition : Tree × List Lined → Result Program TextError → Source → Type 0
AnswersDefinition before (Ok p) s = (tree p, lines p) ≡ put_all [] s before
AnswersDefinition before (Err NoMemory) s = Unit {0}
AnswersDefinition before (Err (Text l)) s = ⊥
