-- What a text is, and which token is the first that can't follow.
use Rattle.std.specs.Prelude.{◌≡◌, ℕ, ◌<◌, ◌≤◌, List, [], ◌∷◌, ◌++◌, ◌⊎◌, length, Result, Ok, Err}
use Rattle.meaning.specs.declared.tree.Program.{Program}
use Rattle.meaning.specs.Tree.{Tree}
use Rattle.meaning.specs.TreeView.{tree, lines, Lined}
use Rattle.token_readers.specs.declared.fault.TextError.{TextError}
use Rattle.token_readers.specs.declared.fault.TextError.TheVariants.{NoMemory, Text}
use Rattle.token_scanner.specs.Words.{Words}
use Rattle.std.specs.Global.{Vec}
use Rattle.source_tree.specs.declared.source.Declaration.{Declaration}
use Rattle.source_tree.specs.Source.{Source, source}
use Rattle.procedure_parser.specs.Grammar.{Declarations}
use Rattle.token_scanner.specs.Scanning.{tokens_of, longest_text}
use Rattle.source_tree.specs.Lowering.{lowered_tree, lowered, lines_of}
use Rattle.token_readers.specs.Lines.{line_at}
use Rattle.token_readers.specs.Rooms.{Room, room_of}
use Rattle.procedure_parser.specs.Defining.{Defining}

-- the tokens are the source tree's, within the limits: 16 reducers and 256 procedures
abbrev pub InGrammar : Source → Words → Type 0
InGrammar s ts = Declarations 16 256 s ts []

-- some text of a grammar begins so
abbrev pub BeginsIn : (Source → Words → Type 0) → Words → Type 0
BeginsIn G ts = (more : Words) × (s : Source) × G s (ts ++ more)

-- no text of a grammar begins so and goes on with the first of these; where there is none, so is no text
abbrev pub NoneFollowsIn : (Source → Words → Type 0) → Words → Words → Type 0
NoneFollowsIn G front [] = (s : Source) → G s front → ⊥
NoneFollowsIn G front (t ∷ ts) = BeginsIn G (front ++ t ∷ []) → ⊥

-- the fault is at the first of us
pub record FirstFaultIn (G : Source → Words → Type 0) (ts us : Words) : Type 0 where
  pub front : Words
  pub parts : ts ≡ front ++ us
  pub begins : BeginsIn G front
  pub none : NoneFollowsIn G front us

abbrev pub FirstFault : Words → Words → Type 0
FirstFault = FirstFaultIn InGrammar

-- the source tree of a text within the limit
abbrev pub IsSource : Source → List ℕ → Type 0
IsSource s text = (length text ≤ longest_text) × InGrammar s (tokens_of text)

-- a text's tree, and the lines of its declarations and statements
abbrev pub IsText : List ℕ → Tree → List Lined → Type 0
IsText text t l = (s : Source) × IsSource s text × (lowered_tree t ≡ lowered s) × (l ≡ lines_of s)

-- the source tree that is the answer to a text with such a one, unless memory runs out
abbrev pub AnswersSource : Result (Vec Declaration) TextError → Source → Type 0
AnswersSource (Ok ds) s = source ds.items ≡ s
AnswersSource (Err NoMemory) s = Unit {0}
AnswersSource (Err (Text l)) s = ⊥

-- the answer to a text with such a source tree, unless memory runs out
abbrev pub Answers : Result Program TextError → Source → Type 0
Answers (Ok p) s = (lowered_tree (tree p) ≡ lowered s) × (lines p ≡ lines_of s)
Answers (Err NoMemory) s = Unit {0}
Answers (Err (Text l)) s = ⊥

-- 0 for a text that is too long; else the line of the first token that can't follow what stands before it
abbrev pub IsFaultLineIn : (Source → Words → Type 0) → List ℕ → ℕ → Type 0
IsFaultLineIn G text l = ((longest_text < length text) × (l ≡ 0))
    ⊎ ((us : Words) × (length text ≤ longest_text) × FirstFaultIn G (tokens_of text) us × (l ≡ line_at text us) × (0 < l))

abbrev pub IsFaultIn : (Source → Words → Type 0) → List ℕ → TextError → Type 0
IsFaultIn G text NoMemory = Unit {0}
IsFaultIn G text (Text l) = IsFaultLineIn G text l

abbrev pub IsFault : List ℕ → TextError → Type 0
IsFault = IsFaultIn InGrammar

-- ---- texts that define procedures of a program

-- the tokens are the source tree's, where there is such room
abbrev pub InDefinition : Room → Source → Words → Type 0
InDefinition room s ts = Defining room s ts []

-- the source tree of a text within the limit, for a program with this tree
abbrev pub IsDefinition : Tree → Source → List ℕ → Type 0
IsDefinition t s text = (length text ≤ longest_text) × InDefinition (room_of t) s (tokens_of text)

abbrev pub IsDefinitionFault : Tree → List ℕ → TextError → Type 0
IsDefinitionFault t = IsFaultIn (InDefinition (room_of t))
