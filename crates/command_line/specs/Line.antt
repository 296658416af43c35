-- What the words of the program's line ask for, as clap reads them.
use Rattle.std.specs.Prelude.{◌≡◌, ◌≢◌, ◌≤◌, ℕ, Bool, List, [], ◌∷◌, Option, Some, None, ⊤, true, false, cond, codes, option_map}
use Rattle.std.specs.Option.{option_map_or}
use Rattle.std.specs.Str.{bytes_eq}
use Rattle.asked_counts.specs.Counts.{AsksFor}
use Rattle.clap.specs.Words.{App, Rule, fault_of, first_of, matches_of, new_app, new_rule, with_rule}
use Rattle.clap.specs.declared.builder.action.ArgAction.TheVariants.{Set, SetTrue}
use Rattle.clap.specs.declared.error.kind.ErrorKind.{ErrorKind}
use Rattle.clap.specs.declared.error.kind.ErrorKind.TheVariants.{DisplayHelp, DisplayVersion, OutOfMemory}
use Rattle.command_line.specs.declared.options.Asked.{Asked}
use Rattle.command_line.specs.declared.options.Asked.TheVariants.{Session, Print}
use Rattle.command_line.specs.declared.options.Options.{Options}
use Rattle.command_line.specs.declared.options.OptionsError.{OptionsError}
use Rattle.command_line.specs.declared.options.OptionsError.TheVariants.{NoMemory, Usage, Help, Version}
use Rattle.command_line.specs.declared.options.Views.{Views}
use Rattle.command_line.specs.declared.options.Views.TheVariants.{Plain, Flat, Mixed}

-- a path that each line has, an option that a line may have, and a flag
abbrev pub path_rule : List ℕ → Rule
path_rule name = record (new_rule name) { required = true; action = Some Set }

abbrev pub option_rule : List ℕ → Rule
option_rule name = record (new_rule name) { long = Some name; action = Some Set }

abbrev pub flag_rule : List ℕ → Rule
flag_rule name = record (new_rule name) { long = Some name; action = Some SetTrue }

abbrev pub with_version : App → App
with_version app = record app { top = record app.top { has_version = true } }

-- the program's name; help and the version may be asked for
abbrev pub program_form : App
program_form = with_version (new_app (codes "cilkreport"))

-- the form of a line without its flags
abbrev pub values_form : App
values_form =
    with_rule (with_rule (with_rule (with_rule (with_rule (with_rule program_form (path_rule (codes "program"))) (path_rule (codes "tables")))
    (option_rule (codes "workers"))) (option_rule (codes "kits"))) (option_rule (codes "trace"))) (option_rule (codes "views"))

-- the form of a line: PROGRAM TABLES [--workers N] [--kits N] [--trace FILE] [--views SORT] [--stats] [--explain] [--live] [--why]
abbrev pub line_form : App
line_form = with_rule (with_rule (with_rule (with_rule values_form (flag_rule (codes "stats"))) (flag_rule (codes "explain")))
    (flag_rule (codes "live"))) (flag_rule (codes "why"))

-- the form of a line that asks for a program's normal form: --print PROGRAM; help and the version may be asked for
abbrev pub print_form : App
print_form = with_rule program_form (option_rule (codes "print"))

-- what the words give for a name of the form
unfoldable pub value_given : List ℕ → List (List ℕ) → Option (List ℕ)
value_given name words = first_of name (matches_of line_form words)

-- the words have the form
unfoldable pub HasForm : List (List ℕ) → Type 0
HasForm words = fault_of line_form words ≡ []

-- the words ask for help, or for the version: that is the first thing for which they give no options
unfoldable pub WantsHelp : List (List ℕ) → Type 0
WantsHelp words = fault_of line_form words ≡ DisplayHelp ∷ []

unfoldable pub WantsVersion : List (List ℕ) → Type 0
WantsVersion words = fault_of line_form words ≡ DisplayVersion ∷ []

-- the sort of views of that name
abbrev pub views_named : List ℕ → Option Views
views_named name =
    cond (bytes_eq name (codes "plain")) (Some Plain) (cond (bytes_eq name (codes "flat")) (Some Flat) (cond (bytes_eq name (codes "mixed")) (Some Mixed) None))

-- this sort of views is asked for: the plain ones where nothing is said, else those of that name
abbrev pub AsksForViews : Option (List ℕ) → Views → Type 0
AsksForViews None views = views ≡ Plain
AsksForViews (Some name) views = views_named name ≡ Some views

-- a flag is given: its text is `true`
abbrev pub is_set : Option (List ℕ) → Bool
is_set text = option_map_or (λ t. bytes_eq t (codes "true")) text false

-- what a line asks for
pub record Request : Type 0 where
  pub program : List ℕ
  pub tables : List ℕ
  pub workers : ℕ
  pub kits : ℕ
  pub views : Views
  pub trace : Option (List ℕ)
  pub stats : Bool
  pub explain : Bool
  pub live : Bool
  pub why : Bool

-- the words are a line that asks for this
pub record IsLine (words : List (List ℕ)) (r : Request) : Type 0 where
  pub form : HasForm words
  pub program_is : value_given (codes "program") words ≡ Some r.program
  pub tables_are : value_given (codes "tables") words ≡ Some r.tables
  pub workers_are : AsksFor 1 16 (value_given (codes "workers") words) r.workers
  pub kits_are : AsksFor 64 4096 (value_given (codes "kits") words) r.kits
  pub views_are : AsksForViews (value_given (codes "views") words) r.views
  pub trace_is : value_given (codes "trace") words ≡ r.trace
  pub stats_are : is_set (value_given (codes "stats") words) ≡ r.stats
  pub explain_is : is_set (value_given (codes "explain") words) ≡ r.explain
  pub live_is : is_set (value_given (codes "live") words) ≡ r.live
  pub why_is : is_set (value_given (codes "why") words) ≡ r.why

abbrev pub request_of : Options → Request
request_of o = record {
  program = o.program.now;
  tables = o.tables.now;
  workers = o.workers;
  kits = o.kits;
  views = o.views;
  trace = option_map (λ t. t.now) o.trace;
  stats = o.stats;
  explain = o.explain;
  live = o.live;
  why = o.why;
}

-- the words are the line of these options
abbrev pub IsLineOf : List (List ℕ) → Options → Type 0
IsLineOf words o = IsLine words (request_of o)

abbrev pub IsNoLine : List (List ℕ) → Type 0
IsNoLine words = (r : Request) → IsLine words r → ⊥

-- the words have the form of a line that asks for a normal form, and what they give for the program then
unfoldable pub HasPrintForm : List (List ℕ) → Type 0
HasPrintForm words = fault_of print_form words ≡ []

unfoldable pub print_given : List (List ℕ) → Option (List ℕ)
print_given words = first_of (codes "print") (matches_of print_form words)

-- the words are a line that asks for the normal form of the program at this path
abbrev pub IsPrintLine : List (List ℕ) → List ℕ → Type 0
IsPrintLine words path = HasPrintForm words × (print_given words ≡ Some path)

abbrev pub IsNoPrintLine : List (List ℕ) → Type 0
IsNoPrintLine words = (path : List ℕ) → IsPrintLine words path → ⊥

-- the words ask for this: a normal form only where they are no line of a session
abbrev pub IsAsked : List (List ℕ) → Asked → Type 0
IsAsked words (Session o) = IsLineOf words o
IsAsked words (Print path) = IsPrintLine words path.now × IsNoLine words

-- a session has 1 to 16 workers and 1 to 4096 kits
abbrev pub IsWithin : Asked → Type 0
IsWithin (Session o) = (1 ≤ o.workers) × (o.workers ≤ 16) × (1 ≤ o.kits) × (o.kits ≤ 4096)
IsWithin (Print path) = Unit {0}

-- the words ask for neither
abbrev pub IsNothing : List (List ℕ) → Type 0
IsNothing words = IsNoLine words × IsNoPrintLine words

-- words are refused: for want of memory, as they ask for help or the version, or as usage with that reason
abbrev pub IsRefusedFor : Type 0 → List (List ℕ) → OptionsError → Type 0
IsRefusedFor reason words NoMemory = ⊤
IsRefusedFor reason words Usage = reason × (WantsHelp words → ⊥) × (WantsVersion words → ⊥)
IsRefusedFor reason words Help = WantsHelp words
IsRefusedFor reason words Version = WantsVersion words

-- the refusal for an error of that kind
abbrev pub IsRefusalOf : ErrorKind → OptionsError → Type 0
IsRefusalOf kind NoMemory = kind ≡ OutOfMemory
IsRefusalOf kind Usage = (kind ≢ OutOfMemory) × (kind ≢ DisplayHelp) × (kind ≢ DisplayVersion)
IsRefusalOf kind Help = kind ≡ DisplayHelp
IsRefusalOf kind Version = kind ≡ DisplayVersion
