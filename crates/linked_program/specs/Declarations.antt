-- Where a program breaks the rules.
use Rattle.std.specs.Prelude.{◌≡◌, ℕ, ◌+◌, ◌-◌, Bool, false, cond, not, ◌==◌, ◌&&◌, ◌||◌, nat_lt, List, [], ◌∷◌, ◌++◌, Option, Some, None}
use Rattle.std.specs.Prelude.{take, length, slice_get, option_map}
use Rattle.std.specs.Str.{bytes_eq}
use Rattle.meaning.specs.Tree.{Name, Proc, Red, Decl, reducer, procedure, Tree}
use Rattle.meaning.specs.declared.tree.Program.{Program}
use Rattle.meaning.specs.TreeView.{Lined, tree, lines}
use Rattle.meaning.specs.Tables.{is_there}
use Rattle.meaning.specs.Statements.{reducers, procedure_of}
use Rattle.meaning.specs.Elision.{main}
use Rattle.linked_program.specs.declared.violation.Rule.{Rule}
use Rattle.linked_program.specs.declared.violation.Rule.TheVariants.{Twice, Main, Monoid, Initial}
use Rattle.linked_program.specs.declared.violation.Violation.{Violation}
use Rattle.linked_program.specs.TableNames.{Columned, has_name}
use Rattle.linked_program.specs.Violations.{at, when}
use Rattle.linked_program.specs.Scope.{scope_of}
use Rattle.linked_program.specs.Monoids.{is_monoid_kind}
use Rattle.linked_program.specs.Initials.{is_initial}
use Rattle.linked_program.specs.Rules.{Setting, reducer_of}
use Rattle.linked_program.specs.Bodies.{body_violations}

abbrev pub repeats : List Name → Bool
repeats [] = false
repeats (x ∷ xs) = has_name xs x || repeats xs

-- a reducer after these declarations
abbrev pub reducer_rules : Tree → Red → List Rule
reducer_rules before r =
    when (is_there (reducer_of (reducers before) r.called))
    Twice ++ (when (not (is_monoid_kind r.kind)) Monoid ++ when (not (is_initial r.kind r.initial)) Initial)

-- main is recorded or has parameters
abbrev pub main_rules : Proc → List Rule
main_rules p = when (bytes_eq p.called main && (p.memo || nat_lt 0 p.parameters)) Main

-- a procedure after these declarations
abbrev pub procedure_rules : Tree → Proc → List Rule
procedure_rules before p = when (is_there (procedure_of before p.called)) Twice ++ (when (repeats (take p.parameters p.names)) Twice ++ main_rules p)

abbrev pub setting_of : Tree → List Columned → ℕ → Proc → List (ℕ × ℕ) → Setting
setting_of program tables declaration p lines =
    record { program = program; tables = tables; in_main = bytes_eq p.called main; declaration = declaration; lines = lines }

abbrev pub proc_violations : Tree → List Columned → ℕ → Proc → List (ℕ × ℕ) → List Violation
proc_violations program tables declaration p lines =
    body_violations (setting_of program tables declaration p lines) 0 1 (scope_of p.parameters (length p.names)) p.body

-- the violations of the declaration that comes after n others
abbrev pub decl_violations : Tree → List Columned → ℕ → Decl → Lined → List Violation
decl_violations program tables n (reducer r) lined = at (n + 1) lined.line (reducer_rules (take n program) r)
decl_violations program tables n (procedure p) lined =
    at (n + 1) lined.line (procedure_rules (take n program) p) ++ proc_violations program tables (n + 1) p lined.statements

abbrev pub decls_violations : Tree → List Columned → ℕ → Tree → List Lined → List Violation
decls_violations program tables n (d ∷ ds) (l ∷ ls) = decl_violations program tables n d l ++ decls_violations program tables (n + 1) ds ls
decls_violations program tables n _ _ = []

abbrev pub missing_main : Tree → List Violation
missing_main program = at 0 0 (when (not (is_there (procedure_of program main))) Main)

-- the violations of a program, by its tree, its lines and the names of its tables
abbrev pub violations : List Columned → Tree → List Lined → List Violation
violations tables program lines = missing_main program ++ decls_violations program tables 0 program lines

-- no rule is broken
abbrev pub IsClean : List Columned → Program → Type 0
IsClean tables p = violations tables (tree p) (lines p) ≡ []

abbrev pub called : Option Decl → Name
called (Some (reducer r)) = r.called
called (Some (procedure p)) = p.called
called None = []

-- the name of a declaration, counted from 1; that of the whole program is `main`
abbrev pub name_at : Tree → ℕ → Name
name_at program n = cond (n == 0) main (called (slice_get program (n - 1)))

-- a violation by its rule, the name of the declaration that holds it, its line
abbrev pub reported : Tree → Option Violation → Option (Rule × Name × ℕ)
reported program found = option_map (λ v. (v.rule, name_at program v.declaration, v.line)) found
