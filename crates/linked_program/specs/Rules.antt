-- The rules that a statement can break by itself.
use Rattle.std.specs.Prelude.{ℕ, Bool, true, false, not, cond, ◌==◌, ◌&&◌, ◌||◌, List, [], ◌∷◌, ◌++◌, Option, Some, None, length, slice_get, option_map}
use Rattle.std.specs.Str.{bytes_eq}
use Rattle.monoid_laws.specs.declared.Kind.{Kind}
use Rattle.monoid_laws.specs.Kinds.{arity}
use Rattle.meaning.specs.Tree.{Name, Term, number, name, cell, has, limit, sum, negate, binary, Deed, bind, enter, read, sync}
use Rattle.meaning.specs.Tree.{update, choose, loop, give, Body, end, step, Red, Tree}
use Rattle.meaning.specs.Statements.{reducers, procedure_of}
use Rattle.meaning.specs.Elision.{main}
use Rattle.linked_program.specs.declared.violation.Rule.{Rule}
use Rattle.linked_program.specs.declared.violation.Rule.TheVariants.{Unknown, Twice, Waiting, Arguments, Read, Update, Main, Table}
use Rattle.linked_program.specs.declared.knowledge.Moment.{Moment}
use Rattle.linked_program.specs.declared.knowledge.Knowledge.{Knowledge}
use Rattle.linked_program.specs.Violations.{when}
use Rattle.linked_program.specs.TableNames.{Columned, table_of, has_name}
use Rattle.linked_program.specs.Scope.{Scope, is_known, is_bound, waits, bound}
use Rattle.linked_program.specs.Monoids.{is_readable}

-- ---- expressions

-- the use of a variable: it isn't known there, or it waits for a sync
abbrev pub use_rules : Moment → Option Knowledge → List Rule
use_rules synced k = when (not (is_known k)) Unknown ++ when (waits synced k) Waiting

-- a table of which this is known is used by its name alone
abbrev pub table_rules : Option Columned → List Rule
table_rules None = Table ∷ []
table_rules (Some t) = []

abbrev pub column_rules : Option Columned → Name → List Rule
column_rules None c = Table ∷ []
column_rules (Some t) c = when (not (has_name t.columns c)) Table

abbrev pub term_rules : List Columned → Scope → Term → List Rule
term_rules tables scope (number n) = []
term_rules tables scope (name x) = use_rules scope.synced (slice_get scope.names x)
term_rules tables scope (cell t e c) = column_rules (table_of tables t) c ++ term_rules tables scope e
term_rules tables scope (has t e) = table_rules (table_of tables t) ++ term_rules tables scope e
term_rules tables scope (limit t) = table_rules (table_of tables t)
term_rules tables scope (sum t c) = column_rules (table_of tables t) c
term_rules tables scope (negate e) = term_rules tables scope e
term_rules tables scope (binary op e f) = term_rules tables scope e ++ term_rules tables scope f

abbrev pub terms_rules : List Columned → Scope → List Term → List Rule
terms_rules tables scope [] = []
terms_rules tables scope (e ∷ es) = term_rules tables scope e ++ terms_rules tables scope es

-- ---- names that statements bind, enter and update

abbrev pub bind_rules : Scope → ℕ → List Rule
bind_rules scope x = when (is_bound (slice_get scope.names x)) Twice

abbrev pub target_rules : Scope → Option ℕ → List Rule
target_rules scope None = []
target_rules scope (Some x) = bind_rules scope x

-- a procedure with so many parameters is entered with so many arguments
abbrev pub callee_rules : Option ℕ → ℕ → List Rule
callee_rules None count = Unknown ∷ []
callee_rules (Some parameters) count = when (not (parameters == count)) Arguments

abbrev pub enter_rules : Tree → Name → ℕ → List Rule
enter_rules program f count = callee_rules (option_map (λ p. p.parameters) (procedure_of program f)) count ++ when (bytes_eq f main) Main

abbrev pub reducer_of : List Red → Name → Option Red
reducer_of [] r = None
reducer_of (x ∷ xs) r = cond (bytes_eq x.called r) (Some x) (reducer_of xs r)

-- the kind of the reducer of a name
abbrev pub kind_of : Tree → Name → Option Kind
kind_of program r = option_map (λ x. x.kind) (reducer_of (reducers program) r)

abbrev pub update_rules : Option Kind → ℕ → List Rule
update_rules None count = Update ∷ []
update_rules (Some kind) count = when (not (arity kind == count)) Update

-- ---- reads

abbrev mutual
  -- a plain bind, a read, a return, or an `if` of these
  pub is_quiet : Deed → Bool
  is_quiet (bind x e) = true
  is_quiet (read x r) = true
  is_quiet (give e) = true
  is_quiet (choose e a b) = are_quiet a && are_quiet b
  is_quiet _ = false

  pub are_quiet : Body → Bool
  are_quiet end = true
  are_quiet (step n d rest) = is_quiet d && are_quiet rest

abbrev pub kind_rules : Option Kind → List Rule
kind_rules None = Update ∷ []
kind_rules (Some kind) = when (not (is_readable kind)) Read

-- a read, here or elsewhere than in main's outermost block
abbrev pub read_rules : Bool → Scope → Option Kind → List Rule
read_rules here scope kind = kind_rules kind ++ when (not here || scope.spawned) Read

-- a statement of main's outermost block that comes after a read
abbrev pub late_rules : Bool → Scope → Deed → List Rule
late_rules here scope d = when ((here && scope.read) && not (is_quiet d)) Read

-- ---- statements

-- what the statements of a procedure are checked against: the program, its tables, whether the procedure is main,
-- which declaration it is, and the lines of its statements by their numbers
pub record Setting : Type 0 where
  pub program : Tree
  pub tables : List Columned
  pub in_main : Bool
  pub declaration : ℕ
  pub lines : List (ℕ × ℕ)

-- a call or a spawn
abbrev pub entry_rules : Setting → Scope → Option ℕ → Name → List Term → List Rule
entry_rules s scope x f es = terms_rules s.tables scope es ++ (target_rules scope x ++ enter_rules s.program f (length es))

-- a loop's bounds and its variable
abbrev pub range_rules : Setting → Scope → ℕ → Term → Term → List Rule
range_rules s scope x e f = term_rules s.tables scope e ++ (term_rules s.tables scope f ++ bind_rules scope x)

abbrev pub own_rules : Setting → Moment → Scope → Deed → List Rule
own_rules s now scope (bind x e) = term_rules s.tables scope e ++ bind_rules scope x
own_rules s now scope (enter x way f es) = entry_rules s scope x f es
own_rules s now scope (read x r) = bind_rules scope x ++ read_rules (s.in_main && (now.depth == 0)) scope (kind_of s.program r)
own_rules s now scope sync = []
own_rules s now scope (update r es) = terms_rules s.tables scope es ++ update_rules (kind_of s.program r) (length es)
own_rules s now scope (choose e a b) = term_rules s.tables scope e
own_rules s now scope (loop x e f grain g es) =
    range_rules s scope x e f ++ (terms_rules s.tables (bound now false scope x) es ++ enter_rules s.program g (length es))
own_rules s now scope (give e) = term_rules s.tables scope e

abbrev pub deed_rules : Setting → Moment → Scope → Deed → List Rule
deed_rules s now scope d = late_rules (s.in_main && (now.depth == 0)) scope d ++ own_rules s now scope d
