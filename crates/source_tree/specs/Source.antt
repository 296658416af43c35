-- The source tree without where it lies in memory: names are their bytes.
use Rattle.std.specs.Prelude.{ℕ, ℤ, ◌+◌, List, [], ◌∷◌, max, map, Option, string_bytes, Bool}
use Rattle.std.specs.Option.{option_map}
use Rattle.std.specs.declared.string.String.{String}
use Rattle.std.specs.Global.{Global}
use Rattle.meaning.specs.declared.tree.Operator.{Operator}
use Rattle.meaning.specs.declared.tree.Way.{Way}
use Rattle.meaning.specs.Tree.{Name}
use Rattle.source_tree.specs.Kinds.{WrittenKind, written}
use Rattle.source_tree.specs.declared.source.Expr.{Expr}
use Rattle.source_tree.specs.declared.source.Expr.TheVariants as expr
use Rattle.source_tree.specs.declared.source.Statement.{Statement}
use Rattle.source_tree.specs.declared.source.Statement.TheOpen.{Statement-F}
use Rattle.source_tree.specs.declared.source.Statement.TheOpen as layer
use Rattle.source_tree.specs.declared.source.Statement.TheFolds.{fold-Statement}
use Rattle.source_tree.specs.declared.source.Declaration.{Declaration}
use Rattle.source_tree.specs.declared.source.Declaration.TheVariants as declaration

-- an expression
pub data Phrase : Type 0 where
  Num : ℤ → Phrase
  Var : Name → Phrase
  Cell : Name → Phrase → Name → Phrase
  Has : Name → Phrase → Phrase
  Limit : Name → Phrase
  Sum : Name → Name → Phrase
  Neg : Phrase → Phrase
  Bin : Operator → Phrase → Phrase → Phrase

mutual
  -- a statement, with its line
  pub data Stmt : Type 0 where
    Binds : ℕ → Name → Phrase → Stmt
    Enters : ℕ → Option Name → Way → Name → List Phrase → Stmt
    Reads : ℕ → Name → Name → Stmt
    Syncs : ℕ → Stmt
    Updates : ℕ → Name → List Phrase → Stmt
    Tests : ℕ → Phrase → Stmts → Stmts → Stmt
    Loops : ℕ → Name → Phrase → Phrase → ℕ → Name → List Phrase → Stmt
    Returns : ℕ → Phrase → Stmt

  pub data Stmts : Type 0 where
    none : Stmts
    some : Stmt → Stmts → Stmts

-- a declaration, with its line: a reducer, with the numbers of its initial value; a procedure, whether it is marked memo, with its parameters and its body
pub data Decl : Type 0 where
  Reduces : ℕ → Name → WrittenKind → List ℤ → Decl
  Defines : ℕ → Bool → Name → List Name → List Stmt → Decl

abbrev pub Source : Type 0
Source = List Decl

-- how many levels an expression has
abbrev pub depth : Phrase → ℕ
depth (Num n) = 1
depth (Var x) = 1
depth (Cell t e c) = depth e + 1
depth (Has t e) = depth e + 1
depth (Limit t) = 1
depth (Sum t c) = 1
depth (Neg e) = depth e + 1
depth (Bin o a b) = max (depth a) (depth b) + 1

abbrev pub stmts_of : List Stmt → Stmts
stmts_of [] = none
stmts_of (s ∷ ss) = some s (stmts_of ss)

abbrev pub phrase : Expr → Phrase
phrase (expr.Number n) = Num n
phrase (expr.Name x) = Var (string_bytes x)
phrase (expr.Cell' t p e c) = Cell (string_bytes t) (phrase e) (string_bytes c)
phrase (expr.Has' t p e) = Has (string_bytes t) (phrase e)
phrase (expr.Limit t) = Limit (string_bytes t)
phrase (expr.Sum t c) = Sum (string_bytes t) (string_bytes c)
phrase (expr.Negate' p e) = Neg (phrase e)
phrase (expr.Binary' o p a q b) = Bin o (phrase a) (phrase b)

abbrev pub phrases : List Expr → List Phrase
phrases es = map phrase es

-- one statement, with what each inner one stands for in its place
abbrev pub stmt_step : Statement-F Stmt → Stmt
stmt_step (layer.Bind l x e) = Binds l (string_bytes x) (phrase e)
stmt_step (layer.Enter l x h f es) = Enters l (option_map string_bytes x) h (string_bytes f) (phrases es.items)
stmt_step (layer.Read l x r) = Reads l (string_bytes x) (string_bytes r)
stmt_step (layer.Sync l) = Syncs l
stmt_step (layer.Update l r es) = Updates l (string_bytes r) (phrases es.items)
stmt_step (layer.If l e a b) = Tests l (phrase e) (stmts_of a.items) (stmts_of b.items)
stmt_step (layer.Loop l x e f g h es) = Loops l (string_bytes x) (phrase e) (phrase f) g (string_bytes h) (phrases es.items)
stmt_step (layer.Return l e) = Returns l (phrase e)

abbrev pub stmt : Statement → Stmt
stmt = fold-Statement Stmt stmt_step

abbrev pub stmts : List Statement → List Stmt
stmts ss = map stmt ss

abbrev pub texts : List (String Global) → List Name
texts xs = map string_bytes xs

abbrev pub option_text : Option (String Global) → Option Name
option_text x = option_map string_bytes x

abbrev pub decl : Declaration → Decl
decl (declaration.Reducer r) = Reduces r.line (string_bytes r.name) (written r.kind) r.initial.items
decl (declaration.Procedure p) = Defines p.line p.memo (string_bytes p.name) (texts p.parameters.items) (stmts p.body.items)

abbrev pub source : List Declaration → Source
source ds = map decl ds
