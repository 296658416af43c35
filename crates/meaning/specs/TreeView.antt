-- The plain tree of a program.
use Rattle.std.specs.Prelude.{ℕ, zero, suc, List, [], ◌∷◌, ◌++◌, Option, Some, None, map, string_bytes, slice_get, length}
use Rattle.meaning.specs.declared.tree.Expr.{Expr}
use Rattle.meaning.specs.declared.tree.Expr.TheVariants as e
use Rattle.meaning.specs.declared.tree.Action.{Action}
use Rattle.meaning.specs.declared.tree.Action.TheVariants as a
use Rattle.meaning.specs.declared.tree.Statement.{Statement}
use Rattle.meaning.specs.declared.tree.Block.{Block}
use Rattle.meaning.specs.declared.tree.Procedure.{Procedure}
use Rattle.meaning.specs.declared.tree.Reducer.{Reducer}
use Rattle.meaning.specs.declared.tree.Declaration.{Declaration}
use Rattle.meaning.specs.declared.tree.Declaration.TheVariants as d
use Rattle.meaning.specs.declared.tree.Program.{Program}
use Rattle.meaning.specs.Tree.{Term, number, name, cell, has, limit, sum, negate, binary, Deed, bind, enter, read, sync, update}
use Rattle.meaning.specs.Tree.{choose, loop, give, Body, end, step, Proc, Red, Decl, reducer, procedure, Tree}

abbrev pub term : Expr → Term
term (e.Number n) = number n
term (e.Name n) = name n
term (e.Cell' t p row c) = cell (string_bytes t) (term row) (string_bytes c)
term (e.Has' t p row) = has (string_bytes t) (term row)
term (e.Limit t) = limit (string_bytes t)
term (e.Sum t c) = sum (string_bytes t) (string_bytes c)
term (e.Negate' p x) = negate (term x)
term (e.Binary' op p x q y) = binary op (term x) (term y)

-- what an action does, where `inner` is the plain block of a number
abbrev pub deed : (ℕ → Body) → Action → Deed
deed inner (a.Bind n x) = bind n (term x)
deed inner (a.Enter n way f xs) = enter n way (string_bytes f) (map term xs.items)
deed inner (a.Read n r) = read n (string_bytes r)
deed inner a.Sync = sync
deed inner (a.Update r xs) = update (string_bytes r) (map term xs.items)
deed inner (a.If x b c) = choose (term x) (inner b) (inner c)
deed inner (a.Loop n low high grain f xs) = loop n (term low) (term high) grain (string_bytes f) (map term xs.items)
deed inner (a.Return x) = give (term x)

abbrev pub statements : (ℕ → Body) → List Statement → Body
statements inner [] = end
statements inner (s ∷ rest) = step s.number (deed inner s.action) (statements inner rest)

abbrev pub statements_of : (ℕ → Body) → Option Block → Body
statements_of inner None = end
statements_of inner (Some b) = statements inner b.statements.items

-- the plain block of a number, where blocks nest at most so many levels
abbrev pub block : List Block → ℕ → ℕ → Body
block blocks zero n = end
block blocks (suc levels) n = statements_of (block blocks levels) (slice_get blocks n)

abbrev pub proc : Procedure → Proc
proc p =
    record {
      called = string_bytes p.name;
      memo = p.memo;
      parameters = p.parameters;
      names = map string_bytes p.names.items;
      body = block p.blocks.items (length p.blocks.items) 0;
    }

abbrev pub red : Reducer → Red
red r = record { called = string_bytes r.name; kind = r.kind; initial = r.initial.items }

abbrev pub decl : Declaration → Decl
decl (d.Reducer r) = reducer (red r)
decl (d.Procedure p) = procedure (proc p)

abbrev pub tree : Program → Tree
tree p = map decl p.declarations.items

-- the lines of a declaration and of its statements, these with their numbers
pub record Lined : Type 0 where
  pub line : ℕ
  pub statements : List (ℕ × ℕ)

abbrev pub statement_lines : List Statement → List (ℕ × ℕ)
statement_lines ss = map (λ s. (s.number, s.line)) ss

abbrev pub block_lines : List Block → List (ℕ × ℕ)
block_lines [] = []
block_lines (b ∷ bs) = statement_lines b.statements.items ++ block_lines bs

abbrev pub lined : Declaration → Lined
lined (d.Reducer r) = record { line = r.line; statements = [] }
lined (d.Procedure p) = record { line = p.line; statements = block_lines p.blocks.items }

abbrev pub lines : Program → List Lined
lines p = map lined p.declarations.items
