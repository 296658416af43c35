-- Programs whose names are numbers: what a tree becomes when it is linked.
use Rattle.std.specs.Prelude.{ℕ, suc, ℤ, cond, List, [], ◌∷◌, Option, Some, None, map}
use Rattle.std.specs.Str.{bytes_eq}
use Rattle.meaning.specs.declared.tree.Operator.{Operator}
use Rattle.meaning.specs.declared.tree.Way.{Way}
use Rattle.meaning.specs.Tree.{Name, Term, number, name, cell, has, limit, sum, negate, binary, Deed, bind, enter, read, sync}
use Rattle.meaning.specs.Tree.{update, choose, loop, give, Body, end, step, Proc, Red, Tree}
use Rattle.monoid_laws.specs.declared.Kind.{Kind}
use Rattle.meaning.specs.Statements.{reducers}
use Rattle.meaning.specs.Elision.{main}
use Rattle.meaning.specs.Tables.{index_of}
use Rattle.linked_program.specs.TableNames.{Columned, table_of}
use Rattle.linked_program.specs.Procedures.{procedures}

-- an expression whose names are numbers
pub data Linked : Type 0 where
  constant : ℤ → Linked
  slot : ℕ → Linked
  cell_at : ℕ → Linked → ℕ → Linked
  has_at : ℕ → Linked → Linked
  limit_at : ℕ → Linked
  sum_at : ℕ → ℕ → Linked
  minus : Linked → Linked
  joined : Operator → Linked → Linked → Linked

mutual
  pub data Act : Type 0 where
    binds : ℕ → Linked → Act
    enters : Option ℕ → Way → ℕ → List Linked → Act
    reads : ℕ → ℕ → Act
    syncs : Act
    updates : ℕ → List Linked → Act
    chooses : Linked → Acts → Acts → Act
    loops : ℕ → Linked → Linked → ℕ → ℕ → List Linked → Act
    gives : Linked → Act

  -- a block: no statement, or a statement with its number and the rest
  pub data Acts : Type 0 where
    ends : Acts
    steps : ℕ → Act → Acts → Acts

-- ---- numbers of names

-- the number of the first procedure of a name; that of none where there is no such procedure
abbrev pub procedure_number : List Proc → Name → ℕ
procedure_number [] f = 0
procedure_number (p ∷ ps) f = cond (bytes_eq p.called f) 0 (suc (procedure_number ps f))

-- the number of `main`
abbrev pub main_number : Tree → ℕ
main_number t = procedure_number (procedures t) main

-- the kinds of a program's reducers, in their order
abbrev pub kinds_of : Tree → List Kind
kinds_of t = map (λ r. r.kind) (reducers t)

-- the number of the first reducer of a name; that of none where there is no such reducer
abbrev pub reducer_number : List Red → Name → ℕ
reducer_number [] r = 0
reducer_number (x ∷ xs) r = cond (bytes_eq x.called r) 0 (suc (reducer_number xs r))

-- the number of the first table of a name; that of none where there is no such table
abbrev pub table_number : List Columned → Name → ℕ
table_number [] t = 0
table_number (x ∷ xs) t = cond (bytes_eq x.called t) 0 (suc (table_number xs t))

abbrev pub columns_in : Option Columned → List Name
columns_in None = []
columns_in (Some t) = t.columns

-- the number of a column of the first table of a name
abbrev pub column_number : List Columned → Name → Name → ℕ
column_number ts t c = index_of (columns_in (table_of ts t)) c

-- ---- linking

abbrev pub linked_term : List Columned → Term → Linked
linked_term ts (number n) = constant n
linked_term ts (name x) = slot x
linked_term ts (cell t e c) = cell_at (table_number ts t) (linked_term ts e) (column_number ts t c)
linked_term ts (has t e) = has_at (table_number ts t) (linked_term ts e)
linked_term ts (limit t) = limit_at (table_number ts t)
linked_term ts (sum t c) = sum_at (table_number ts t) (column_number ts t c)
linked_term ts (negate e) = minus (linked_term ts e)
linked_term ts (binary op e f) = joined op (linked_term ts e) (linked_term ts f)

-- a statement of a program, where `inside` is what its blocks become
abbrev mutual
  pub linked_deed : List Columned → Tree → Deed → Act
  linked_deed ts t (bind x e) = binds x (linked_term ts e)
  linked_deed ts t (enter x way f es) = enters x way (procedure_number (procedures t) f) (map (linked_term ts) es)
  linked_deed ts t (read x r) = reads x (reducer_number (reducers t) r)
  linked_deed ts t sync = syncs
  linked_deed ts t (update r es) = updates (reducer_number (reducers t) r) (map (linked_term ts) es)
  linked_deed ts t (choose e a b) = chooses (linked_term ts e) (linked_body ts t a) (linked_body ts t b)
  linked_deed ts t (loop x e f grain g es) = loops x (linked_term ts e) (linked_term ts f) grain (procedure_number (procedures t) g) (map (linked_term ts) es)
  linked_deed ts t (give e) = gives (linked_term ts e)

  pub linked_body : List Columned → Tree → Body → Acts
  linked_body ts t end = ends
  linked_body ts t (step n d rest) = steps n (linked_deed ts t d) (linked_body ts t rest)
