-- Edits: what putting a row, deleting a row and defining procedures make of a program and its tables, and when they are refused.
use Rattle.std.specs.Prelude.{ℕ, suc, nat_eq, nat_lt, nat_le, ℤ, pos, negsuc, Bool, true, false, cond, not, ◌&&◌, int_lt, List, [], ◌∷◌}
use Rattle.std.specs.Prelude.{Option, Some, None, Result, Ok, Err, length}
use Rattle.std.specs.Ordering.{int_eq}
use Rattle.std.specs.Str.{bytes_eq}
use Rattle.meaning.specs.declared.tree.Operator.{Operator}
use Rattle.meaning.specs.declared.tree.Operator.TheVariants as o
use Rattle.meaning.specs.declared.tree.Way.{Way}
use Rattle.meaning.specs.declared.tree.Way.TheVariants.{Call, Spawn}
use Rattle.meaning.specs.TreeView.{Lined}
use Rattle.meaning.specs.Tree.{Name, Term, number, name, cell, has, limit, sum, negate, binary, Deed, bind, enter, read, sync}
use Rattle.meaning.specs.Tree.{update, choose, loop, give, Body, end, step, Proc, reducer, procedure, Tree}
use Rattle.meaning.specs.Tables.{Tables, Listed, is_there, row_of}
use Rattle.meaning.specs.Statements.{procedure_of}
use Rattle.meaning.specs.Records.{Revised}

-- a program with its revision numbers and its lines, its tables, and how many edits of the tables were accepted
pub record Standing : Type 0 where
  pub program : Revised
  pub lines : List Lined
  pub tables : Tables
  pub edits : ℕ

-- a violation of a check rule: its number, the declaration that holds it, the line
pub record Violation : Type 0 where
  pub rule : ℕ
  pub holder : Name
  pub line : ℕ

-- why an edit is refused
pub data EditRefusal : Type 0 where
  UnknownTable : EditRefusal
  WrongColumns : EditRefusal
  RowRange : EditRefusal
  NoRow : EditRefusal
  BadText : ℕ → EditRefusal
  Broken : Violation → EditRefusal
  Exhausted : EditRefusal

-- the greatest number of a counter
abbrev pub most : ℕ
most = 18446744073709551615

abbrev pub in_range : ℤ → Bool
in_range (pos n) = nat_le n 2147483647
in_range (negsuc n) = false

abbrev pub table_of : Tables → Name → Option Listed
table_of [] t = None
table_of (x ∷ xs) t = cond (bytes_eq x.called t) (Some x) (table_of xs t)

-- rows stand by rising numbers
abbrev pub row_put : ℤ → List ℤ → List (ℤ × List ℤ) → List (ℤ × List ℤ)
row_put n vs [] = (n, vs) ∷ []
row_put n vs ((m, ws) ∷ rest) =
    cond (int_lt n m) ((n, vs) ∷ (m, ws) ∷ rest) (cond (int_lt m n) ((m, ws) ∷ row_put n vs rest) ((n, vs) ∷ rest))

abbrev pub row_gone : ℤ → List (ℤ × List ℤ) → List (ℤ × List ℤ)
row_gone n [] = []
row_gone n ((m, ws) ∷ rest) = cond (int_eq m n) rest ((m, ws) ∷ row_gone n rest)

abbrev pub with_rows : Listed → List (ℤ × List ℤ) → Listed
with_rows x rows = record { called = x.called; columns = x.columns; rows = rows }

-- the table of a name changed
abbrev pub table_changed : (Listed → Listed) → Tables → Name → Tables
table_changed f [] t = []
table_changed f (x ∷ xs) t = cond (bytes_eq x.called t) (f x ∷ xs) (x ∷ table_changed f xs t)

-- refused for the first cause that is there
abbrev pub unless : {A : Type 0} → Bool → EditRefusal → Result A EditRefusal → Result A EditRefusal
unless true e r = Err e
unless false e r = r

abbrev pub with_tables : Standing → Tables → Standing
with_tables s tables = record { program = s.program; lines = s.lines; tables = tables; edits = suc s.edits }

abbrev pub put_in : Standing → Name → ℤ → List ℤ → Option Listed → Result Standing EditRefusal
put_in s t row vs None = Err UnknownTable
put_in s t row vs (Some x) =
    unless (not (in_range row)) RowRange (unless (not (nat_eq (length vs) (length x.columns))) WrongColumns (unless (nat_eq s.edits most) Exhausted
    (Ok (with_tables s (table_changed (λ y. with_rows y (row_put row vs y.rows)) s.tables t)))))

-- a row is put into a table, in the place of the one of its number
abbrev pub after_put : Standing → Name → ℤ → List ℤ → Result Standing EditRefusal
after_put s t row vs = put_in s t row vs (table_of s.tables t)

abbrev pub delete_in : Standing → Name → ℤ → Option Listed → Result Standing EditRefusal
delete_in s t row None = Err UnknownTable
delete_in s t row (Some x) =
    unless (not (in_range row)) RowRange (unless (not (is_there (row_of x.rows row))) NoRow (unless (nat_eq s.edits most) Exhausted
    (Ok (with_tables s (table_changed (λ y. with_rows y (row_gone row y.rows)) s.tables t)))))

-- a row is deleted
abbrev pub after_delete : Standing → Name → ℤ → Result Standing EditRefusal
after_delete s t row = delete_in s t row (table_of s.tables t)

-- ---- the same tree

abbrev pub same_operator : Operator → Operator → Bool
same_operator o.Add o.Add = true
same_operator o.Subtract o.Subtract = true
same_operator o.Multiply o.Multiply = true
same_operator o.Divide o.Divide = true
same_operator o.Remainder o.Remainder = true
same_operator o.Equal o.Equal = true
same_operator o.Unequal o.Unequal = true
same_operator o.Less o.Less = true
same_operator o.AtMost o.AtMost = true
same_operator o.Greater o.Greater = true
same_operator o.AtLeast o.AtLeast = true
same_operator _ _ = false

abbrev pub same_term : Term → Term → Bool
same_term (number m) (number n) = int_eq m n
same_term (name x) (name y) = nat_eq x y
same_term (cell t e c) (cell u f d) = bytes_eq t u && same_term e f && bytes_eq c d
same_term (has t e) (has u f) = bytes_eq t u && same_term e f
same_term (limit t) (limit u) = bytes_eq t u
same_term (sum t c) (sum u d) = bytes_eq t u && bytes_eq c d
same_term (negate e) (negate f) = same_term e f
same_term (binary p e f) (binary q g h) = same_operator p q && same_term e g && same_term f h
same_term _ _ = false

abbrev pub same_terms : List Term → List Term → Bool
same_terms [] [] = true
same_terms (e ∷ es) (f ∷ fs) = same_term e f && same_terms es fs
same_terms _ _ = false

abbrev pub same_way : Way → Way → Bool
same_way Call Call = true
same_way Spawn Spawn = true
same_way _ _ = false

abbrev pub same_into : Option ℕ → Option ℕ → Bool
same_into None None = true
same_into (Some x) (Some y) = nat_eq x y
same_into _ _ = false

abbrev mutual
  pub same_deed : Deed → Deed → Bool
  same_deed (bind x e) (bind y f) = nat_eq x y && same_term e f
  same_deed (enter x v f es) (enter y w g fs) = same_into x y && same_way v w && bytes_eq f g && same_terms es fs
  same_deed (read x r) (read y s) = nat_eq x y && bytes_eq r s
  same_deed sync sync = true
  same_deed (update r es) (update s fs) = bytes_eq r s && same_terms es fs
  same_deed (choose e a b) (choose f c d) = same_term e f && same_body a c && same_body b d
  same_deed (loop x a b g f es) (loop y c d h k fs) = nat_eq x y && same_term a c && same_term b d && nat_eq g h && bytes_eq f k && same_terms es fs
  same_deed (give e) (give f) = same_term e f
  same_deed _ _ = false

  pub same_body : Body → Body → Bool
  same_body end end = true
  same_body (step m d rest) (step n e more) = nat_eq m n && same_deed d e && same_body rest more
  same_body _ _ = false

abbrev pub same_names : List Name → List Name → Bool
same_names [] [] = true
same_names (x ∷ xs) (y ∷ ys) = bytes_eq x y && same_names xs ys
same_names _ _ = false

abbrev pub same_mark : Bool → Bool → Bool
same_mark true b = b
same_mark false b = not b

-- the same procedure, wherever it stands; its memo mark is part of it
abbrev pub same_proc : Proc → Proc → Bool
same_proc p q = same_mark p.memo q.memo && nat_eq p.parameters q.parameters && same_names p.names q.names && same_body p.body q.body

-- ---- revisions

abbrev pub is_same : Option Proc → Proc → Bool
is_same None p = false
is_same (Some q) p = same_proc q p

abbrev pub revision_of : List (Name × ℕ) → Name → ℕ
revision_of [] f = 0
revision_of ((g, n) ∷ rest) f = cond (bytes_eq g f) n (revision_of rest f)

-- each procedure of the new tree keeps its revision number where it is as it was; the others get new ones, in the order of the text
abbrev pub revised : Revised → Tree → ℕ → List (Name × ℕ) × ℕ
revised old [] next = ([], next)
revised old (reducer r ∷ rest) next = revised old rest next
revised old (procedure p ∷ rest) next =
    cond (is_same (procedure_of old.tree p.called) p)
    (let more = revised old rest next in ((p.called, revision_of old.revisions p.called) ∷ more.0, more.1))
    (let more = revised old rest (suc next) in ((p.called, next) ∷ more.0, more.1))

abbrev pub with_program : Standing → Tree × List Lined → List (Name × ℕ) × ℕ → Standing
with_program s new numbers = record {
  program = record { tree = new.0; revisions = numbers.0; counter = numbers.1 };
  lines = new.1;
  tables = s.tables;
  edits = s.edits;
}

abbrev pub checked_as : Standing → Tree × List Lined → Option Violation → Result Standing EditRefusal
checked_as s new (Some v) = Err (Broken v)
checked_as s new None = unless (nat_lt most (revised s.program new.0 s.program.counter).1) Exhausted
    (Ok (with_program s new (revised s.program new.0 s.program.counter)))

-- how a text's procedures are put into a program: it gives the new tree and its lines, or the line where the text is refused
abbrev pub TextReader : Type 0
TextReader = List ℕ → Tree × List Lined → Result (Tree × List Lined) ℕ

-- how a program is checked beside its tables: it gives the first violation
abbrev pub Checker : Type 0
Checker = Tree → List Lined → Tables → Option Violation

abbrev pub defined_as : Checker → Standing → Result (Tree × List Lined) ℕ → Result Standing EditRefusal
defined_as checks s (Err line) = Err (BadText line)
defined_as checks s (Ok new) = checked_as s new (checks new.0 new.1 s.tables)

-- procedures are defined: their text is put into the program, and the whole is checked
abbrev pub after_define : TextReader → Checker → Standing → List ℕ → Result Standing EditRefusal
after_define reads checks s text = defined_as checks s (reads text (s.program.tree, s.lines))

-- ---- lists of edits

pub data Edit : Type 0 where
  Put : Name → ℤ → List ℤ → Edit
  Delete : Name → ℤ → Edit
  Define : List ℕ → Edit

module _ (reads : TextReader) (checks : Checker) where
  abbrev pub tried : Standing → Edit → Result Standing EditRefusal
  tried s (Put t row vs) = after_put s t row vs
  tried s (Delete t row) = after_delete s t row
  tried s (Define text) = after_define reads checks s text

  -- a refused edit changes nothing
  abbrev pub or_same : Standing → Result Standing EditRefusal → Standing
  or_same s (Ok t) = t
  or_same s (Err e) = s

  abbrev pub after_edit : Standing → Edit → Standing
  after_edit s e = or_same s (tried s e)

  abbrev pub after_edits : Standing → List Edit → Standing
  after_edits s [] = s
  after_edits s (e ∷ es) = after_edits (after_edit s e) es
