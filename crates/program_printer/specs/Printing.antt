-- The one printed form of a program: its tokens. Each function gives the tokens of a part, and then the rest.
use Rattle.std.specs.Prelude.{ℕ, suc, ◌*◌, ℤ, pos, negsuc, List, [], ◌∷◌, map, take, Bool, true, false, Option, Some, None, unwrap_or}
use Rattle.std.specs.Prelude.{slice_get, codes, string_bytes}
use Rattle.monoid_laws.specs.declared.Kind.{Kind}
use Rattle.monoid_laws.specs.declared.Kind.TheVariants as kind
use Rattle.monoid_laws.specs.declared.Table.{Table}
use Rattle.meaning.specs.declared.tree.Operator.{Operator}
use Rattle.meaning.specs.declared.tree.Operator.TheVariants.{Add, Subtract, Multiply, Divide, Remainder, Equal, Unequal, Less, AtMost, Greater, AtLeast}
use Rattle.meaning.specs.declared.tree.Procedure.{Procedure}
use Rattle.meaning.specs.declared.tree.Way.{Way}
use Rattle.meaning.specs.declared.tree.Way.TheVariants as way
use Rattle.meaning.specs.Tree.{Name, Term, number, name, cell, has, limit, sum, negate, binary, Deed, bind, enter, read, sync}
use Rattle.meaning.specs.Tree.{update, choose, loop, give, Body, end, step, Proc, Decl, reducer, procedure, Tree}
use Rattle.token_scanner.specs.declared.token.Mark.{Mark}
use Rattle.token_scanner.specs.declared.token.Mark.TheVariants as mark
use Rattle.token_scanner.specs.Words.{Word, Sign, Number}
use Rattle.token_scanner.specs.Words as word
use Rattle.token_spelling.specs.Spelling.{written}

abbrev pub operator_mark : Operator → Mark
operator_mark Add = mark.Plus
operator_mark Subtract = mark.Minus
operator_mark Multiply = mark.Star
operator_mark Divide = mark.Slash
operator_mark Remainder = mark.Percent
operator_mark Equal = mark.Equal
operator_mark Unequal = mark.Unequal
operator_mark Less = mark.Less
operator_mark AtMost = mark.AtMost
operator_mark Greater = mark.Greater
operator_mark AtLeast = mark.AtLeast

abbrev pub way_mark : Way → Mark
way_mark way.Call = mark.Call
way_mark way.Spawn = mark.Spawn

-- the names of a procedure's pool
abbrev pub names_of : Procedure → List Name
names_of p = map string_bytes p.names.items

-- the name of a variable
abbrev pub variable : List Name → ℕ → Name
variable names n = unwrap_or (slice_get names n) []

-- ---- expressions: each binary operation and unary minus stands in parentheses

abbrev pub term_words : List Name → Term → List Word → List Word
term_words names (number n) us = Number n ∷ us
term_words names (name x) us = word.Name (variable names x) ∷ us
term_words names (cell t e c) us = word.Name t ∷ Sign mark.OpenBracket ∷ term_words names e (Sign mark.CloseBracket ∷ Sign mark.Dot ∷ word.Name c ∷ us)
term_words names (has t e) us = Sign mark.Has ∷ word.Name t ∷ Sign mark.OpenBracket ∷ term_words names e (Sign mark.CloseBracket ∷ us)
term_words names (limit t) us = Sign mark.Limit ∷ word.Name t ∷ us
term_words names (sum t c) us = Sign mark.Sum ∷ word.Name t ∷ Sign mark.Dot ∷ word.Name c ∷ us
term_words names (negate e) us = Sign mark.OpenParen ∷ Sign mark.Minus ∷ term_words names e (Sign mark.CloseParen ∷ us)
term_words names (binary o e f) us = Sign mark.OpenParen ∷ term_words names e (Sign (operator_mark o) ∷ term_words names f (Sign mark.CloseParen ∷ us))

-- each behind a comma
abbrev pub more_terms : List Name → List Term → List Word → List Word
more_terms names [] us = us
more_terms names (e ∷ es) us = Sign mark.Comma ∷ term_words names e (more_terms names es us)

abbrev pub terms_words : List Name → List Term → List Word → List Word
terms_words names [] us = us
terms_words names (e ∷ es) us = term_words names e (more_terms names es us)

abbrev pub arguments_words : List Name → List Term → List Word → List Word
arguments_words names es us = Sign mark.OpenParen ∷ terms_words names es (Sign mark.CloseParen ∷ us)

-- ---- statements

abbrev pub entry_words : List Name → Name → List Term → List Word → List Word
entry_words names f es us = word.Name f ∷ arguments_words names es (Sign mark.Semicolon ∷ us)

-- the variable that takes an entry's value
abbrev pub bound_words : List Name → Option ℕ → List Word → List Word
bound_words names None us = us
bound_words names (Some x) us = word.Name (variable names x) ∷ Sign mark.Assign ∷ us

-- behind a loop's variable
abbrev pub range_words : List Name → Term → Term → ℕ → List Word → List Word
range_words names low high grain us = term_words names low
    (Sign mark.Range ∷ term_words names high (Sign mark.Grain ∷ Number (pos grain) ∷ Sign mark.Colon ∷ us))

-- what stands before the procedure that a loop enters
abbrev pub loop_words : List Name → ℕ → Term → Term → ℕ → List Word → List Word
loop_words names x low high grain us = Sign mark.CilkFor ∷ word.Name (variable names x) ∷ Sign mark.In ∷ range_words names low high grain us

-- what stands before the first block of an `if`
abbrev pub test_words : List Name → Term → List Word → List Word
test_words names e us = Sign mark.If ∷ term_words names e (Sign mark.OpenBrace ∷ us)

-- whether a block has no statements
abbrev pub is_end : Body → Bool
is_end end = true
is_end (step n d rest) = false

abbrev mutual
  pub deed_words : List Name → Deed → List Word → List Word
  deed_words names (bind x e) us = word.Name (variable names x) ∷ Sign mark.Assign ∷ term_words names e (Sign mark.Semicolon ∷ us)
  deed_words names (enter x w f es) us = bound_words names x (Sign (way_mark w) ∷ entry_words names f es us)
  deed_words names (read x r) us = word.Name (variable names x) ∷ Sign mark.Assign ∷ Sign mark.Read ∷ word.Name r ∷ Sign mark.Semicolon ∷ us
  deed_words names sync us = Sign mark.Sync ∷ Sign mark.Semicolon ∷ us
  deed_words names (update r es) us = Sign mark.Update ∷ word.Name r ∷ terms_words names es (Sign mark.Semicolon ∷ us)
  deed_words names (choose e b c) us = test_words names e (body_words names b (Sign mark.CloseBrace ∷ else_words names c us))
  deed_words names (loop x low high grain f es) us = loop_words names x low high grain (entry_words names f es us)
  deed_words names (give e) us = Sign mark.Return ∷ term_words names e (Sign mark.Semicolon ∷ us)

  pub body_words : List Name → Body → List Word → List Word
  body_words names end us = us
  body_words names (step n d rest) us = deed_words names d (body_words names rest us)

  -- an `else` without statements isn't written
  pub else_words : List Name → Body → List Word → List Word
  else_words names end us = us
  else_words names (step n d rest) us = Sign mark.Else ∷ Sign mark.OpenBrace ∷ deed_words names d (body_words names rest (Sign mark.CloseBrace ∷ us))

-- ---- declarations

abbrev pub more_numbers : List ℕ → List Word → List Word
more_numbers [] us = us
more_numbers (n ∷ ns) us = Sign mark.Comma ∷ Number (pos n) ∷ more_numbers ns us

abbrev pub numbers_words : List ℕ → List Word → List Word
numbers_words [] us = us
numbers_words (n ∷ ns) us = Number (pos n) ∷ more_numbers ns us

abbrev pub table_words : Table → List Word → List Word
table_words t us = word.Name (codes "table") ∷ Number (pos t.size) ∷ word.Name (codes "unit") ∷ Number
    (pos t.unit) ∷ Sign mark.OpenBracket ∷ numbers_words (take (t.size * t.size) t.cells) (Sign mark.CloseBracket ∷ us)

abbrev pub kind_words : Kind → List Word → List Word
kind_words kind.Add us = word.Name (codes "add") ∷ us
kind_words kind.Mul us = word.Name (codes "mul") ∷ us
kind_words kind.Min us = word.Name (codes "min") ∷ us
kind_words kind.Max us = word.Name (codes "max") ∷ us
kind_words kind.And us = word.Name (codes "and") ∷ us
kind_words kind.Or us = word.Name (codes "or") ∷ us
kind_words kind.Xor us = word.Name (codes "xor") ∷ us
kind_words kind.List us = word.Name (codes "list") ∷ us
kind_words (kind.First n) us = word.Name (codes "first") ∷ Number (pos n) ∷ us
kind_words (kind.Last n) us = word.Name (codes "last") ∷ Number (pos n) ∷ us
kind_words kind.Argmax us = word.Name (codes "argmax") ∷ us
kind_words kind.Affine us = word.Name (codes "affine") ∷ us
kind_words kind.Hist us = word.Name (codes "hist") ∷ us
kind_words (kind.Table t) us = table_words t us

-- a minus is a token of its own
abbrev pub signed_words : ℤ → List Word → List Word
signed_words (pos n) us = Number (pos n) ∷ us
signed_words (negsuc n) us = Sign mark.Minus ∷ Number (pos (suc n)) ∷ us

abbrev pub more_signed_words : List ℤ → List Word → List Word
more_signed_words [] us = us
more_signed_words (x ∷ xs) us = Sign mark.Comma ∷ signed_words x (more_signed_words xs us)

-- the numbers of an initial value
abbrev pub initial_words : List ℤ → List Word → List Word
initial_words [] us = us
initial_words (x ∷ xs) us = word.Name (codes "from") ∷ signed_words x (more_signed_words xs us)

abbrev pub more_names : List Name → List Word → List Word
more_names [] us = us
more_names (x ∷ xs) us = Sign mark.Comma ∷ word.Name x ∷ more_names xs us

abbrev pub names_words : List Name → List Word → List Word
names_words [] us = us
names_words (x ∷ xs) us = word.Name x ∷ more_names xs us

abbrev pub memo_words : Bool → List Word → List Word
memo_words true us = Sign mark.Memo ∷ us
memo_words false us = us

-- behind `proc`: the name, the parameters and the mark that opens the block
abbrev pub head_words : Name → List Name → List Word → List Word
head_words f parameters us = word.Name f ∷ Sign mark.OpenParen ∷ names_words parameters (Sign mark.CloseParen ∷ Sign mark.OpenBrace ∷ us)

-- what stands before a procedure's statements, but for its mark
abbrev pub opening_words : Procedure → List Word → List Word
opening_words p us = Sign mark.Proc ∷ head_words (string_bytes p.name) (take p.parameters (names_of p)) us

-- behind `proc`
abbrev pub proc_words : Proc → List Word → List Word
proc_words p us = head_words p.called (take p.parameters p.names) (body_words p.names p.body (Sign mark.CloseBrace ∷ us))

abbrev pub decl_words : Decl → List Word → List Word
decl_words (reducer r) us = Sign mark.Reducer ∷ word.Name r.called ∷ Sign mark.Colon ∷ kind_words r.kind (initial_words r.initial (Sign mark.Semicolon ∷ us))
decl_words (procedure p) us = memo_words p.memo (Sign mark.Proc ∷ proc_words p us)

-- the tokens of a program
abbrev pub printed_words : Tree → List Word
printed_words [] = []
printed_words (d ∷ ds) = decl_words d (printed_words ds)

-- the text of a program
abbrev pub printed : Tree → List ℕ
printed t = written (printed_words t)
