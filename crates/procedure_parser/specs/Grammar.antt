-- The grammar, by productions. `Atom full inside e ts us` and the like say that ts begins with e, and that us is what comes after it.
use Rattle.std.specs.Prelude.{◌≡◌, ℕ, zero, suc, ◌≤◌, ◌-◌, ◌*◌, ℤ, pos, neg_ℤ, List, [], ◌∷◌, ◌++◌, Option, Some, None, Bool, true, false, nat_eq, codes}
use Rattle.meaning.specs.declared.tree.Operator.{Operator}
use Rattle.meaning.specs.declared.tree.Operator.TheVariants as op
use Rattle.meaning.specs.declared.tree.Way.{Way}
use Rattle.meaning.specs.declared.tree.Way.TheVariants as way
use Rattle.token_scanner.specs.declared.token.Mark.{Mark}
use Rattle.token_scanner.specs.declared.token.Mark.TheVariants as mark
use Rattle.token_scanner.specs.declared.token.Mark.TheVariants.{OpenParen, CloseParen, OpenBracket, CloseBracket, Colon, Plus, Minus, Star}
use Rattle.token_scanner.specs.declared.token.Mark.TheVariants.{Slash, Percent, OpenBrace, CloseBrace, Semicolon, Comma, Dot, Range}
use Rattle.token_scanner.specs.declared.token.Mark.TheVariants.{Assign, Call, Spawn, Sync, Update, If, Else, CilkFor, In, Grain, Return}
use Rattle.token_scanner.specs.declared.token.Mark.TheVariants.{Reducer, Memo, Proc, Has, Limit}
use Rattle.token_scanner.specs.Words.{Word, Name, Number, Sign, Over, Words}
use Rattle.source_tree.specs.Kinds.{WrittenKind}
use Rattle.source_tree.specs.Kinds as kinds
use Rattle.source_tree.specs.Source.{Phrase, Num, Var, Cell, Neg, Bin, depth, Stmt, Binds, Enters, Reads, Syncs, Updates, Tests, Loops}
use Rattle.source_tree.specs.Source.{Returns, none, stmts_of, Decl, Reduces, Defines, Source}
use Rattle.source_tree.specs.Source as source
use Rattle.procedure_parser.specs.KindWords.{simple_kind}
use Rattle.token_readers.specs.Limits.{most_open, most_levels, most_initial, most_number}

abbrev pub Form : Type 0 → Type 1
Form A = A → Words → Words → Type 0

-- ---- expressions

-- inside m is what stands from a mark m that opens up to the one that closes; full says that no more may be open
pub data Atom (full : Bool) (inside : Mark → Form Phrase) : Phrase → Words → Words → Type 0 where
  number : (n : ℤ) (l : ℕ) (us : Words) → Atom full inside (Num n) ((Number n, l) ∷ us) us
  variable : (x : List ℕ) (l : ℕ) (us : Words) → Atom full inside (Var x) ((Name x, l) ∷ us) us
  cell : (t c : List ℕ) (e : Phrase) (l i j k : ℕ) (ts us : Words)
      → inside OpenBracket e ts ((Sign CloseBracket, i) ∷ (Sign Dot, j) ∷ (Name c, k) ∷ us)
      → Atom full inside (Cell t e c) ((Name t, l) ∷ ts) us
  has : (t : List ℕ) (e : Phrase) (l i j : ℕ) (ts us : Words) → inside OpenBracket e ts ((Sign CloseBracket, j) ∷ us)
      → Atom full inside (source.Has t e) ((Sign Has, l) ∷ (Name t, i) ∷ ts) us
  has_over : (t : List ℕ) (l i j : ℕ) (us : Words) → full ≡ true
      → Atom full inside (source.Has t (Num (pos 0))) ((Sign Has, l) ∷ (Name t, i) ∷ (Over, j) ∷ us) us
  limit : (t : List ℕ) (l i : ℕ) (us : Words) → Atom full inside (source.Limit t) ((Sign Limit, l) ∷ (Name t, i) ∷ us) us
  column_sum : (t c : List ℕ) (l i j k : ℕ) (us : Words)
      → Atom full inside (source.Sum t c) ((Sign mark.Sum, l) ∷ (Name t, i) ∷ (Sign Dot, j) ∷ (Name c, k) ∷ us) us
  paren : (e : Phrase) (l : ℕ) (ts us : Words) → inside OpenParen e ts ((Sign CloseParen, l) ∷ us) → Atom full inside e ts us

pub data Unary (full : Bool) (inside : Mark → Form Phrase) : Phrase → Words → Words → Type 0 where
  atom : (e : Phrase) (ts us : Words) → Atom full inside e ts us → Unary full inside e ts us
  negative : (e : Phrase) (l : ℕ) (ts us : Words) → Unary full inside e ts us → Unary full inside (Neg e) ((Sign Minus, l) ∷ ts) us

-- operations and what follows them, grouped to the left
pub data Chain (operation : Word → Operator → Type 0) (next : Form Phrase) : Phrase → Phrase → Words → Words → Type 0 where
  over : (e : Phrase) (ts : Words) → Chain operation next e e ts ts
  goes_on : (left right e : Phrase) (w : Word) (o : Operator) (l : ℕ) (ts us vs : Words) → operation w o → next right ts us
      → Chain operation next (Bin o left right) e us vs → Chain operation next left e ((w, l) ∷ ts) vs

pub data Multiplicative : Word → Operator → Type 0 where
  times : Multiplicative (Sign Star) op.Multiply
  divides : Multiplicative (Sign Slash) op.Divide
  remains : Multiplicative (Sign Percent) op.Remainder

pub data Additive : Word → Operator → Type 0 where
  adds : Additive (Sign Plus) op.Add
  subtracts : Additive (Sign Minus) op.Subtract

pub data Comparison : Word → Operator → Type 0 where
  equal : Comparison (Sign mark.Equal) op.Equal
  unequal : Comparison (Sign mark.Unequal) op.Unequal
  less : Comparison (Sign mark.Less) op.Less
  at_most : Comparison (Sign mark.AtMost) op.AtMost
  greater : Comparison (Sign mark.Greater) op.Greater
  at_least : Comparison (Sign mark.AtLeast) op.AtLeast

abbrev pub Term : Bool → (Mark → Form Phrase) → Form Phrase
Term full inside e ts vs = (first : Phrase) × (us : Words) × Unary full inside first ts us × Chain Multiplicative (Unary full inside) first e us vs

abbrev pub Sum : Bool → (Mark → Form Phrase) → Form Phrase
Sum full inside e ts vs = (first : Phrase) × (us : Words) × Term full inside first ts us × Chain Additive (Term full inside) first e us vs

-- at most one comparison of two sums
pub data Compared (sum : Form Phrase) : Phrase → Words → Words → Type 0 where
  alone : (e : Phrase) (ts us : Words) → sum e ts us → Compared sum e ts us
  against : (left right : Phrase) (w : Word) (o : Operator) (l : ℕ) (ts us vs : Words) → Comparison w o → sum left ts ((w, l) ∷ us)
      → sum right us vs → Compared sum (Bin o left right) ts vs

-- where so many more may be open at once
abbrev pub Inside : ℕ → Mark → Form Phrase
Inside zero m e ts vs = ⊥
Inside (suc more) m e ts vs = (l : ℕ) × (us : Words) × (ts ≡ (Sign m, l) ∷ us) × Compared (Sum (nat_eq more 0) (Inside more)) e us vs

abbrev pub Expression : ℕ → Form Phrase
Expression more = Compared (Sum (nat_eq more 0) (Inside more))

-- one behind the other
pub data Many {A : Type 0} (item : Form A) : List A → Words → Words → Type 0 where
  nil : (ts : Words) → Many item [] ts ts
  cons : (x : A) (xs : List A) (ts us vs : Words) → item x ts us → Many item xs us vs → Many item (x ∷ xs) ts vs

-- an expression within the limits
abbrev pub Whole : Form Phrase
Whole e ts us = Expression most_open e ts us × (depth e ≤ most_levels)

pub data CommaExpr : Phrase → Words → Words → Type 0 where
  comma_expr : (e : Phrase) (l : ℕ) (ts us : Words) → Whole e ts us → CommaExpr e ((Sign Comma, l) ∷ ts) us

pub data Exprs : List Phrase → Words → Words → Type 0 where
  exprs : (e : Phrase) (es : List Phrase) (ts us vs : Words) → Whole e ts us → Many CommaExpr es us vs → Exprs (e ∷ es) ts vs

pub data Args : List Phrase → Words → Words → Type 0 where
  no_args : (k l : ℕ) (us : Words) → Args [] ((Sign OpenParen, k) ∷ (Sign CloseParen, l) ∷ us) us
  args : (es : List Phrase) (k l : ℕ) (ts us : Words) → Exprs es ts ((Sign CloseParen, l) ∷ us) → Args es ((Sign OpenParen, k) ∷ ts) us

-- ---- statements

pub data EnterWord : Word → Way → Type 0 where
  calls : EnterWord (Sign Call) way.Call
  spawns : EnterWord (Sign Spawn) way.Spawn

-- behind call or spawn
pub data Entry (l : ℕ) (x : Option (List ℕ)) (h : Way) : Stmt → Words → Words → Type 0 where
  entry : (f : List ℕ) (es : List Phrase) (k m : ℕ) (ts us : Words) → Args es ts ((Sign Semicolon, m) ∷ us)
      → Entry l x h (Enters l x h f es) ((Name f, k) ∷ ts) us

-- a number from low to high
pub data Within (low high : ℕ) : ℕ → Words → Words → Type 0 where
  within : (n l : ℕ) (us : Words) → low ≤ n → n ≤ high → Within low high n ((Number (pos n), l) ∷ us) us

-- none is a grain of 1
pub data Grained : ℕ → Words → Words → Type 0 where
  no_grain : (us : Words) → Grained 1 us us
  grained : (g l : ℕ) (ts us : Words) → Within 1 65536 g ts us → Grained g ((Sign Grain, l) ∷ ts) us

-- behind `in`: the two ends of a range
pub data Ranged : Phrase → Phrase → Words → Words → Type 0 where
  ranged : (e f : Phrase) (l : ℕ) (ts us vs : Words) → Whole e ts ((Sign Range, l) ∷ us) → Whole f us vs → Ranged e f ts vs

pub data Statement (block : Form (List Stmt)) : Stmt → Words → Words → Type 0 where
  binds : (l k m : ℕ) (x : List ℕ) (e : Phrase) (ts us : Words) → Whole e ts ((Sign Semicolon, m) ∷ us)
      → Statement block (Binds l x e) ((Name x, l) ∷ (Sign Assign, k) ∷ ts) us
  binds_entry : (l k j : ℕ) (x : List ℕ) (w : Word) (h : Way) (s : Stmt) (ts us : Words) → EnterWord w h → Entry l (Some x) h s ts us
      → Statement block s ((Name x, l) ∷ (Sign Assign, k) ∷ (w, j) ∷ ts) us
  binds_read : (l k j i m : ℕ) (x r : List ℕ) (us : Words)
      → Statement block (Reads l x r) ((Name x, l) ∷ (Sign Assign, k) ∷ (Sign mark.Read, j) ∷ (Name r, i) ∷ (Sign Semicolon, m) ∷ us) us
  enters : (l : ℕ) (w : Word) (h : Way) (s : Stmt) (ts us : Words) → EnterWord w h → Entry l None h s ts us → Statement block s ((w, l) ∷ ts) us
  syncs : (l k : ℕ) (us : Words) → Statement block (Syncs l) ((Sign Sync, l) ∷ (Sign Semicolon, k) ∷ us) us
  updates : (l k m : ℕ) (r : List ℕ) (es : List Phrase) (ts us : Words) → Exprs es ts ((Sign Semicolon, m) ∷ us)
      → Statement block (Updates l r es) ((Sign Update, l) ∷ (Name r, k) ∷ ts) us
  tests : (l : ℕ) (e : Phrase) (a : List Stmt) (ts us vs : Words) → Whole e ts us → block a us vs
      → Statement block (Tests l e (stmts_of a) none) ((Sign If, l) ∷ ts) vs
  tests_else : (l k : ℕ) (e : Phrase) (a b : List Stmt) (ts us vs ws : Words) → Whole e ts us → block a us ((Sign Else, k) ∷ vs)
      → block b vs ws → Statement block (Tests l e (stmts_of a) (stmts_of b)) ((Sign If, l) ∷ ts) ws
  loops : (l i j k h m g : ℕ) (x f : List ℕ) (low high : Phrase) (es : List Phrase) (ts us vs ws : Words) → Ranged low high ts us
      → Grained g us ((Sign Colon, k) ∷ (Name f, h) ∷ vs) → Args es vs ((Sign Semicolon, m) ∷ ws)
      → Statement block (Loops l x low high g f es) ((Sign CilkFor, l) ∷ (Name x, i) ∷ (Sign In, j) ∷ ts) ws

-- behind the mark that opens a block: a return stands last
pub data Body (block : Form (List Stmt)) : List Stmt → Words → Words → Type 0 where
  plain : (ss : List Stmt) (l : ℕ) (ts us : Words) → Many (Statement block) ss ts ((Sign CloseBrace, l) ∷ us) → Body block ss ts us
  returning : (ss : List Stmt) (e : Phrase) (l j k : ℕ) (ts us vs : Words) → Many (Statement block) ss ts ((Sign Return, l) ∷ us)
      → Whole e us ((Sign Semicolon, j) ∷ (Sign CloseBrace, k) ∷ vs) → Body block (ss ++ Returns l e ∷ []) ts vs

-- where so many may be nested, this one counted
abbrev pub Block : ℕ → Form (List Stmt)
Block zero ss ts vs = (l : ℕ) × (ss ≡ []) × (ts ≡ (Over, l) ∷ vs)
Block (suc n) ss ts vs = (l : ℕ) × (us : Words) × (ts ≡ (Sign OpenBrace, l) ∷ us) × Body (Block n) ss us vs

-- ---- reducers

pub data CommaNumber (n : ℕ) : ℕ → Words → Words → Type 0 where
  comma_number : (x l : ℕ) (ts us : Words) → Within 0 (n - 1) x ts us → CommaNumber n x ((Sign Comma, l) ∷ ts) us

-- so many more numbers below n, a comma in front of each
pub data MoreCells (n : ℕ) : ℕ → List ℕ → Words → Words → Type 0 where
  no_more_cells : (us : Words) → MoreCells n zero [] us us
  more_cells : (k x : ℕ) (xs : List ℕ) (ts us vs : Words) → CommaNumber n x ts us → MoreCells n k xs us vs → MoreCells n (suc k) (x ∷ xs) ts vs

-- behind a table's unit: its numbers, row by row
pub data Cells (n : ℕ) : List ℕ → Words → Words → Type 0 where
  cells : (x : ℕ) (xs : List ℕ) (k l : ℕ) (ts us vs : Words) → Within 0 (n - 1) x ts us
      → MoreCells n (n * n - 1) xs us ((Sign CloseBracket, l) ∷ vs) → Cells n (x ∷ xs) ((Sign OpenBracket, k) ∷ ts) vs

-- behind `table`: its size, its unit, its numbers
pub data TableForm : WrittenKind → Words → Words → Type 0 where
  table : (n u k : ℕ) (xs : List ℕ) (ts us vs ws : Words) → Within 1 16 n ts ((Name (codes "unit"), k) ∷ us) → Within 0 (n - 1) u us vs
      → Cells n xs vs ws → TableForm (kinds.Table n u xs) ts ws

pub data KindForm : WrittenKind → Words → Words → Type 0 where
  simple : (x : List ℕ) (k : WrittenKind) (l : ℕ) (us : Words) → simple_kind x ≡ Some k → KindForm k ((Name x, l) ∷ us) us
  first : (n l : ℕ) (ts us : Words) → Within 1 4096 n ts us → KindForm (kinds.First n) ((Name (codes "first"), l) ∷ ts) us
  last : (n l : ℕ) (ts us : Words) → Within 1 4096 n ts us → KindForm (kinds.Last n) ((Name (codes "last"), l) ∷ ts) us
  of_table : (k : WrittenKind) (l : ℕ) (ts us : Words) → TableForm k ts us → KindForm k ((Name (codes "table"), l) ∷ ts) us

-- a number, with a minus or without
pub data Signed : ℤ → Words → Words → Type 0 where
  unsigned : (n : ℕ) (ts us : Words) → Within 0 most_number n ts us → Signed (pos n) ts us
  minus : (n l : ℕ) (ts us : Words) → Within 0 most_number n ts us → Signed (neg_ℤ (pos n)) ((Sign Minus, l) ∷ ts) us

-- behind a number of an initial value, where so many more may come
pub data MoreSigned : ℕ → List ℤ → Words → Words → Type 0 where
  no_more_signed : (n : ℕ) (us : Words) → MoreSigned n [] us us
  more_signed : (n l : ℕ) (x : ℤ) (xs : List ℤ) (ts us vs : Words) → Signed x ts us → MoreSigned n xs us vs
      → MoreSigned (suc n) (x ∷ xs) ((Sign Comma, l) ∷ ts) vs
  signed_over : (k l : ℕ) (us : Words) → MoreSigned zero [] ((Sign Comma, k) ∷ (Over, l) ∷ us) us

-- behind a kind: the numbers of the initial value
pub data Initial : List ℤ → Words → Words → Type 0 where
  no_initial : (us : Words) → Initial [] us us
  initial : (l : ℕ) (x : ℤ) (xs : List ℤ) (ts us vs : Words) → Signed x ts us → MoreSigned (most_initial - 1) xs us vs
      → Initial (x ∷ xs) ((Name (codes "from"), l) ∷ ts) vs

-- behind `reducer`
pub data ReducerForm (l : ℕ) : Decl → Words → Words → Type 0 where
  reduces : (x : List ℕ) (kind : WrittenKind) (xs : List ℤ) (i j m : ℕ) (ts us vs : Words) → KindForm kind ts us
      → Initial xs us ((Sign Semicolon, m) ∷ vs) → ReducerForm l (Reduces l x kind xs) ((Name x, i) ∷ (Sign Colon, j) ∷ ts) vs

-- ---- procedures

-- behind a parameter, where so many more may come
pub data MoreParams : ℕ → List (List ℕ) → Words → Words → Type 0 where
  no_more : (n : ℕ) (us : Words) → MoreParams n [] us us
  one_more : (n k l : ℕ) (x : List ℕ) (xs : List (List ℕ)) (us vs : Words) → MoreParams n xs us vs
      → MoreParams (suc n) (x ∷ xs) ((Sign Comma, k) ∷ (Name x, l) ∷ us) vs
  one_over : (k l : ℕ) (us : Words) → MoreParams zero [] ((Sign Comma, k) ∷ (Over, l) ∷ us) us

pub data Params : List (List ℕ) → Words → Words → Type 0 where
  no_params : (k l : ℕ) (us : Words) → Params [] ((Sign OpenParen, k) ∷ (Sign CloseParen, l) ∷ us) us
  params : (x : List ℕ) (xs : List (List ℕ)) (k i l : ℕ) (ts us : Words) → MoreParams 7 xs ts ((Sign CloseParen, l) ∷ us)
      → Params (x ∷ xs) ((Sign OpenParen, k) ∷ (Name x, i) ∷ ts) us

-- behind `proc`: 32 blocks may be nested, the procedure's own is the first
pub data ProcedureForm (l : ℕ) (memo : Bool) : Decl → Words → Words → Type 0 where
  defines : (f : List ℕ) (xs : List (List ℕ)) (ss : List Stmt) (k : ℕ) (ts us vs : Words) → Params xs ts us → Block 32 ss us vs
      → ProcedureForm l memo (Defines l memo f xs ss) ((Name f, k) ∷ ts) vs

-- the words in front of a procedure's name: whether it is marked, and the line of the first
pub data ProcedureWord : Bool → ℕ → Words → Words → Type 0 where
  unmarked : (l : ℕ) (us : Words) → ProcedureWord false l ((Sign Proc, l) ∷ us) us
  marked : (l k : ℕ) (us : Words) → ProcedureWord true l ((Sign Memo, l) ∷ (Sign Proc, k) ∷ us) us

-- where so many more reducers and procedures may come
pub data Declarations : ℕ → ℕ → Source → Words → Words → Type 0 where
  no_declaration : (r p : ℕ) (ts : Words) → Declarations r p [] ts ts
  a_reducer : (r p l : ℕ) (d : Decl) (ds : Source) (ts us vs : Words) → ReducerForm l d ts us → Declarations r p ds us vs
      → Declarations (suc r) p (d ∷ ds) ((Sign Reducer, l) ∷ ts) vs
  a_procedure : (r p l : ℕ) (m : Bool) (d : Decl) (ds : Source) (ts us vs ws : Words) → ProcedureWord m l ts us → ProcedureForm l m d us vs
      → Declarations r p ds vs ws → Declarations r (suc p) (d ∷ ds) ts ws
  reducer_over : (p k l : ℕ) (us : Words) → Declarations zero p [] ((Sign Reducer, k) ∷ (Over, l) ∷ us) us
  procedure_over : (r k l : ℕ) (m : Bool) (ts us : Words) → ProcedureWord m k ts ((Over, l) ∷ us) → Declarations r zero [] ts us
