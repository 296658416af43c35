-- Reading tokens from left to right: a tree and the tokens after it, or the tokens from the first on that can't follow.
use Rattle.std.specs.Prelude.{ℕ, zero, suc, ◌-◌, ◌*◌, ℤ, pos, neg_ℤ, List, [], ◌∷◌, length, Option, Some, None, Result, Ok, Err, nat_lt}
use Rattle.std.specs.Prelude.{nat_eq, if◌then◌else◌, Bool, true, false, not, ◌&&◌, ◌||◌, ◌++◌, codes}
use Rattle.meaning.specs.declared.tree.Operator.{Operator}
use Rattle.meaning.specs.declared.tree.Way.{Way}
use Rattle.token_scanner.specs.declared.token.Mark.TheVariants as mark
use Rattle.token_scanner.specs.declared.token.Mark.TheVariants.{OpenParen, CloseParen, OpenBracket, CloseBracket, Colon, Plus, Minus, Star}
use Rattle.token_scanner.specs.declared.token.Mark.TheVariants.{Slash, Percent, OpenBrace, CloseBrace, Semicolon, Comma, Dot, Range}
use Rattle.token_scanner.specs.declared.token.Mark.TheVariants.{Assign, Call, Spawn, Sync, Update, If, Else, CilkFor, In, Grain, Return}
use Rattle.token_scanner.specs.declared.token.Mark.TheVariants.{Reducer, Memo, Proc, Has, Limit}
use Rattle.token_scanner.specs.Words.{Words, for_some, starts, starts_over, starts_name, rest, front_name, front_number, line_of, ended}
use Rattle.source_tree.specs.Kinds.{WrittenKind}
use Rattle.source_tree.specs.Kinds as kinds
use Rattle.source_tree.specs.Source.{Phrase, Num, Var, Cell, Neg, Bin, depth, Stmt, Binds, Enters, Reads, Syncs, Updates, Tests, Loops}
use Rattle.source_tree.specs.Source.{Returns, none, stmts_of, Decl, Reduces, Defines, Source}
use Rattle.source_tree.specs.Source as source
use Rattle.procedure_parser.specs.KindWords.{simple_kind}
use Rattle.token_readers.specs.Limits.{most_open, most_levels, most_initial, most_number}
use Rattle.token_readers.specs.Reading.{◌>>=◌, Read, mark_at, name_at, within_at, comparison, additive, multiplicative, way_of, word_at}

-- where the count is used up: x, behind the token that stands for one too many
unfoldable pub over_as : {A : Type 0} → A → Words → Read A
over_as x ts = if starts_over ts then Ok (x, rest ts) else Err ts

-- ---- expressions

-- Reads an expression of at most so many levels.
abbrev pub Reader : Type 0
Reader = ℕ → Words → Read Phrase

-- behind a name: inside reads from a mark that opens
unfoldable pub after_name_at : Reader → ℕ → List ℕ → Words → Read Phrase
after_name_at inside r x ts =
    if starts OpenBracket ts
    then (if nat_lt 1 r
    then (inside (r - 1) ts >>= λ e. mark_at CloseBracket e.1 >>= λ us. mark_at Dot us >>= λ vs. name_at vs >>= λ c. Ok (Cell x e.0 c.0, c.1))
    else Err ts)
    else Ok (Var x, ts)

-- behind `has` and a name: full says that no more may be open
unfoldable pub row_at : Bool → Reader → ℕ → List ℕ → Words → Read Phrase
row_at full inside r x ts =
    if full
    then over_as (source.Has x (Num (pos 0))) ts
    else (if starts OpenBracket ts
    then (inside (r - 1) ts >>= λ e. mark_at CloseBracket e.1 >>= λ us. Ok (source.Has x e.0, us))
    else Err ts)

unfoldable pub has_at : Bool → Reader → Reader
has_at full inside r ts = if nat_lt 1 r then (name_at (rest ts) >>= λ x. row_at full inside r x.0 x.1) else Err ts

unfoldable pub limit_at : Words → Read Phrase
limit_at ts = name_at ts >>= λ x. Ok (source.Limit x.0, x.1)

unfoldable pub column_sum_at : Words → Read Phrase
column_sum_at ts = name_at ts >>= λ x. mark_at Dot x.1 >>= λ us. name_at us >>= λ c. Ok (source.Sum x.0 c.0, c.1)

-- what is no parenthesis
unfoldable pub plain_atom_at : Bool → Reader → Reader
plain_atom_at full inside r ts =
    if starts Has ts
    then has_at full inside r ts
    else (if starts Limit ts
    then limit_at (rest ts)
    else (if starts mark.Sum ts
    then column_sum_at (rest ts)
    else for_some (front_number ts) (name_at ts >>= λ x. after_name_at inside r x.0 x.1) (λ n. Ok (Num n, rest ts))))

unfoldable pub atom_at : Bool → Reader → Reader
atom_at full inside r ts =
    if starts OpenParen ts
    then (inside r ts >>= λ e. mark_at CloseParen e.1 >>= λ us. Ok (e.0, us))
    else plain_atom_at full inside r ts

-- each minus takes a level
unfoldable pub unary_at : Bool → Reader → Reader
unary_at full inside zero ts = Err ts
unary_at full inside (suc r) ts =
    if starts Minus ts
    then (if nat_lt 0 r then (unary_at full inside r (rest ts) >>= λ e. Ok (Neg e.0, e.1)) else Err ts)
    else atom_at full inside (suc r) ts

-- operations and what follows them, grouped to the left
unfoldable pub chain_at : (Words → Option Operator) → Reader → ℕ → ℕ → Phrase → Words → Read Phrase
chain_at operation next zero r left ts = Err ts
chain_at operation next (suc k) r left ts = for_some (operation ts) (Ok (left, ts)) (λ o.
    if nat_lt (depth left) r then (next (r - 1) (rest ts) >>= λ x. chain_at operation next k r (Bin o left x.0) x.1) else Err ts)

unfoldable pub term_at : Bool → Reader → Reader
term_at full inside r ts = unary_at full inside r ts >>= λ x. chain_at multiplicative (unary_at full inside) r r x.0 x.1

unfoldable pub sum_at : Bool → Reader → Reader
sum_at full inside r ts = term_at full inside r ts >>= λ x. chain_at additive (term_at full inside) r r x.0 x.1

-- behind a sum: at most one comparison
unfoldable pub against_at : Reader → ℕ → Phrase → Words → Read Phrase
against_at sum r left ts = for_some (comparison ts) (Ok (left, ts)) (λ o.
    if nat_lt (depth left) r then (sum (r - 1) (rest ts) >>= λ x. Ok (Bin o left x.0, x.1)) else Err ts)

unfoldable pub expr_with : Bool → Reader → Reader
expr_with full inside r ts = sum_at full inside r ts >>= λ x. against_at (sum_at full inside) r x.0 x.1

-- at a mark that opens, where at most so many more may do so
unfoldable pub inside_at : ℕ → Reader
inside_at zero r ts = Err ts
inside_at (suc more) r ts = expr_with (nat_eq more 0) (inside_at more) r (rest ts)

unfoldable pub expr_at : ℕ → Reader
expr_at more = expr_with (nat_eq more 0) (inside_at more)

-- ---- statements

-- as many as there are, while the tokens begin so
unfoldable pub many_go : {A : Type 0} → (Words → Bool) → (Words → Read A) → ℕ → Words → Read (List A)
many_go go item zero ts = Ok ([], ts)
many_go go item (suc k) ts =
    if go ts
    then (item ts >>= λ x. many_go go item k x.1 >>= λ xs. Ok (x.0 ∷ xs.0, xs.1))
    else Ok ([], ts)

-- what was read before, and what is still read
abbrev pub with_front : {A : Type 0} → List A → Read (List A) → Read (List A)
with_front front read = read >>= λ x. Ok (front ++ x.0, x.1)

abbrev pub many_at : {A : Type 0} → (Words → Bool) → (Words → Read A) → Words → Read (List A)
many_at go item ts = many_go go item (length ts) ts

-- a whole expression
unfoldable pub whole_at : Words → Read Phrase
whole_at = expr_at most_open most_levels

unfoldable pub comma_expr_at : Words → Read Phrase
comma_expr_at ts = mark_at Comma ts >>= whole_at

unfoldable pub exprs_at : Words → Read (List Phrase)
exprs_at ts = whole_at ts >>= λ e. with_front (e.0 ∷ []) (many_at (starts Comma) comma_expr_at e.1)

unfoldable pub args_at : Words → Read (List Phrase)
args_at ts = mark_at OpenParen ts >>= λ us.
    if starts CloseParen us
    then Ok ([], rest us)
    else (exprs_at us >>= λ es. mark_at CloseParen es.1 >>= λ vs. Ok (es.0, vs))

unfoldable pub entry_at : ℕ → Option (List ℕ) → Way → Words → Read Stmt
entry_at l x h ts = name_at ts >>= λ f. args_at f.1 >>= λ es. mark_at Semicolon es.1 >>= λ vs. Ok (Enters l x h f.0 es.0, vs)

unfoldable pub value_at : ℕ → List ℕ → Words → Read Stmt
value_at l x ts = whole_at ts >>= λ e. mark_at Semicolon e.1 >>= λ vs. Ok (Binds l x e.0, vs)

unfoldable pub read_at : ℕ → List ℕ → Words → Read Stmt
read_at l x ts = name_at ts >>= λ r. mark_at Semicolon r.1 >>= λ vs. Ok (Reads l x r.0, vs)

unfoldable pub bound_at : ℕ → List ℕ → Words → Read Stmt
bound_at l x ts =
    if starts mark.Read ts
    then read_at l x (rest ts)
    else for_some (way_of ts) (value_at l x ts) (λ h. entry_at l (Some x) h (rest ts))

unfoldable pub bind_at : ℕ → List ℕ → Words → Read Stmt
bind_at l x ts = mark_at Assign ts >>= bound_at l x

unfoldable pub update_at : ℕ → Words → Read Stmt
update_at l ts = name_at ts >>= λ r. exprs_at r.1 >>= λ es. mark_at Semicolon es.1 >>= λ vs. Ok (Updates l r.0 es.0, vs)

unfoldable pub return_at : ℕ → Words → Read Stmt
return_at l ts = whole_at ts >>= λ e. mark_at Semicolon e.1 >>= λ vs. Ok (Returns l e.0, vs)

-- a grain, or 1
unfoldable pub grain_at : Words → Read ℕ
grain_at ts = if starts Grain ts then within_at 1 65536 (rest ts) else Ok (1, ts)

-- the two ends of a range
unfoldable pub range_at : Words → Read (Phrase × Phrase)
range_at ts = whole_at ts >>= λ e. mark_at Range e.1 >>= λ us. whole_at us >>= λ f. Ok ((e.0, f.0), f.1)

-- behind a range: the grain, the procedure and the arguments
unfoldable pub iteration_at : ℕ → List ℕ → Phrase × Phrase → Words → Read Stmt
iteration_at l x ends ts =
    grain_at ts >>= λ g. mark_at Colon g.1 >>= λ us. name_at us >>= λ f. args_at f.1 >>= λ es. mark_at Semicolon es.1 >>= λ vs.
    Ok (Loops l x ends.0 ends.1 g.0 f.0 es.0, vs)

unfoldable pub loop_at : ℕ → Words → Read Stmt
loop_at l ts = name_at ts >>= λ x. mark_at In x.1 >>= λ us. range_at us >>= λ r. iteration_at l x.0 r.0 r.1

-- Reads a nested block, from its mark on.
abbrev pub Blocks : Type 0
Blocks = Words → Read (List Stmt)

-- behind a condition and the block for it
unfoldable pub else_at : Blocks → ℕ → Phrase → List Stmt → Words → Read Stmt
else_at block l e a ts =
    if starts Else ts
    then (block (rest ts) >>= λ b. Ok (Tests l e (stmts_of a) (stmts_of b.0), b.1))
    else Ok (Tests l e (stmts_of a) none, ts)

unfoldable pub if_at : Blocks → ℕ → Words → Read Stmt
if_at block l ts = whole_at ts >>= λ e. block e.1 >>= λ a. else_at block l e.0 a.0 a.1

unfoldable pub keyword_at : Blocks → Words → Read Stmt
keyword_at block ts =
    if starts Sync ts then (mark_at Semicolon (rest ts) >>= λ vs. Ok (Syncs (line_of ts), vs))
    else (if starts Update ts then update_at (line_of ts) (rest ts)
    else (if starts If ts then if_at block (line_of ts) (rest ts)
    else (if starts CilkFor ts then loop_at (line_of ts) (rest ts)
    else Err ts)))

unfoldable pub statement_at : Blocks → Words → Read Stmt
statement_at block ts =
    for_some (front_name ts)
    (for_some (way_of ts) (keyword_at block ts) (λ h. entry_at (line_of ts) None h (rest ts)))
    (λ x. bind_at (line_of ts) x (rest ts))

-- neither a block's end nor its return
abbrev pub goes_on : Words → Bool
goes_on ts = not (ended ts) && (not (starts CloseBrace ts) && not (starts Return ts))

unfoldable pub end_at : List Stmt → Words → Read (List Stmt)
end_at ss ts =
    if starts Return ts
    then (return_at (line_of ts) (rest ts) >>= λ r. mark_at CloseBrace r.1 >>= λ vs. Ok (ss ++ r.0 ∷ [], vs))
    else (mark_at CloseBrace ts >>= λ vs. Ok (ss, vs))

unfoldable pub body_at : Blocks → Blocks
body_at block ts = many_at goes_on (statement_at block) ts >>= λ ss. end_at ss.0 ss.1

-- a block, of which so many may be nested in one another
unfoldable pub block_at : ℕ → Blocks
block_at zero ts = over_as [] ts
block_at (suc n) ts = mark_at OpenBrace ts >>= body_at (block_at n)

-- ---- reducers

unfoldable pub comma_number_at : ℕ → Words → Read ℕ
comma_number_at n ts = mark_at Comma ts >>= within_at 0 (n - 1)

-- so many more numbers below n
unfoldable pub more_cells_at : ℕ → ℕ → Words → Read (List ℕ)
more_cells_at n zero ts = Ok ([], ts)
more_cells_at n (suc k) ts = comma_number_at n ts >>= λ x. more_cells_at n k x.1 >>= λ xs. Ok (x.0 ∷ xs.0, xs.1)

unfoldable pub cells_at : ℕ → Words → Read (List ℕ)
cells_at n ts =
    mark_at OpenBracket ts >>= λ us. within_at 0 (n - 1) us >>= λ x. with_front (x.0 ∷ []) (more_cells_at n (n * n - 1) x.1) >>= λ xs.
    mark_at CloseBracket xs.1 >>= λ vs. Ok (xs.0, vs)

-- behind `table`
unfoldable pub table_at : Words → Read WrittenKind
table_at ts =
    within_at 1 16 ts >>= λ n. word_at (codes "unit") n.1 >>= λ us. within_at 0 (n.0 - 1) us >>= λ u. cells_at n.0 u.1 >>= λ xs.
    Ok (kinds.Table n.0 u.0 xs.0, xs.1)

unfoldable pub simple_kind_of : Words → Option WrittenKind
simple_kind_of ts = for_some (front_name ts) None simple_kind

unfoldable pub sized_kind_at : Words → Read WrittenKind
sized_kind_at ts =
    if starts_name (codes "first") ts then (within_at 1 4096 (rest ts) >>= λ n. Ok (kinds.First n.0, n.1))
    else (if starts_name (codes "last") ts then (within_at 1 4096 (rest ts) >>= λ n. Ok (kinds.Last n.0, n.1))
    else (if starts_name (codes "table") ts then table_at (rest ts)
    else Err ts))

unfoldable pub kind_at : Words → Read WrittenKind
kind_at ts = for_some (simple_kind_of ts) (sized_kind_at ts) (λ k. Ok (k, rest ts))

unfoldable pub minus_at : Words → Read ℤ
minus_at ts = within_at 0 most_number ts >>= λ n. Ok (neg_ℤ (pos n.0), n.1)

-- a number, with a minus or without
unfoldable pub signed_at : Words → Read ℤ
signed_at ts =
    if starts Minus ts
    then minus_at (rest ts)
    else (within_at 0 most_number ts >>= λ n. Ok (pos n.0, n.1))

-- behind a number of an initial value, where so many more may come
unfoldable pub more_signed_at : ℕ → Words → Read (List ℤ)
more_signed_at zero ts = if starts Comma ts then over_as [] (rest ts) else Ok ([], ts)
more_signed_at (suc n) ts =
    if starts Comma ts
    then (signed_at (rest ts) >>= λ x. more_signed_at n x.1 >>= λ xs. Ok (x.0 ∷ xs.0, xs.1))
    else Ok ([], ts)

-- behind `from`
unfoldable pub signeds_at : Words → Read (List ℤ)
signeds_at ts = signed_at ts >>= λ x. with_front (x.0 ∷ []) (more_signed_at (most_initial - 1) x.1)

-- behind a kind: the numbers of the initial value
unfoldable pub initial_at : Words → Read (List ℤ)
initial_at ts = if starts_name (codes "from") ts then signeds_at (rest ts) else Ok ([], ts)

-- behind `reducer`
unfoldable pub reducer_at : ℕ → Words → Read Decl
reducer_at l ts =
    name_at ts >>= λ x. mark_at Colon x.1 >>= λ us. kind_at us >>= λ k. initial_at k.1 >>= λ xs. mark_at Semicolon xs.1 >>= λ vs.
    Ok (Reduces l x.0 k.0 xs.0, vs)

-- ---- procedures

-- behind a parameter, where so many more may come
unfoldable pub more_params_at : ℕ → Words → Read (List (List ℕ))
more_params_at zero ts = if starts Comma ts then over_as [] (rest ts) else Ok ([], ts)
more_params_at (suc n) ts =
    if starts Comma ts
    then (name_at (rest ts) >>= λ x. more_params_at n x.1 >>= λ xs. Ok (x.0 ∷ xs.0, xs.1))
    else Ok ([], ts)

unfoldable pub params_at : Words → Read (List (List ℕ))
params_at ts = mark_at OpenParen ts >>= λ us.
    if starts CloseParen us
    then Ok ([], rest us)
    else (name_at us >>= λ x. with_front (x.0 ∷ []) (more_params_at 7 x.1) >>= λ xs. mark_at CloseParen xs.1 >>= λ vs. Ok (xs.0, vs))

-- behind `proc`
unfoldable pub procedure_at : ℕ → Bool → Words → Read Decl
procedure_at l m ts = name_at ts >>= λ f. params_at f.1 >>= λ xs. block_at 32 xs.1 >>= λ ss. Ok (Defines l m f.0 xs.0 ss.0, ss.1)

-- the words in front of a procedure's name, and whether it is marked
unfoldable pub procedure_word_at : Words → Read Bool
procedure_word_at ts =
    if starts Memo ts
    then (mark_at Proc (rest ts) >>= λ us. Ok (true, us))
    else (mark_at Proc ts >>= λ us. Ok (false, us))

abbrev pub starts_procedure : Words → Bool
starts_procedure ts = starts Memo ts || starts Proc ts

-- a declaration and those behind it
abbrev pub and_then : Read Decl → (Words → Read Source) → Read Source
and_then read next = read >>= λ d. next d.1 >>= λ ds. Ok (d.0 ∷ ds.0, ds.1)

-- where one more may come, or none
abbrev pub counted : ℕ → (Words → Read Decl) → (Words → Read Source) → Words → Read Source
counted n item next ts = if nat_lt 0 n then and_then (item ts) next else over_as [] ts

-- the words in front of a procedure's name, the procedure, and those behind it
abbrev pub worded : ℕ → (Words → Read Source) → ℕ → Words → Read Source
worded p next l ts = procedure_word_at ts >>= λ m. counted p (procedure_at l m.0) next m.1

-- where so many more reducers and procedures may come, in at most so many turns
unfoldable pub declarations_at : ℕ → ℕ → ℕ → Words → Read Source
declarations_at zero r p ts = Err ts
declarations_at (suc k) r p ts =
    if starts Reducer ts
    then counted r (reducer_at (line_of ts)) (declarations_at k (r - 1) p) (rest ts)
    else (if starts_procedure ts
    then worded p (declarations_at k r (p - 1)) (line_of ts) ts
    else Ok ([], ts))

unfoldable pub program_at : Words → Read Source
program_at = declarations_at 273 16 256

-- all of the tokens
unfoldable pub text_at : Words → Result Source Words
text_at ts = program_at ts >>= λ ds. if ended ds.1 then Ok ds.0 else Err ds.1
