-- From a source tree to the tree of a program: variables become numbers, statements are numbered, blocks are laid out.
use Rattle.std.specs.Prelude.{ℕ, ℤ, suc, ◌+◌, ◌≤◌, List, [], ◌∷◌, ◌++◌, length, map, Option, Some, None, bytes_eq, if◌then◌else◌, Bool}
use Rattle.std.specs.Option.{option_map}
use Rattle.token_scanner.specs.Words.{for_some}
use Rattle.meaning.specs.Tree.{Name, Term, number, name, cell, has, limit, sum, negate, binary, Deed, bind, enter, read, sync}
use Rattle.meaning.specs.Tree.{update, choose, loop, give, Body, end, step, Proc, Tree}
use Rattle.meaning.specs.Tree as plain
use Rattle.meaning.specs.TreeView.{Lined}
use Rattle.source_tree.specs.Kinds.{WrittenKind, written}
use Rattle.source_tree.specs.Source.{Phrase, Num, Var, Cell, Has, Limit, Sum, Neg, Bin, Stmt, Binds, Enters, Reads, Syncs, Updates, Tests}
use Rattle.source_tree.specs.Source.{Loops, Returns, Stmts, none, some, stmts_of, Decl, Reduces, Defines, Source}
use Rattle.token_scanner.specs.Scanning.{longest_text}

-- the greatest number of statements of a text: each takes a byte of it at least
abbrev pub most_statements : ℕ
most_statements = longest_text

-- ---- variables

-- the first index of a name in a list, where it is there
abbrev pub found_index : Name → List Name → Option ℕ
found_index x [] = None
found_index x (y ∷ ys) = if bytes_eq x y then Some 0 else option_map (λ n. suc n) (found_index x ys)

-- the indices of names, with that of one more, where it has none
abbrev pub with_index : (Name → Option ℕ) → Name → ℕ → Name → Option ℕ
with_index places y n x = for_some (places x) (if bytes_eq x y then Some n else None) (λ k. Some k)

-- the number of a name in a pool, where a new one is put last
abbrev pub numbered : List Name → Name → List Name × ℕ
numbered pool x = for_some (found_index x pool) (pool ++ x ∷ [], length pool) (λ n. (pool, n))

abbrev pub lower_term : List Name → Phrase → List Name × Term
lower_term pool (Num n) = (pool, number n)
lower_term pool (Var x) = let n = numbered pool x in (n.0, name n.1)
lower_term pool (Cell t e c) = let s = lower_term pool e in (s.0, cell t s.1 c)
lower_term pool (Has t e) = let s = lower_term pool e in (s.0, has t s.1)
lower_term pool (Limit t) = (pool, limit t)
lower_term pool (Sum t c) = (pool, sum t c)
lower_term pool (Neg e) = let t = lower_term pool e in (t.0, negate t.1)
lower_term pool (Bin o a b) = let s = lower_term pool a in let t = lower_term s.0 b in (t.0, binary o s.1 t.1)

abbrev pub lower_terms : List Name × List Term → List Phrase → List Name × List Term
lower_terms done [] = done
lower_terms done (e ∷ es) = let t = lower_term done.0 e in lower_terms (t.0, done.1 ++ t.1 ∷ []) es

abbrev pub optional : List Name → Option Name → List Name × Option ℕ
optional pool None = (pool, None)
optional pool (Some x) = let n = numbered pool x in (n.0, Some n.1)

-- ---- statements

-- the names so far, and the number of the last statement
abbrev pub Walk : Type 0
Walk = List Name × ℕ

abbrev mutual
  -- behind a statement, and what it does
  pub lower_deed : Walk → Stmt → Walk × Deed
  lower_deed w (Binds l x e) = let n = numbered w.0 x in let t = lower_term n.0 e in ((t.0, w.1), bind n.1 t.1)
  lower_deed w (Enters l x h f es) = let n = optional w.0 x in let ts = lower_terms (n.0, []) es in ((ts.0, w.1), enter n.1 h f ts.1)
  lower_deed w (Reads l x r) = let n = numbered w.0 x in ((n.0, w.1), read n.1 r)
  lower_deed w (Syncs l) = (w, sync)
  lower_deed w (Updates l r es) = let ts = lower_terms (w.0, []) es in ((ts.0, w.1), update r ts.1)
  lower_deed w (Tests l e a b) = let t = lower_term w.0 e in let f = lower_body (t.0, w.1) a in let g = lower_body f.0 b in (g.0, choose t.1 f.1 g.1)
  lower_deed w (Loops l x e f g h es) =
      let n = numbered w.0 x in
      let s = lower_term n.0 e in
      let t = lower_term s.0 f in
      let ts = lower_terms (t.0, []) es in
      ((ts.0, w.1), loop n.1 s.1 t.1 g h ts.1)
  lower_deed w (Returns l e) = let t = lower_term w.0 e in ((t.0, w.1), give t.1)

  -- behind a block, and the block: statements are numbered in the order of the text
  pub lower_body : Walk → Stmts → Walk × Body
  lower_body w none = (w, end)
  lower_body w (some s ss) =
      let d = lower_deed (w.0, w.1 + 1) s in
      let b = lower_body d.0 ss in
      (b.0, step (w.1 + 1) d.1 b.1)

-- ---- declarations

-- a declaration of a program's tree, with a reducer's kind as it is written
pub data Lowered : Type 0 where
  reducer : Name → WrittenKind → List ℤ → Lowered
  procedure : Proc → Lowered

abbrev pub lowered_decl : plain.Decl → Lowered
lowered_decl (plain.reducer r) = reducer r.called (written r.kind) r.initial
lowered_decl (plain.procedure p) = procedure p

-- a program's tree so
abbrev pub lowered_tree : Tree → List Lowered
lowered_tree ds = map lowered_decl ds

abbrev pub lower_proc : Bool → Name → List Name → List Stmt → Proc
lower_proc memo f xs ss =
    let done = lower_body (xs, 0) (stmts_of ss) in
    record { called = f; memo = memo; parameters = length xs; names = done.0.0; body = done.1 }

abbrev pub lower_decl : Decl → Lowered
lower_decl (Reduces l x k vs) = reducer x k vs
lower_decl (Defines l m f xs ss) = procedure (lower_proc m f xs ss)

abbrev pub lowered : Source → List Lowered
lowered ds = map lower_decl ds

-- ---- lines

abbrev pub line_of_stmt : Stmt → ℕ
line_of_stmt (Binds l x e) = l
line_of_stmt (Enters l x w f es) = l
line_of_stmt (Reads l x r) = l
line_of_stmt (Syncs l) = l
line_of_stmt (Updates l r es) = l
line_of_stmt (Tests l e a b) = l
line_of_stmt (Loops l x e f g h es) = l
line_of_stmt (Returns l e) = l

abbrev mutual
  -- how many statements there are, those inside counted
  pub count : Stmt → ℕ
  count (Tests l e a b) = count_all a + count_all b + 1
  count s = 1

  pub count_all : Stmts → ℕ
  count_all none = 0
  count_all (some s ss) = count s + count_all ss

-- the numbers of a block's own statements with their lines, behind a number
abbrev pub own_lines : ℕ → Stmts → List (ℕ × ℕ)
own_lines n none = []
own_lines n (some s ss) = (n + 1, line_of_stmt s) ∷ own_lines (n + count s) ss

abbrev mutual
  -- those of the blocks inside a statement, each block behind those inside it
  pub inner_lines : ℕ → Stmt → List (ℕ × ℕ)
  inner_lines n (Tests l e a b) = (inside_lines n a ++ own_lines n a) ++ (inside_lines (n + count_all a) b ++ own_lines (n + count_all a) b)
  inner_lines n s = []

  pub inside_lines : ℕ → Stmts → List (ℕ × ℕ)
  inside_lines n none = []
  inside_lines n (some s ss) = inner_lines (n + 1) s ++ inside_lines (n + count s) ss

-- the numbers of a procedure's statements with their lines
abbrev pub body_lines : Stmts → List (ℕ × ℕ)
body_lines ss = own_lines 0 ss ++ inside_lines 0 ss

abbrev pub lined_decl : Decl → Lined
lined_decl (Reduces l x k vs) = record { line = l; statements = [] }
lined_decl (Defines l m f xs ss) = record { line = l; statements = body_lines (stmts_of ss) }

abbrev pub lines_of : Source → List Lined
lines_of ds = map lined_decl ds

-- how many statements a declaration has
abbrev pub body_len : Decl → ℕ
body_len (Reduces l x k vs) = 0
body_len (Defines l m f xs ss) = count_all (stmts_of ss)

-- no procedure has more statements
abbrev pub BodiesWithin : ℕ → Source → Type 0
BodiesWithin n [] = Unit {0}
BodiesWithin n (d ∷ ds) = (body_len d ≤ n) × BodiesWithin n ds
