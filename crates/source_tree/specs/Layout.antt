-- A procedure laid out: its statements numbered, and its blocks in a table, each behind those inside it.
use Rattle.std.specs.Prelude.{ℕ, ◌+◌, List, [], ◌∷◌, ◌++◌, length, map, Option, string_bytes}
use Rattle.meaning.specs.declared.tree.Action.{Action}
use Rattle.meaning.specs.declared.tree.Action.TheVariants as a
use Rattle.meaning.specs.declared.tree.Block.{Block}
use Rattle.meaning.specs.declared.tree.Statement.{Statement}
use Rattle.meaning.specs.declared.tree.Way.{Way}
use Rattle.meaning.specs.Tree.{Name, Term}
use Rattle.meaning.specs.TreeView.{term}
use Rattle.source_tree.specs.Source.{Stmt, Binds, Enters, Reads, Syncs, Updates, Tests, Loops, Returns, Stmts, none, some}
use Rattle.source_tree.specs.Lowering.{numbered, optional, lower_term, lower_terms, line_of_stmt}

-- what a statement does, where a block inside it goes by its number
pub data FlatDeed : Type 0 where
  Bind : ℕ → Term → FlatDeed
  Enter : Option ℕ → Way → Name → List Term → FlatDeed
  Read : ℕ → Name → FlatDeed
  Sync : FlatDeed
  Update : Name → List Term → FlatDeed
  If : Term → ℕ → ℕ → FlatDeed
  Loop : ℕ → Term → Term → ℕ → Name → List Term → FlatDeed
  Return : Term → FlatDeed

-- a block: of each statement its number, its line and what it does
abbrev pub Flat : Type 0
Flat = List (ℕ × ℕ × FlatDeed)

-- the names so far, the number of the last statement, and the blocks that have ended
abbrev pub Made : Type 0
Made = List Name × ℕ × List Flat

-- a statement that holds no block
abbrev pub laid_plain : List Name → Stmt → List Name × FlatDeed
laid_plain pool (Binds l x e) = let n = numbered pool x in let t = lower_term n.0 e in (t.0, Bind n.1 t.1)
laid_plain pool (Enters l x h f es) = let n = optional pool x in let ts = lower_terms (n.0, []) es in (ts.0, Enter n.1 h f ts.1)
laid_plain pool (Reads l x r) = let n = numbered pool x in (n.0, Read n.1 r)
laid_plain pool (Syncs l) = (pool, Sync)
laid_plain pool (Updates l r es) = let ts = lower_terms (pool, []) es in (ts.0, Update r ts.1)
laid_plain pool (Tests l e a b) = (pool, Sync)
laid_plain pool (Loops l x e f g h es) =
    let n = numbered pool x in
    let s = lower_term n.0 e in
    let t = lower_term s.0 f in
    let ts = lower_terms (t.0, []) es in
    (ts.0, Loop n.1 s.1 t.1 g h ts.1)
laid_plain pool (Returns l e) = let t = lower_term pool e in (t.0, Return t.1)

abbrev pub with_plain : Made → List Name × FlatDeed → Made × FlatDeed
with_plain m p = ((p.0, m.1, m.2), p.1)

-- a block that has ended goes last; its number counts the procedure's own block, which is number 0
abbrev pub ended : Made × Flat → Made × ℕ
ended d = ((d.0.0, d.0.1, d.0.2 ++ d.1 ∷ []), length d.0.2 + 1)

abbrev mutual
  pub laid_deed : Made → Stmt → Made × FlatDeed
  laid_deed m (Binds l x e) = with_plain m (laid_plain m.0 (Binds l x e))
  laid_deed m (Enters l x h f es) = with_plain m (laid_plain m.0 (Enters l x h f es))
  laid_deed m (Reads l x r) = with_plain m (laid_plain m.0 (Reads l x r))
  laid_deed m (Syncs l) = with_plain m (laid_plain m.0 (Syncs l))
  laid_deed m (Updates l r es) = with_plain m (laid_plain m.0 (Updates l r es))
  laid_deed m (Tests l e a b) =
      let t = lower_term m.0 e in
      let f = ended (laid ((t.0, m.1, m.2), []) a) in
      let g = ended (laid (f.0, []) b) in
      (g.0, If t.1 f.1 g.1)
  laid_deed m (Loops l x e f g h es) = with_plain m (laid_plain m.0 (Loops l x e f g h es))
  laid_deed m (Returns l e) = with_plain m (laid_plain m.0 (Returns l e))

  -- the statements behind those that are there
  pub laid : Made × Flat → Stmts → Made × Flat
  laid done none = done
  laid done (some s ss) =
      let d = laid_deed (done.0.0, done.0.1 + 1, done.0.2) s in
      laid (d.0, done.1 ++ (done.0.1 + 1, line_of_stmt s, d.1) ∷ []) ss

-- a block and its number
abbrev pub laid_block : Made → Stmts → Made × ℕ
laid_block m ss = ended (laid (m, []) ss)

-- the names of a procedure with these parameters and statements, and its table of blocks: its own block stands first
abbrev pub laid_procedure : List Name → Stmts → List Name × List Flat
laid_procedure xs ss = let done = laid ((xs, 0, []), []) ss in (done.0.0, done.1 ∷ done.0.2)

-- ---- what code has made

abbrev pub flat_deed : Action → FlatDeed
flat_deed (a.Bind n x) = Bind n (term x)
flat_deed (a.Enter n way f xs) = Enter n way (string_bytes f) (map term xs.items)
flat_deed (a.Read n r) = Read n (string_bytes r)
flat_deed a.Sync = Sync
flat_deed (a.Update r xs) = Update (string_bytes r) (map term xs.items)
flat_deed (a.If x b c) = If (term x) b c
flat_deed (a.Loop n low high grain f xs) = Loop n (term low) (term high) grain (string_bytes f) (map term xs.items)
flat_deed (a.Return x) = Return (term x)

abbrev pub entry : Statement → ℕ × ℕ × FlatDeed
entry s = (s.number, s.line, flat_deed s.action)

abbrev pub entries : List Statement → Flat
entries ss = map entry ss

abbrev pub flat : Block → Flat
flat b = entries b.statements.items

abbrev pub flats : List Block → List Flat
flats bs = map flat bs
