-- A procedure laid out: following the numbers of its blocks gives the lowered procedure back, and its lines are those of the source.
use Rattle.std.proofs.Common.{◌≡◌, ℕ, zero, suc, ◌+◌, ◌<◌, ◌≤◌, List, [], ◌∷◌, ◌++◌, length, Option, Some, None, refl, sym, ap, subst, ◌∙◌, arith, append_assoc}
use Rattle.std.specs.Prelude.{slice_get}
use Rattle.std.proofs.lemmas.List.{append-nil, length-append, length-map}
use Rattle.meaning.specs.declared.tree.Action.{Action}
use Rattle.meaning.specs.declared.tree.Action.TheVariants as a
use Rattle.meaning.specs.declared.tree.Statement.{Statement}
use Rattle.meaning.specs.declared.tree.Block.{Block}
use Rattle.meaning.specs.Tree.{Name, Deed, bind, enter, read, sync, update, choose, loop, give, Body, end, step}
use Rattle.meaning.specs.TreeView.{deed, statements, statements_of, block, statement_lines, block_lines}
use Rattle.source_tree.specs.Source.{Stmt, Binds, Enters, Reads, Syncs, Updates, Tests, Loops, Returns, Stmts, none, some}
use Rattle.source_tree.specs.Lowering.{Walk, lower_term, lower_deed, lower_body, line_of_stmt, count, count_all, own_lines, inner_lines, inside_lines, body_lines}
use Rattle.source_tree.specs.Layout.{FlatDeed, Bind, Enter, Read, Sync, Update, If, Loop, Return, Flat, Made, laid_deed, laid, flat_deed, entries, flat, flats, laid_procedure}

-- ---- what a table of blocks stands for

abbrev deed_of_flat : (ℕ → Body) → FlatDeed → Deed
deed_of_flat inner (Bind n t) = bind n t
deed_of_flat inner (Enter n h f ts) = enter n h f ts
deed_of_flat inner (Read n r) = read n r
deed_of_flat inner Sync = sync
deed_of_flat inner (Update r ts) = update r ts
deed_of_flat inner (If t b c) = choose t (inner b) (inner c)
deed_of_flat inner (Loop n s t g f ts) = loop n s t g f ts
deed_of_flat inner (Return t) = give t

abbrev flat_body : (ℕ → Body) → Flat → Body
flat_body inner [] = end
flat_body inner (x ∷ xs) = step x.0 (deed_of_flat inner x.2) (flat_body inner xs)

abbrev flat_of : (ℕ → Body) → Option Flat → Body
flat_of inner None = end
flat_of inner (Some f) = flat_body inner f

abbrev flat_block : List Flat → ℕ → ℕ → Body
flat_block t zero n = end
flat_block t (suc levels) n = flat_of (flat_block t levels) (slice_get t n)

abbrev flat_lines : Flat → List (ℕ × ℕ)
flat_lines [] = []
flat_lines (x ∷ xs) = (x.0, x.1) ∷ flat_lines xs

abbrev table_lines : List Flat → List (ℕ × ℕ)
table_lines [] = []
table_lines (f ∷ fs) = flat_lines f ++ table_lines fs

module _ (inner other : ℕ → Body) (same : (n : ℕ) → inner n ≡ other n) where
  deed_flat : (x : Action) → deed inner x ≡ deed_of_flat other (flat_deed x)
  deed_flat (a.Bind n x) = refl
  deed_flat (a.Enter n way f xs) = refl
  deed_flat (a.Read n r) = refl
  deed_flat a.Sync = refl
  deed_flat (a.Update r xs) = refl
  deed_flat (a.If x b c) = rw (same b, same c) refl
  deed_flat (a.Loop n low high grain f xs) = refl
  deed_flat (a.Return x) = refl

  body_flat : (ss : List Statement) → statements inner ss ≡ flat_body other (entries ss)
  body_flat [] = refl
  body_flat (s ∷ ss) = rw (deed_flat s.action, body_flat ss) refl

  found_flat : (bs : List Block) (n : ℕ) → statements_of inner (slice_get bs n) ≡ flat_of other (slice_get (flats bs) n)
  found_flat [] n = refl
  found_flat (b ∷ bs) zero = body_flat b.statements.items
  found_flat (b ∷ bs) (suc n) = found_flat bs n

block_flat : (bs : List Block) (levels n : ℕ) → block bs levels n ≡ flat_block (flats bs) levels n
block_flat bs zero n = refl
block_flat bs (suc levels) n = found_flat (block bs levels) (flat_block (flats bs) levels) (block_flat bs levels) bs n

statement_lines_flat : (ss : List Statement) → statement_lines ss ≡ flat_lines (entries ss)
statement_lines_flat [] = refl
statement_lines_flat (s ∷ ss) = ap (λ (xs : List (ℕ × ℕ)). (s.number, s.line) ∷ xs) (statement_lines_flat ss)

lines_flat : (bs : List Block) → block_lines bs ≡ table_lines (flats bs)
lines_flat [] = refl
lines_flat (b ∷ bs) = rw (statement_lines_flat b.statements.items, lines_flat bs) refl

-- ---- tables

table_append : (xs ys : List Flat) → table_lines (xs ++ ys) ≡ table_lines xs ++ table_lines ys
table_append [] ys = refl
table_append (x ∷ xs) ys = rw (table_append xs ys) (sym (append_assoc (flat_lines x) (table_lines xs) (table_lines ys)))

table_last : (xs : List Flat) (f : Flat) → table_lines (xs ++ f ∷ []) ≡ table_lines xs ++ flat_lines f
table_last xs f = table_append xs (f ∷ []) ∙ ap (λ (zs : List (ℕ × ℕ)). table_lines xs ++ zs) (append-nil (flat_lines f))

get_behind : (xs ys : List Flat) (y : Flat) → slice_get (xs ++ y ∷ ys) (length xs) ≡ Some y
get_behind [] ys y = refl
get_behind (x ∷ xs) ys y = get_behind xs ys y

-- the block of a number
block_in : (own : Flat) (t xs ys : List Flat) (y : Flat) (levels : ℕ) (b : Body) → t ≡ own ∷ xs ++ (y ∷ ys) → length xs < levels → ((k : ℕ) → length xs ≤ k → flat_body (flat_block (own ∷ xs ++ (y ∷ ys)) k) y ≡ b) → flat_block t levels (length xs + 1) ≡ b
block_in own t xs ys y zero b e lt does = absurd (omega (arith, lt))
block_in own t xs ys y (suc levels) b e lt does =
    let n : length xs + 1 ≡ suc (length xs) = omega arith in
    let g : slice_get (xs ++ (y ∷ ys)) (length xs) ≡ Some y = get_behind xs ys y in
    subst (λ (z : List Flat). flat_block z (suc levels) (length xs + 1) ≡ b) (sym e) (rw (n, g) (does levels (omega (arith, lt))))

-- ---- laying out

-- statements are put behind those that are there
laid_front : (m : Made) (done : Flat) (ss : Stmts) → laid (m, done) ss ≡ ((laid (m, []) ss).0, done ++ (laid (m, []) ss).1)
laid_front m done none = ap (λ (f : Flat). (m, f)) (sym (append-nil done))
laid_front m done (some s ss) =
    let d = laid_deed (m.0, m.1 + 1, m.2) s in
    let x : ℕ × ℕ × FlatDeed = (m.1 + 1, line_of_stmt s, d.1) in
    let h = laid_front d.0 (done ++ x ∷ []) ss in
    let k = laid_front d.0 (x ∷ []) ss in
    rw (h, k) (ap (λ (f : Flat). ((laid (d.0, []) ss).0, f)) (append_assoc done (x ∷ []) (laid (d.0, []) ss).1))

-- what laying out a statement comes to, against its lowering
record DeedRight (m : Made) (s : Stmt) (out : Made × FlatDeed) (to : Walk × Deed) : Type 0 where
  walk : (out.0.0, out.0.1) ≡ to.0
  last : out.0.1 + 1 ≡ m.1 + count s
  new : List Flat
  grown : out.0.2 ≡ m.2 ++ new
  lines : table_lines new ≡ inner_lines m.1 s
  does : (own : Flat) (more : List Flat) (levels : ℕ) → length out.0.2 ≤ levels → deed_of_flat (flat_block (own ∷ out.0.2 ++ more) levels) out.1 ≡ to.1

record BodyRight (m : Made) (ss : Stmts) (out : Made × Flat) (to : Walk × Body) : Type 0 where
  walk : (out.0.0, out.0.1) ≡ to.0
  last : out.0.1 ≡ m.1 + count_all ss
  new : List Flat
  grown : out.0.2 ≡ m.2 ++ new
  lines : table_lines new ≡ inside_lines m.1 ss
  own_are : flat_lines out.1 ≡ own_lines m.1 ss
  does : (own : Flat) (more : List Flat) (levels : ℕ) → length out.0.2 ≤ levels → flat_body (flat_block (own ∷ out.0.2 ++ more) levels) out.1 ≡ to.1

-- a statement without blocks inside
plain_right : (m : Made) (s : Stmt) (pool : List Name) (x : FlatDeed) (y : Deed) → count s ≡ 1 → inner_lines m.1 s ≡ [] → ((inner : ℕ → Body) → deed_of_flat inner x ≡ y) → DeedRight m s ((pool, m.1, m.2), x) ((pool, m.1), y)
plain_right m s pool x y one without does = record {
  walk = refl;
  last = rw one refl;
  new = [];
  grown = sym (append-nil m.2);
  lines = sym without;
  does = λ own more levels le. does _;
}

-- an `if`, from its blocks
tests_right : (m : Made) (l : ℕ) (e : _) (b c : Stmts) (ra rb : Made × Flat) (pool : List Name) (t : _) (p q : Walk × Body) → BodyRight (pool, m.1, m.2) b ra p → BodyRight (ra.0.0, ra.0.1, ra.0.2 ++ ra.1 ∷ []) c rb q → DeedRight m (Tests l e b c) ((rb.0.0, rb.0.1, rb.0.2 ++ rb.1 ∷ []), If t (length ra.0.2 + 1) (length rb.0.2 + 1)) (q.0, choose t p.1 q.1)
tests_right m l e b c ra rb pool t p q f g =
    let second : rb.0.2 ≡ ra.0.2 ++ (ra.1 ∷ g.new) = g.grown ∙ append_assoc ra.0.2 (ra.1 ∷ []) g.new in
    record {
      walk = g.walk;
      last = let x = f.last in let y = g.last in omega (arith, x, y);
      new = (f.new ++ ra.1 ∷ []) ++ (g.new ++ rb.1 ∷ []);
      grown =
          rw (g.grown, f.grown)
          (append_assoc ((m.2 ++ f.new) ++ ra.1 ∷ []) g.new (rb.1 ∷ [])
          ∙ ap (λ (z : List Flat). z ++ (g.new ++ rb.1 ∷ [])) (append_assoc m.2 f.new (ra.1 ∷ []))
          ∙ append_assoc m.2 (f.new ++ ra.1 ∷ []) (g.new ++ rb.1 ∷ []));
      lines =
          let n : ra.0.1 ≡ m.1 + count_all b = f.last in
          let x : table_lines (f.new ++ ra.1 ∷ []) ≡ inside_lines m.1 b ++ own_lines m.1 b = table_last f.new ra.1 ∙ rw (f.lines, f.own_are) refl in
          let y : table_lines (g.new ++ rb.1 ∷ []) ≡ inside_lines (m.1 + count_all b) c ++ own_lines (m.1 + count_all b) c = table_last g.new rb.1 ∙ rw (g.lines, g.own_are, n) refl in
          table_append (f.new ++ ra.1 ∷ []) (g.new ++ rb.1 ∷ []) ∙ rw (x, y) refl;
      does = λ own more levels le.
          let n : length (rb.0.2 ++ rb.1 ∷ []) ≡ length rb.0.2 + 1 = length-append rb.0.2 (rb.1 ∷ []) in
          let k : length rb.0.2 ≡ length ra.0.2 + suc (length g.new) = ap (λ (z : List Flat). length z) second ∙ length-append ra.0.2 (ra.1 ∷ g.new) in
          let all = own ∷ (rb.0.2 ++ rb.1 ∷ []) ++ more in
          let there : all ≡ own ∷ rb.0.2 ++ (rb.1 ∷ more) = ap (λ (z : List Flat). own ∷ z) (append_assoc rb.0.2 (rb.1 ∷ []) more) in
          let here : all ≡ own ∷ ra.0.2 ++ (ra.1 ∷ (g.new ++ (rb.1 ∷ more))) =
          there ∙ ap (λ (z : List Flat). own ∷ z ++ (rb.1 ∷ more)) second ∙ ap (λ (z : List Flat). own ∷ z) (append_assoc ra.0.2 (ra.1 ∷ g.new) (rb.1 ∷ more)) in
          let first = block_in own all ra.0.2 (g.new ++ (rb.1 ∷ more)) ra.1 levels p.1 here (omega (arith, n, k, le)) (λ j h. f.does own (ra.1 ∷ (g.new ++ (rb.1 ∷ more))) j h) in
          let behind = block_in own all rb.0.2 more rb.1 levels q.1 there (omega (arith, n, le)) (λ j h. g.does own (rb.1 ∷ more) j h) in
          rw (first, behind) refl;
    }

-- a block, from its first statement and the others
some_right : (m : Made) (s : Stmt) (ss : Stmts) (d : Made × FlatDeed) (r : Made × Flat) (p : Walk × Deed) (q : Walk × Body) → DeedRight (m.0, m.1 + 1, m.2) s d p → BodyRight d.0 ss r q → BodyRight m (some s ss) (r.0, (m.1 + 1, line_of_stmt s, d.1) ∷ r.1) (q.0, step (m.1 + 1) p.1 q.1)
some_right m s ss d r p q f g =
    let n : d.0.1 ≡ m.1 + count s = let x = f.last in omega (arith, x) in
    record {
      walk = g.walk;
      last = let y = g.last in omega (arith, n, y);
      new = f.new ++ g.new;
      grown = rw (g.grown, f.grown) (append_assoc m.2 f.new g.new);
      lines = table_append f.new g.new ∙ rw (f.lines, g.lines, n) refl;
      own_are = rw (g.own_are, n) refl;
      does = λ own more levels le.
          let k : length r.0.2 ≡ length d.0.2 + length g.new = ap (λ (z : List Flat). length z) g.grown ∙ length-append d.0.2 g.new in
          let all : own ∷ r.0.2 ++ more ≡ own ∷ d.0.2 ++ (g.new ++ more) = ap (λ (z : List Flat). own ∷ z ++ more) g.grown ∙ ap (λ (z : List Flat). own ∷ z) (append_assoc d.0.2 g.new more) in
          let first : deed_of_flat (flat_block (own ∷ r.0.2 ++ more) levels) d.1 ≡ p.1 = rw all (f.does own (g.new ++ more) levels (omega (arith, k, le))) in
          rw (first, g.does own more levels le) refl;
    }

mutual
  deed_right : (m : Made) (s : Stmt) → DeedRight m s (laid_deed m s) (lower_deed (m.0, m.1) s)
  deed_right m (Binds l x e) = plain_right m (Binds l x e) _ _ _ refl refl (λ inner. refl)
  deed_right m (Enters l x h f es) = plain_right m (Enters l x h f es) _ _ _ refl refl (λ inner. refl)
  deed_right m (Reads l x r) = plain_right m (Reads l x r) _ _ _ refl refl (λ inner. refl)
  deed_right m (Syncs l) = plain_right m (Syncs l) _ _ _ refl refl (λ inner. refl)
  deed_right m (Updates l r es) = plain_right m (Updates l r es) _ _ _ refl refl (λ inner. refl)
  deed_right m (Tests l e b c) =
      let t = lower_term m.0 e in
      let f = body_right (t.0, m.1, m.2) b in
      let ra = laid ((t.0, m.1, m.2), []) b in
      let g = body_right (ra.0.0, ra.0.1, ra.0.2 ++ ra.1 ∷ []) c in
      let rb = laid ((ra.0.0, ra.0.1, ra.0.2 ++ ra.1 ∷ []), []) c in
      let p = lower_body (t.0, m.1) b in
      tests_right m l e b c ra rb t.0 t.1 p (lower_body p.0 c) f (subst (λ (w : Walk). BodyRight (ra.0.0, ra.0.1, ra.0.2 ++ ra.1 ∷ []) c rb (lower_body w c)) f.walk g)
  deed_right m (Loops l x e f g h es) = plain_right m (Loops l x e f g h es) _ _ _ refl refl (λ inner. refl)
  deed_right m (Returns l e) = plain_right m (Returns l e) _ _ _ refl refl (λ inner. refl)

  body_right : (m : Made) (ss : Stmts) → BodyRight m ss (laid (m, []) ss) (lower_body (m.0, m.1) ss)
  body_right m none = record {
    walk = refl;
    last = omega arith;
    new = [];
    grown = sym (append-nil m.2);
    lines = refl;
    own_are = refl;
    does = λ own more levels le. refl;
  }
  body_right m (some s ss) =
      let d = laid_deed (m.0, m.1 + 1, m.2) s in
      let p = lower_deed (m.0, m.1 + 1) s in
      let f = deed_right (m.0, m.1 + 1, m.2) s in
      let g = subst (λ (w : Walk). BodyRight d.0 ss (laid (d.0, []) ss) (lower_body w ss)) f.walk (body_right d.0 ss) in
      let e = laid_front d.0 ((m.1 + 1, line_of_stmt s, d.1) ∷ []) ss in
      subst (λ (z : Made × Flat). BodyRight m (some s ss) z (lower_body (m.0, m.1) (some s ss))) (sym e) (some_right m s ss d (laid (d.0, []) ss) p (lower_body p.0 ss) f g)

-- ---- procedures

-- the names, the body and the lines of a procedure whose blocks are laid out
pub layout_names : (xs pool : List Name) (t : List Flat) (ss : Stmts) → (pool, t) ≡ laid_procedure xs ss → pool ≡ (lower_body (xs, 0) ss).0.0
layout_names xs pool t ss e = ap (λ (z : List Name × List Flat). z.0) e ∙ ap (λ (w : Walk). w.0) (body_right (xs, 0, []) ss).walk

layout_table : (xs : List Name) (ss : Stmts) → flat_block (laid_procedure xs ss).1 (length (laid_procedure xs ss).1) 0 ≡ (lower_body (xs, 0) ss).1
layout_table xs ss =
    let r = laid ((xs, 0, []), []) ss in
    let f = body_right (xs, 0, []) ss in
    subst (λ (z : List Flat). flat_body (flat_block (r.1 ∷ z) (length r.0.2)) r.1 ≡ (lower_body (xs, 0) ss).1) (append-nil r.0.2) (f.does r.1 [] (length r.0.2) (omega arith))

pub layout_body : (xs pool : List Name) (bs : List Block) (ss : Stmts) → (pool, flats bs) ≡ laid_procedure xs ss → block bs (length bs) 0 ≡ (lower_body (xs, 0) ss).1
layout_body xs pool bs ss e =
    let t : flats bs ≡ (laid_procedure xs ss).1 = ap (λ (z : List Name × List Flat). z.1) e in
    let n : length bs ≡ length (flats bs) = sym (length-map bs flat) in
    block_flat bs (length bs) 0 ∙ rw (n, t) (layout_table xs ss)

pub layout_lines : (xs pool : List Name) (bs : List Block) (ss : Stmts) → (pool, flats bs) ≡ laid_procedure xs ss → block_lines bs ≡ body_lines ss
layout_lines xs pool bs ss e =
    let t : flats bs ≡ (laid_procedure xs ss).1 = ap (λ (z : List Name × List Flat). z.1) e in
    let f = body_right (xs, 0, []) ss in
    let g : (laid ((xs, 0, []), []) ss).0.2 ≡ f.new = f.grown in
    lines_flat bs ∙ rw t (rw (g, f.own_are, f.lines) refl)

-- ---- the same table

pub same_body : (bs cs : List Block) → flats bs ≡ flats cs → block bs (length bs) 0 ≡ block cs (length cs) 0
same_body bs cs e =
    let n : length bs ≡ length (flats bs) = sym (length-map bs flat) in
    let m : length cs ≡ length (flats cs) = sym (length-map cs flat) in
    block_flat bs (length bs) 0 ∙ rw (n, e, ← m) (sym (block_flat cs (length cs) 0))

pub same_block_lines : (bs cs : List Block) → flats bs ≡ flats cs → block_lines bs ≡ block_lines cs
same_block_lines bs cs e = lines_flat bs ∙ ap table_lines e ∙ sym (lines_flat cs)
