-- Statements that a text has are printed as tokens that are read as statements that do the same.
use Rattle.std.proofs.Common.{◌≡◌, ℕ, zero, suc, ◌+◌, ◌≤◌, List, [], ◌∷◌, ◌++◌, pos, Some, None, refl, sym, ap, subst, ◌∙◌, arith}
use Rattle.std.proofs.lemmas.List.{append-nil}
use Rattle.token_scanner.specs.declared.token.Mark.TheVariants as mark
use Rattle.token_scanner.specs.Words.{Word, Words, Name, Number, Sign, Over}
use Rattle.meaning.specs.declared.tree.Way.{Way}
use Rattle.meaning.specs.declared.tree.Way.TheVariants as way
use Rattle.source_tree.specs.Source.{Phrase, Stmt, Binds, Enters, Reads, Syncs, Updates, Tests, Loops, Returns, Stmts, none, stmts_of}
use Rattle.source_tree.specs.Lowering.{Walk, lower_deed, lower_body, lower_term}
use Rattle.procedure_parser.specs.Grammar.{Form, Many, nil, cons, Whole, Exprs, Args, EnterWord, calls, spawns, Entry, entry, Within, within, Grained, no_grain, grained, Ranged, ranged, Statement, binds, binds_entry, binds_read, enters, syncs, updates, tests, tests_else, loops, Block}
use Rattle.procedure_parser.specs.Grammar as grammar
use Rattle.program_printer.specs.Tokens.{AllTokens, bare}
use Rattle.program_printer.specs.Printing.{way_mark}
use Rattle.printing_theory.proofs.Read.{AllRead}
use Rattle.printing_theory.proofs.Said.{phrase_words, phrases_words, args_words, called_words, stmt_words, stmts_words}
use Rattle.printing_theory.proofs.Phrases.{at_word}
use Rattle.printing_theory.proofs.Parts.{whole_prints, exprs_print, args_print, called_tokens, entry_again}

-- tokens begin with one that is like x, and behind it come those with these words
pub record Found {A : Type 0} (R : Form A) (Same : A → A → Type 0) (x : A) (ws : List Word) (vs : Words) : Type 0 where
  pub one : A
  pub rest : Words
  pub behind : bare rest ≡ ws
  pub holds : R one vs rest
  pub same : Same x one

pub record Reprints {A : Type 0} (R : Form A) (say : A → List Word → List Word) (Same : A → A → Type 0) (x : A) (us : Words) : Type 0 where
  pub left : AllRead us
  pub tokens : (ws : List Word) → AllTokens ws → AllTokens (say x ws)
  pub again : (vs : Words) (ws : List Word) → bare vs ≡ say x ws → Found R Same x ws vs

-- statements that do the same
abbrev pub SameStmt : Stmt → Stmt → Type 0
SameStmt s y = (w : Walk) → lower_deed w y ≡ lower_deed w s

-- those that do the same, whatever comes behind
abbrev pub SameTail : List Stmt → List Stmt → Type 0
SameTail a b = (w : Walk) → lower_body w (stmts_of b) ≡ lower_body w (stmts_of a)

abbrev pub SameStmts : List Stmt → List Stmt → Type 0
SameStmts ss ys = (a b : List Stmt) → SameTail a b → SameTail (ss ++ a) (ys ++ b)

-- a block with its marks
abbrev pub block_said : List Stmt → List Word → List Word
block_said ss ws = Sign mark.OpenBrace ∷ stmts_words (stmts_of ss) (Sign mark.CloseBrace ∷ ws)

abbrev pub list_said : List Stmt → List Word → List Word
list_said ss ws = stmts_words (stmts_of ss) ws

tests_same : (l k : ℕ) (e : Phrase) (a b c d : Stmts) → ((w : Walk) → lower_body w b ≡ lower_body w a) → ((w : Walk) → lower_body w d ≡ lower_body w c) → SameStmt (Tests l e a c) (Tests k e b d)
tests_same l k e a b c d p q w =
    let v : Walk = ((lower_term w.0 e).0, w.1) in
    rw (p v, q (lower_body v a).0) refl

module _ (block : Form (List Stmt)) (prints : (ss : List Stmt) (ts us : Words) → AllRead ts → block ss ts us → Reprints block block_said SameTail ss us) where
  way_word : (h : Way) → EnterWord (Sign (way_mark h)) h
  way_word way.Call = calls
  way_word way.Spawn = spawns

  if_prints : (l : ℕ) (e : Phrase) (a : List Stmt) (ts us vs : Words) → AllRead ts → Whole e ts us → block a us vs → Reprints (Statement block) stmt_words SameStmt (Tests l e (stmts_of a) none) vs
  if_prints l e a ts us vs h w p =
      let q = whole_prints e ts us h w in
      let r = prints a us vs q.left p in
      record {
        left = r.left;
        tokens = λ ws i. (tt, q.tokens (block_said a ws) (r.tokens ws i));
        again = λ zs ws b.
            at_word (λ z. Found (Statement block) SameStmt (Tests l e (stmts_of a) none) ws z) (Sign mark.If) (phrase_words e (block_said a ws)) zs b (λ i z1 b1.
            let f = q.again z1 (block_said a ws) b1 in
            let g = r.again f.0 ws f.1 in
            record { one = Tests i e (stmts_of g.one) none; rest = g.rest; behind = g.behind; holds = tests i e g.one z1 f.0 g.rest f.2 g.holds; same = tests_same l i e (stmts_of a) (stmts_of g.one) none none g.same (λ w. refl) });
      }

  else_prints : (l : ℕ) (e : Phrase) (a b : List Stmt) (ts us vs ws : Words) (k : ℕ) → AllRead ts → Whole e ts us → block a us ((Sign mark.Else, k) ∷ vs) → block b vs ws → Reprints (Statement block) stmt_words SameStmt (Tests l e (stmts_of a) (stmts_of b)) ws
  else_prints l e a [] ts us vs ws k h w p p2 =
      let q = whole_prints e ts us h w in
      let r = prints a us ((Sign mark.Else, k) ∷ vs) q.left p in
      let t = prints [] vs ws r.left.1 p2 in
      record {
        left = t.left;
        tokens = λ xs i. (tt, q.tokens (block_said a xs) (r.tokens xs i));
        again = λ zs xs b.
            at_word (λ z. Found (Statement block) SameStmt (Tests l e (stmts_of a) none) xs z) (Sign mark.If) (phrase_words e (block_said a xs)) zs b (λ i z1 b1.
            let f = q.again z1 (block_said a xs) b1 in
            let g = r.again f.0 xs f.1 in
            record { one = Tests i e (stmts_of g.one) none; rest = g.rest; behind = g.behind; holds = tests i e g.one z1 f.0 g.rest f.2 g.holds; same = tests_same l i e (stmts_of a) (stmts_of g.one) none none g.same (λ w. refl) });
      }
  else_prints l e a (c ∷ cs) ts us vs ws k h w p p2 =
      let q = whole_prints e ts us h w in
      let r = prints a us ((Sign mark.Else, k) ∷ vs) q.left p in
      let t = prints (c ∷ cs) vs ws r.left.1 p2 in
      record {
        left = t.left;
        tokens = λ xs i. (tt, q.tokens (block_said a (Sign mark.Else ∷ block_said (c ∷ cs) xs)) (r.tokens (Sign mark.Else ∷ block_said (c ∷ cs) xs) (tt, t.tokens xs i)));
        again = λ zs xs b.
            let P : Words → Type 0 = λ z. Found (Statement block) SameStmt (Tests l e (stmts_of a) (stmts_of (c ∷ cs))) xs z in
            let behind : List Word = Sign mark.Else ∷ block_said (c ∷ cs) xs in
            at_word P (Sign mark.If) (phrase_words e (block_said a behind)) zs b (λ i z1 b1.
            let f = q.again z1 (block_said a behind) b1 in
            let g = r.again f.0 behind f.1 in
            at_word (λ z. block g.one f.0 z → P ((Sign mark.If, i) ∷ z1)) (Sign mark.Else) (block_said (c ∷ cs) xs) g.rest g.behind (λ j z2 b2 v.
            let d = t.again z2 xs b2 in
            record {
              one = Tests i e (stmts_of g.one) (stmts_of d.one);
              rest = d.rest;
              behind = d.behind;
              holds = tests_else i j e g.one d.one z1 f.0 z2 d.rest f.2 v d.holds;
              same = tests_same l i e (stmts_of a) (stmts_of g.one) (stmts_of (c ∷ cs)) (stmts_of d.one) g.same d.same;
            }) g.holds);
      }

  grain_of : (n : ℕ) (us vs : Words) → AllRead us → Grained n us vs → AllRead vs × (1 ≤ n) × (n ≤ 65536)
  grain_of _ _ _ h (no_grain us) = (h, omega arith, omega arith)
  grain_of _ _ _ h (grained _ l _ _ (within n m us low high)) = (h.1.1, low, high)

  loop_prints : (l i j k n m g : ℕ) (x f : List ℕ) (low high : Phrase) (es : List Phrase) (ts us vs ws : Words) → AllRead ((Sign mark.CilkFor, l) ∷ (Name x, i) ∷ (Sign mark.In, j) ∷ ts)
      → Ranged low high ts us → Grained g us ((Sign mark.Colon, k) ∷ (Name f, n) ∷ vs) → Args es vs ((Sign mark.Semicolon, m) ∷ ws) → Reprints (Statement block) stmt_words SameStmt (Loops l x low high g f es) ws
  loop_prints l i j k n m g x f low high es ts us vs ws h (ranged _ _ c _ us1 _ w1 w2) gr p =
      let q1 = whole_prints low ts ((Sign mark.Range, c) ∷ us1) h.1.1.1 w1 in
      let q2 = whole_prints high us1 us q1.left.1 w2 in
      let s = grain_of g us ((Sign mark.Colon, k) ∷ (Name f, n) ∷ vs) q2.left gr in
      let q = args_print es vs ((Sign mark.Semicolon, m) ∷ ws) s.0.1.1 p in
      let tail : List Word → List Word = λ xs. Sign mark.Grain ∷ Number (pos g) ∷ Sign mark.Colon ∷ called_words f es xs in
      let small : g ≤ 9223372036854775807 = omega (arith, s.2) in
      record {
        left = q.left.1;
        tokens = λ xs a. (tt, (h.1.0, (tt, q1.tokens (Sign mark.Range ∷ phrase_words high (tail xs)) (tt, q2.tokens (tail xs) (tt, (small, (tt, called_tokens f es ((Sign mark.Semicolon, m) ∷ ws) s.0.1.0 q xs a)))))));
        again = λ zs xs b.
            let P : Words → Type 0 = λ z. Found (Statement block) SameStmt (Loops l x low high g f es) xs z in
            at_word P (Sign mark.CilkFor) (Name x ∷ Sign mark.In ∷ phrase_words low (Sign mark.Range ∷ phrase_words high (tail xs))) zs b (λ c1 z1 b1.
            at_word (λ z. P ((Sign mark.CilkFor, c1) ∷ z)) (Name x) (Sign mark.In ∷ phrase_words low (Sign mark.Range ∷ phrase_words high (tail xs))) z1 b1 (λ c2 z2 b2.
            at_word (λ z. P ((Sign mark.CilkFor, c1) ∷ (Name x, c2) ∷ z)) (Sign mark.In) (phrase_words low (Sign mark.Range ∷ phrase_words high (tail xs))) z2 b2 (λ c3 z3 b3.
            let Q : Type 0 = P ((Sign mark.CilkFor, c1) ∷ (Name x, c2) ∷ (Sign mark.In, c3) ∷ z3) in
            let f1 = q1.again z3 (Sign mark.Range ∷ phrase_words high (tail xs)) b3 in
            at_word (λ z. Whole low z3 z → Q) (Sign mark.Range) (phrase_words high (tail xs)) f1.0 f1.1 (λ c4 z4 b4 v1.
            let f2 = q2.again z4 (tail xs) b4 in
            at_word (λ z. Whole high z4 z → Q) (Sign mark.Grain) (Number (pos g) ∷ Sign mark.Colon ∷ called_words f es xs) f2.0 f2.1 (λ c5 z5 b5.
            at_word (λ z. Whole high z4 ((Sign mark.Grain, c5) ∷ z) → Q) (Number (pos g)) (Sign mark.Colon ∷ called_words f es xs) z5 b5 (λ c6 z6 b6.
            at_word (λ z. Whole high z4 ((Sign mark.Grain, c5) ∷ (Number (pos g), c6) ∷ z) → Q) (Sign mark.Colon) (called_words f es xs) z6 b6 (λ c7 z7 b7.
            at_word (λ z. Whole high z4 ((Sign mark.Grain, c5) ∷ (Number (pos g), c6) ∷ (Sign mark.Colon, c7) ∷ z) → Q) (Name f) (args_words es (Sign mark.Semicolon ∷ xs)) z7 b7 (λ c8 z8 b8 v2.
            let f3 = q.again z8 (Sign mark.Semicolon ∷ xs) b8 in
            at_word (λ z. Args es z8 z → Q) (Sign mark.Semicolon) xs f3.0 f3.1 (λ c9 z9 b9 v3.
            record {
              one = Loops c1 x low high g f es;
              rest = z9;
              behind = b9;
              holds = loops c1 c2 c3 c7 c8 c9 g x f low high es z3 ((Sign mark.Grain, c5) ∷ (Number (pos g), c6) ∷ (Sign mark.Colon, c7) ∷ (Name f, c8) ∷ z8) z8 z9
                  (ranged low high c4 z3 z4 ((Sign mark.Grain, c5) ∷ (Number (pos g), c6) ∷ (Sign mark.Colon, c7) ∷ (Name f, c8) ∷ z8) v1 v2)
                  (grained g c5 ((Number (pos g), c6) ∷ (Sign mark.Colon, c7) ∷ (Name f, c8) ∷ z8) ((Sign mark.Colon, c7) ∷ (Name f, c8) ∷ z8) (within g c6 ((Sign mark.Colon, c7) ∷ (Name f, c8) ∷ z8) s.1 s.2))
                  v3;
              same = λ w. refl;
            }) f3.2)))) f2.2) f1.2)));
      }

  stmt_prints : (s : Stmt) (ts us : Words) → AllRead ts → Statement block s ts us → Reprints (Statement block) stmt_words SameStmt s us
  stmt_prints _ _ _ h (binds l k m x e ts us w) =
      let q = whole_prints e ts ((Sign mark.Semicolon, m) ∷ us) h.1.1 w in
      record {
        left = q.left.1;
        tokens = λ ws i. (h.0, (tt, q.tokens (Sign mark.Semicolon ∷ ws) (tt, i)));
        again = λ zs ws b.
            let P : Words → Type 0 = λ z. Found (Statement block) SameStmt (Binds l x e) ws z in
            at_word P (Name x) (Sign mark.Assign ∷ phrase_words e (Sign mark.Semicolon ∷ ws)) zs b (λ i z1 b1.
            at_word (λ z. P ((Name x, i) ∷ z)) (Sign mark.Assign) (phrase_words e (Sign mark.Semicolon ∷ ws)) z1 b1 (λ j z2 b2.
            let r = q.again z2 (Sign mark.Semicolon ∷ ws) b2 in
            at_word (λ z. Whole e z2 z → P ((Name x, i) ∷ (Sign mark.Assign, j) ∷ z2)) (Sign mark.Semicolon) ws r.0 r.1 (λ n z3 b3 v.
            record { one = Binds i x e; rest = z3; behind = b3; holds = binds i j n x e z2 z3 v; same = λ w. refl }) r.2));
      }
  stmt_prints _ _ _ h (binds_entry l k j x w way _ _ _ ew (entry f es a m ts' us' p)) =
      let q = args_print es ts' ((Sign mark.Semicolon, m) ∷ us') h.1.1.1.1 p in
      record {
        left = q.left.1;
        tokens = λ ws i. (h.0, (tt, (tt, called_tokens f es ((Sign mark.Semicolon, m) ∷ us') h.1.1.1.0 q ws i)));
        again = λ zs ws b.
            let P : Words → Type 0 = λ z. Found (Statement block) SameStmt (Enters l (Some x) way f es) ws z in
            at_word P (Name x) (Sign mark.Assign ∷ Sign (way_mark way) ∷ called_words f es ws) zs b (λ i z1 b1.
            at_word (λ z. P ((Name x, i) ∷ z)) (Sign mark.Assign) (Sign (way_mark way) ∷ called_words f es ws) z1 b1 (λ n z2 b2.
            at_word (λ z. P ((Name x, i) ∷ (Sign mark.Assign, n) ∷ z)) (Sign (way_mark way)) (called_words f es ws) z2 b2 (λ o z3 b3.
            let r = entry_again i (Some x) way f es ((Sign mark.Semicolon, m) ∷ us') q z3 ws b3 in
            record { one = Enters i (Some x) way f es; rest = r.0; behind = r.1; holds = binds_entry i n o x (Sign (way_mark way)) way (Enters i (Some x) way f es) z3 r.0 (way_word way) r.2; same = λ w. refl })));
      }
  stmt_prints _ _ _ h (binds_read l k j i m x r us) =
      record {
        left = h.1.1.1.1.1;
        tokens = λ ws a. (h.0, (tt, (tt, (h.1.1.1.0, (tt, a)))));
        again = λ zs ws b.
            let P : Words → Type 0 = λ z. Found (Statement block) SameStmt (Reads l x r) ws z in
            at_word P (Name x) (Sign mark.Assign ∷ Sign mark.Read ∷ Name r ∷ Sign mark.Semicolon ∷ ws) zs b (λ c1 z1 b1.
            at_word (λ z. P ((Name x, c1) ∷ z)) (Sign mark.Assign) (Sign mark.Read ∷ Name r ∷ Sign mark.Semicolon ∷ ws) z1 b1 (λ c2 z2 b2.
            at_word (λ z. P ((Name x, c1) ∷ (Sign mark.Assign, c2) ∷ z)) (Sign mark.Read) (Name r ∷ Sign mark.Semicolon ∷ ws) z2 b2 (λ c3 z3 b3.
            at_word (λ z. P ((Name x, c1) ∷ (Sign mark.Assign, c2) ∷ (Sign mark.Read, c3) ∷ z)) (Name r) (Sign mark.Semicolon ∷ ws) z3 b3 (λ c4 z4 b4.
            at_word (λ z. P ((Name x, c1) ∷ (Sign mark.Assign, c2) ∷ (Sign mark.Read, c3) ∷ (Name r, c4) ∷ z)) (Sign mark.Semicolon) ws z4 b4 (λ c5 z5 b5.
            record { one = Reads c1 x r; rest = z5; behind = b5; holds = binds_read c1 c2 c3 c4 c5 x r z5; same = λ w. refl })))));
      }
  stmt_prints _ _ _ h (enters l w way _ _ _ ew (entry f es a m ts' us' p)) =
      let q = args_print es ts' ((Sign mark.Semicolon, m) ∷ us') h.1.1 p in
      record {
        left = q.left.1;
        tokens = λ ws i. (tt, called_tokens f es ((Sign mark.Semicolon, m) ∷ us') h.1.0 q ws i);
        again = λ zs ws b.
            at_word (λ z. Found (Statement block) SameStmt (Enters l None way f es) ws z) (Sign (way_mark way)) (called_words f es ws) zs b (λ i z1 b1.
            let r = entry_again i None way f es ((Sign mark.Semicolon, m) ∷ us') q z1 ws b1 in
            record { one = Enters i None way f es; rest = r.0; behind = r.1; holds = enters i (Sign (way_mark way)) way (Enters i None way f es) z1 r.0 (way_word way) r.2; same = λ w. refl });
      }
  stmt_prints _ _ _ h (syncs l k us) =
      record {
        left = h.1.1;
        tokens = λ ws i. (tt, (tt, i));
        again = λ zs ws b.
            at_word (λ z. Found (Statement block) SameStmt (Syncs l) ws z) (Sign mark.Sync) (Sign mark.Semicolon ∷ ws) zs b (λ i z1 b1.
            at_word (λ z. Found (Statement block) SameStmt (Syncs l) ws ((Sign mark.Sync, i) ∷ z)) (Sign mark.Semicolon) ws z1 b1 (λ j z2 b2.
            record { one = Syncs i; rest = z2; behind = b2; holds = syncs i j z2; same = λ w. refl }));
      }
  stmt_prints _ _ _ h (updates l k m r es ts us p) =
      let q = exprs_print es ts ((Sign mark.Semicolon, m) ∷ us) h.1.1 p in
      record {
        left = q.left.1;
        tokens = λ ws i. (tt, (h.1.0, q.tokens (Sign mark.Semicolon ∷ ws) (tt, i)));
        again = λ zs ws b.
            let P : Words → Type 0 = λ z. Found (Statement block) SameStmt (Updates l r es) ws z in
            at_word P (Sign mark.Update) (Name r ∷ phrases_words es (Sign mark.Semicolon ∷ ws)) zs b (λ i z1 b1.
            at_word (λ z. P ((Sign mark.Update, i) ∷ z)) (Name r) (phrases_words es (Sign mark.Semicolon ∷ ws)) z1 b1 (λ j z2 b2.
            let f = q.again z2 (Sign mark.Semicolon ∷ ws) b2 in
            at_word (λ z. Exprs es z2 z → P ((Sign mark.Update, i) ∷ (Name r, j) ∷ z2)) (Sign mark.Semicolon) ws f.0 f.1 (λ n z3 b3 v.
            record { one = Updates i r es; rest = z3; behind = b3; holds = updates i j n r es z2 z3 v; same = λ w. refl }) f.2));
      }
  stmt_prints _ _ _ h (tests l e a ts us vs w p) = if_prints l e a ts us vs h.1 w p
  stmt_prints _ _ _ h (tests_else l k e a b ts us vs ws w p q) = else_prints l e a b ts us vs ws k h.1 w p q
  stmt_prints _ _ _ h (loops l i j k n m g x f low high es ts us vs ws r gr p) = loop_prints l i j k n m g x f low high es ts us vs ws h r gr p

  -- ---- bodies

  many_print : (ss : List Stmt) (ts us : Words) → AllRead ts → Many (Statement block) ss ts us → Reprints (Many (Statement block)) list_said SameStmts ss us
  many_print _ _ _ h (nil ts) = record { left = h; tokens = λ ws i. i; again = λ zs ws b. record { one = []; rest = zs; behind = b; holds = nil zs; same = λ a c p. p } }
  many_print _ _ _ h (cons x xs ts us vs r m) =
      let q = stmt_prints x ts us h r in
      let t = many_print xs us vs q.left m in
      record {
        left = t.left;
        tokens = λ ws i. q.tokens (list_said xs ws) (t.tokens ws i);
        again = λ zs ws b.
            let f = q.again zs (list_said xs ws) b in
            let g = t.again f.rest ws f.behind in
            record {
              one = f.one ∷ g.one;
              rest = g.rest;
              behind = g.behind;
              holds = cons f.one g.one zs f.rest g.rest f.holds g.holds;
              same = λ a c p w.
                  let v : Walk = (w.0, w.1 + 1) in
                  rw (f.same v, g.same a c p (lower_deed v x).0) refl;
            };
      }

  -- behind the mark that opens a block
  abbrev body_said : List Stmt → List Word → List Word
  body_said ss ws = stmts_words (stmts_of ss) (Sign mark.CloseBrace ∷ ws)

  alone_same : (ss ys : List Stmt) → SameStmts ss ys → SameTail ss ys
  alone_same ss ys p w =
      let e = p [] [] (λ v. refl) w in
      let x : ss ++ [] ≡ ss = append-nil ss in
      let y : ys ++ [] ≡ ys = append-nil ys in
      subst (λ (z : List Stmt). lower_body w (stmts_of z) ≡ lower_body w (stmts_of ss)) y (subst (λ (z : List Stmt). lower_body w (stmts_of (ys ++ [])) ≡ lower_body w (stmts_of z)) x e)

  return_same : (l k : ℕ) (e : Phrase) → SameTail (Returns l e ∷ []) (Returns k e ∷ [])
  return_same l k e w = refl

  appended : (ss : List Stmt) (l : ℕ) (e : Phrase) (ws : List Word) → stmts_words (stmts_of (ss ++ Returns l e ∷ [])) ws ≡ stmts_words (stmts_of ss) (Sign mark.Return ∷ phrase_words e (Sign mark.Semicolon ∷ ws))
  appended [] l e ws = refl
  appended (s ∷ ss) l e ws = ap (λ (z : List Word). stmt_words s z) (appended ss l e ws)

  body_prints : (ss : List Stmt) (ts us : Words) → AllRead ts → grammar.Body block ss ts us → Reprints (grammar.Body block) body_said SameTail ss us
  body_prints _ _ _ h (grammar.plain ss l ts us m) =
      let q = many_print ss ts ((Sign mark.CloseBrace, l) ∷ us) h m in
      record {
        left = q.left.1;
        tokens = λ ws i. q.tokens (Sign mark.CloseBrace ∷ ws) (tt, i);
        again = λ zs ws b.
            let f = q.again zs (Sign mark.CloseBrace ∷ ws) b in
            at_word (λ z. Many (Statement block) f.one zs z → Found (grammar.Body block) SameTail ss ws zs) (Sign mark.CloseBrace) ws f.rest f.behind (λ i z1 b1 v.
            record { one = f.one; rest = z1; behind = b1; holds = grammar.plain f.one i zs z1 v; same = alone_same ss f.one f.same }) f.holds;
      }
  body_prints _ _ _ h (grammar.returning ss e l j k ts us vs m w) =
      let q = many_print ss ts ((Sign mark.Return, l) ∷ us) h m in
      let r = whole_prints e us ((Sign mark.Semicolon, j) ∷ (Sign mark.CloseBrace, k) ∷ vs) q.left.1 w in
      let tail : List Word → List Word = λ ws. Sign mark.Return ∷ phrase_words e (Sign mark.Semicolon ∷ Sign mark.CloseBrace ∷ ws) in
      record {
        left = r.left.1.1;
        tokens = λ ws i. subst (λ (z : List Word). AllTokens z) (sym (appended ss l e (Sign mark.CloseBrace ∷ ws))) (q.tokens (tail ws) (tt, r.tokens (Sign mark.Semicolon ∷ Sign mark.CloseBrace ∷ ws) (tt, (tt, i))));
        again = λ zs ws b.
            let P : Type 0 = Found (grammar.Body block) SameTail (ss ++ Returns l e ∷ []) ws zs in
            let f = q.again zs (tail ws) (b ∙ appended ss l e (Sign mark.CloseBrace ∷ ws)) in
            at_word (λ z. Many (Statement block) f.one zs z → P) (Sign mark.Return) (phrase_words e (Sign mark.Semicolon ∷ Sign mark.CloseBrace ∷ ws)) f.rest f.behind (λ c1 z1 b1 v1.
            let d = r.again z1 (Sign mark.Semicolon ∷ Sign mark.CloseBrace ∷ ws) b1 in
            at_word (λ z. Whole e z1 z → P) (Sign mark.Semicolon) (Sign mark.CloseBrace ∷ ws) d.0 d.1 (λ c2 z2 b2.
            at_word (λ z. Whole e z1 ((Sign mark.Semicolon, c2) ∷ z) → P) (Sign mark.CloseBrace) ws z2 b2 (λ c3 z3 b3 v2.
            record {
              one = f.one ++ Returns c1 e ∷ [];
              rest = z3;
              behind = b3;
              holds = grammar.returning f.one e c1 c2 c3 zs z1 z3 v1 v2;
              same = f.same (Returns l e ∷ []) (Returns c1 e ∷ []) (return_same l c1 e);
            })) d.2) f.holds;
      }

pub block_prints : (n : ℕ) (ss : List Stmt) (ts us : Words) → AllRead ts → Block n ss ts us → Reprints (Block n) block_said SameTail ss us
block_prints zero ss ts us h (l, e, q) = absurd (let r : AllRead ((Over, l) ∷ us) = subst (λ (z : Words). AllRead z) q h in r.0)
block_prints (suc n) ss ts vs h (l, us, e, p) =
    let r : AllRead ((Sign mark.OpenBrace, l) ∷ us) = subst (λ (z : Words). AllRead z) e h in
    let q = body_prints (Block n) (block_prints n) ss us vs r.1 p in
    record {
      left = q.left;
      tokens = λ ws i. (tt, q.tokens ws i);
      again = λ zs ws b.
          at_word (λ z. Found (Block (suc n)) SameTail ss ws z) (Sign mark.OpenBrace) (stmts_words (stmts_of ss) (Sign mark.CloseBrace ∷ ws)) zs b (λ i z1 b1.
          let f = q.again z1 ws b1 in
          record { one = f.one; rest = f.rest; behind = f.behind; holds = (i, z1, refl, f.holds); same = f.same });
    }
