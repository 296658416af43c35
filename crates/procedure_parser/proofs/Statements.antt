-- What readers of statements and blocks do.
use Rattle.std.proofs.Common.{◌≡◌, ℕ, zero, suc, cond, List, [], ◌∷◌, ◌++◌, length, Option, Some, None, Ok, Err, refl, sym, subst, arith, inl, inr}
use Rattle.token_scanner.specs.declared.token.Mark.TheVariants as mark
use Rattle.token_scanner.specs.declared.token.Mark.TheVariants.{OpenParen, CloseParen, OpenBrace, CloseBrace, Semicolon, Comma, Colon, Assign, Call, Spawn, Sync, Update, If, Else, CilkFor, In, Range, Grain, Return}
use Rattle.meaning.specs.declared.tree.Way.{Way}
use Rattle.meaning.specs.declared.tree.Way.TheVariants as way
use Rattle.token_scanner.specs.Words.{Word, Name, Number, Sign, Over, Words, for_some, starts, rest, front_name, line_of}
use Rattle.source_tree.specs.Source.{Phrase, Num, Stmt, none, stmts_of, Binds, Enters, Reads, Syncs, Updates, Tests, Loops, Returns}
use Rattle.token_readers.specs.Reading.{◌>>=◌, Read, mark_at, name_at, way_of, within_at}
use Rattle.procedure_parser.specs.Reading.{many_at, whole_at, comma_expr_at, exprs_at, args_at, entry_at, value_at, read_at, bound_at, bind_at, update_at, return_at, grain_at, range_at, iteration_at, loop_at, Blocks, else_at, if_at, keyword_at, statement_at, goes_on, end_at, body_at, block_at}
use Rattle.procedure_parser.specs.Grammar.{Form, Many, nil, Whole, CommaExpr, comma_expr, Exprs, exprs, Args, no_args, args, EnterWord, calls, spawns, Entry, entry, Within, Grained, no_grain, grained, Ranged, ranged, Statement, binds, binds_entry, binds_read, enters, syncs, updates, tests, tests_else, loops, Body, plain, returning, Block}
use Rattle.procedure_parser.proofs.Law.{LawAt, IsLocal, if_true, if_false, some_there, none_there, gives_at, refuses_at, skip_at, map_at, then_at}
use Rattle.procedure_parser.proofs.Head.{nought, on_bool, on_option, starts_is, name_is, local, starts_local, name_local, Found, picked, over_law, expect_at, name_then_at, at_value, line_local, last_mark, behind_mark, behind_line}
use Rattle.procedure_parser.proofs.Expressions.{expr_law, zero_whole}
use Rattle.procedure_parser.proofs.Numbers.{within_law}
use Rattle.procedure_parser.proofs.Lists.{many_law}
use Rattle.procedure_parser.proofs.Short.{IsShort, comma_short, statement_short, block_short}
use Rattle.token_readers.specs.Limits.{most_open, most_levels}

abbrev pub a_name : List ℕ
a_name = 97 ∷ []

pub whole_law : (ts : Words) → LawAt whole_at Whole ts
unfolding whole_at
whole_law ts = expr_law most_open most_levels ts (omega arith)

naught : (v : Words) → Whole (Num nought) ((Number nought, 0) ∷ v) v
naught v = (zero_whole v, omega arith)

pub comma_law : (ts : Words) → LawAt comma_expr_at CommaExpr ts
unfolding comma_expr_at
comma_law ts = expect_at Comma whole_at CommaExpr ts (λ x. ((Number nought, 0) ∷ x, Num nought, λ l. comma_expr (Num nought) l ((Number nought, 0) ∷ x) x (naught x))) (λ us. map_at whole_at Whole _ us (λ e us vs w l. comma_expr e l us vs w) (whole_law us))

more_law : (ts : Words) → LawAt (many_at (starts Comma) comma_expr_at) (Many CommaExpr) ts
more_law ts = many_law (starts Comma) comma_expr_at CommaExpr (starts_local Comma) refl (λ ts g. comma_law ts) comma_short (length ts) ts (omega arith)

exprs_law : (ts : Words) → LawAt exprs_at Exprs ts
unfolding exprs_at
exprs_law ts =
    then_at whole_at (λ e w. many_at (starts Comma) comma_expr_at w >>= λ x. Ok ((e ∷ []) ++ x.0, x.1)) Whole Exprs ts (whole_law ts)
    (λ v. (v, λ e us w. (e ∷ [], exprs e [] us v v w (nil v))))
    (λ e us w. then_at (many_at (starts Comma) comma_expr_at) (λ xs w. Ok ((e ∷ []) ++ xs, w)) (Many CommaExpr) _ us (more_law us)
    (λ v. (v, λ xs ws q. (e ∷ xs, λ zs p. exprs e xs zs ws v p q)))
    (λ xs ws q. gives_at _ (e ∷ xs) ws (λ v ys m zs p. exprs e xs zs ys v p m)))

args_law : (ts : Words) → LawAt args_at Args ts
unfolding args_at
args_law ts =
    let full : Words → Read (List Phrase) = λ w. exprs_at w >>= λ es. mark_at CloseParen es.1 >>= λ vs. Ok (es.0, vs) in
    let F : Form (List Phrase) = λ es us vs. (l : ℕ) → Args es ((Sign OpenParen, l) ∷ us) vs in
    expect_at OpenParen (λ w. cond (starts CloseParen w) (Ok ([], rest w)) (full w)) Args ts (λ x. ((Sign CloseParen, 0) ∷ x, [], λ l. no_args l 0 x))
    (λ us. elim (on_bool (starts CloseParen us)) [
      | inl h ↦ if_true F (starts CloseParen) (λ w. Ok ([], rest w)) full us (starts_local CloseParen) h
          (let s = starts_is CloseParen us h in subst (λ (w : Words). LawAt (λ w. Ok ([], rest w)) F w) (sym s.2)
          (skip_at (λ w. Ok ([], w)) (λ es us vs. F es ((Sign CloseParen, s.0) ∷ us) vs) F (Sign CloseParen, s.0) s.1 (λ a us vs p. p) (gives_at _ [] s.1 (λ v l. no_args l s.0 v))))
      | inr h ↦ if_false F (starts CloseParen) (λ w. Ok ([], rest w)) full us (starts_local CloseParen) h
          (then_at exprs_at (λ es w. mark_at CloseParen w >>= λ vs. Ok (es, vs)) Exprs F us (exprs_law us)
          (λ v. ((Sign CloseParen, 0) ∷ v, λ es us p. (es, λ l. args es l 0 us v p)))
          (λ es ws q. last_mark CloseParen es _ ws (λ m v zs p l. args es l m zs v p)))
    ])

entry_law : (l : ℕ) (x : Option (List ℕ)) (h : Way) (ts : Words) → LawAt (entry_at l x h) (Entry l x h) ts
unfolding entry_at
entry_law l x h ts =
    name_then_at (λ f w. args_at w >>= λ es. mark_at Semicolon es.1 >>= λ vs. Ok (Enters l x h f es.0, vs)) (Entry l x h) ts
    (λ v. ((Sign OpenParen, 0) ∷ (Sign CloseParen, 0) ∷ (Sign Semicolon, 0) ∷ v, Enters l x h (97 ∷ []) [], λ k. entry (97 ∷ []) [] k 0 _ v (no_args 0 0 _)))
    (λ f us. then_at args_at (λ es w. mark_at Semicolon w >>= λ vs. Ok (Enters l x h f es, vs)) Args _ us (args_law us)
    (λ v. ((Sign Semicolon, 0) ∷ v, λ es us p. (Enters l x h f es, λ k. entry f es k 0 us v p)))
    (λ es ws q. last_mark Semicolon (Enters l x h f es) _ ws (λ m v zs p k. entry f es k m zs v p)))

way_local : IsLocal way_of
unfolding way_of
way_local = local way_of (λ w us vs. refl)

pub way_is : (ts : Words) (h : Way) → way_of ts ≡ Some h → Found EnterWord ts h
unfolding way_of
way_is ts h e = picked EnterWord Call way.Call calls ts h _ e (λ e. picked EnterWord Spawn way.Spawn spawns ts h _ e (λ e. absurd cc))

pub goes_on_local : IsLocal goes_on
goes_on_local = local goes_on (λ w us vs. refl)

-- a statement of the same block, in whatever blocks are read
module _ (B : Form (List Stmt)) where
  abbrev pub At : (Word × ℕ) → Form Stmt
  At t s us vs = Statement B s (t ∷ us) vs

  abbrev BoundTo : ℕ → List ℕ → Form Stmt
  BoundTo l x s us vs = (k : ℕ) → Statement B s ((Name x, l) ∷ (Sign Assign, k) ∷ us) vs

  value_law : (l : ℕ) (x : List ℕ) (ts : Words) → LawAt (value_at l x) (BoundTo l x) ts
  unfolding value_at
  value_law l x ts =
      then_at whole_at (λ e w. mark_at Semicolon w >>= λ vs. Ok (Binds l x e, vs)) Whole (BoundTo l x) ts (whole_law ts)
      (λ v. ((Sign Semicolon, 0) ∷ v, λ e us w. (Binds l x e, λ k. binds l k 0 x e us v w)))
      (λ e ws q. last_mark Semicolon (Binds l x e) _ ws (λ m v zs p k. binds l k m x e zs v p))

  reading_law : (l : ℕ) (x : List ℕ) (j : ℕ) (ts : Words) → LawAt (read_at l x) (λ s us vs. BoundTo l x s ((Sign mark.Read, j) ∷ us) vs) ts
  unfolding read_at
  reading_law l x j ts =
      name_then_at (λ r w. mark_at Semicolon w >>= λ vs. Ok (Reads l x r, vs)) _ ts
      (λ v. ((Sign Semicolon, 0) ∷ v, Reads l x a_name, λ i k. binds_read l k j i 0 x a_name v))
      (λ r us. last_mark Semicolon (Reads l x r) _ us (λ m v i k. binds_read l k j i m x r v))

  bound_law : (l : ℕ) (x : List ℕ) (ts : Words) → LawAt (bound_at l x) (BoundTo l x) ts
  unfolding bound_at
  bound_law l x ts =
      let G : Form Stmt = BoundTo l x in
      let E : Way → Words → Read Stmt = λ h w. entry_at l (Some x) h (rest w) in
      let other : Words → Read Stmt = λ w. for_some (way_of w) (value_at l x w) (λ h. E h w) in
      elim (on_bool (starts mark.Read ts)) [
        | inl t ↦ if_true G (starts mark.Read) (λ w. read_at l x (rest w)) other ts (starts_local mark.Read) t (behind_mark mark.Read (read_at l x) G ts t (λ j us. reading_law l x j us))
        | inr f ↦ if_false G (starts mark.Read) (λ w. read_at l x (rest w)) other ts (starts_local mark.Read) f (elim (on_option (way_of ts)) [
          | inl n ↦ none_there G way_of (value_at l x) E ts way_local n (value_law l x ts)
          | inr (h, e) ↦ some_there G way_of (value_at l x) E ts h way_local e
              (let s = way_is ts h e in subst (λ (w : Words). LawAt (E h) G w) (sym s.3)
              (skip_at (entry_at l (Some x) h) (λ st us vs. G st ((s.0, s.1) ∷ us) vs) G (s.0, s.1) s.2 (λ a us vs p. p)
              (map_at (entry_at l (Some x) h) (Entry l (Some x) h) _ s.2 (λ st us vs en k. binds_entry l k s.1 x s.0 h st us vs s.4 en) (entry_law l (Some x) h s.2))))
        ])
      ]

  bind_law : (l : ℕ) (x : List ℕ) (ts : Words) → LawAt (bind_at l x) (At (Name x, l)) ts
  unfolding bind_at
  bind_law l x ts =
      expect_at Assign (bound_at l x) (At (Name x, l)) ts
      (λ v. ((Number nought, 0) ∷ (Sign Semicolon, 0) ∷ v, Binds l x (Num nought), λ k. binds l k 0 x (Num nought) ((Number nought, 0) ∷ (Sign Semicolon, 0) ∷ v) v (naught ((Sign Semicolon, 0) ∷ v))))
      (λ us. bound_law l x us)

  update_law : (l : ℕ) (ts : Words) → LawAt (update_at l) (At (Sign Update, l)) ts
  unfolding update_at
  update_law l ts =
      name_then_at (λ r w. exprs_at w >>= λ es. mark_at Semicolon es.1 >>= λ vs. Ok (Updates l r es.0, vs)) (At (Sign Update, l)) ts
      (λ v. ((Number nought, 0) ∷ (Sign Semicolon, 0) ∷ v, Updates l (97 ∷ []) (Num nought ∷ []), λ k. updates l k 0 (97 ∷ []) (Num nought ∷ []) ((Number nought, 0) ∷ (Sign Semicolon, 0) ∷ v) v (exprs (Num nought) [] _ ((Sign Semicolon, 0) ∷ v) _ (naught ((Sign Semicolon, 0) ∷ v)) (nil _))))
      (λ r us. then_at exprs_at (λ es w. mark_at Semicolon w >>= λ vs. Ok (Updates l r es, vs)) Exprs _ us (exprs_law us)
      (λ v. ((Sign Semicolon, 0) ∷ v, λ es us p. (Updates l r es, λ k. updates l k 0 r es us v p)))
      (λ es ws q. last_mark Semicolon (Updates l r es) _ ws (λ m v zs p k. updates l k m r es zs v p)))

-- ---- loops

pub grain_law : (ts : Words) → LawAt grain_at Grained ts
unfolding grain_at
grain_law ts =
    elim (on_bool (starts Grain ts)) [
      | inr n ↦ if_false Grained (starts Grain) (λ w. within_at 1 65536 (rest w)) (λ w. Ok (1, w)) ts (starts_local Grain) n (gives_at Grained 1 ts (λ v. no_grain v))
      | inl h ↦ if_true Grained (starts Grain) (λ w. within_at 1 65536 (rest w)) (λ w. Ok (1, w)) ts (starts_local Grain) h
          (behind_mark Grain (within_at 1 65536) Grained ts h (λ l us. map_at (within_at 1 65536) (Within 1 65536) _ us (λ g us vs w. grained g l us vs w) (within_law 1 65536 1 (omega arith) (omega arith) us)))
    ]

abbrev Ends : Form (Phrase × Phrase)
Ends p us vs = Ranged p.0 p.1 us vs

range_law : (ts : Words) → LawAt range_at Ends ts
unfolding range_at
range_law ts =
    then_at whole_at (λ e w. mark_at Range w >>= λ us. whole_at us >>= λ f. Ok ((e, f.0), f.1)) Whole Ends ts (whole_law ts)
    (λ v. ((Sign Range, 0) ∷ (Number nought, 0) ∷ v, λ e us w. ((e, Num nought), ranged e (Num nought) 0 us ((Number nought, 0) ∷ v) v w (naught v))))
    (λ e ws q. expect_at Range (λ us. whole_at us >>= λ f. Ok ((e, f.0), f.1)) _ ws
    (λ v. ((Number nought, 0) ∷ v, (e, Num nought), λ l ts w. ranged e (Num nought) l ts ((Number nought, 0) ∷ v) v w (naught v)))
    (λ us. then_at whole_at (λ f w. Ok ((e, f), w)) Whole _ us (whole_law us)
    (λ v. (v, λ f us w. ((e, f), λ l ts z. ranged e f l ts us v z w)))
    (λ f us w. gives_at _ (e, f) us (λ v ys w l ts z. ranged e f l ts ys v z w))))

module _ (B : Form (List Stmt)) where
  -- behind the range of a loop
  abbrev Iterates : ℕ → List ℕ → Phrase × Phrase → Form Stmt
  Iterates l x p s us vs = (i j : ℕ) (ts : Words) → Ends p ts us → Statement B s ((Sign CilkFor, l) ∷ (Name x, i) ∷ (Sign In, j) ∷ ts) vs

  iteration_law : (l : ℕ) (x : List ℕ) (p : Phrase × Phrase) (ts : Words) → LawAt (iteration_at l x p) (Iterates l x p) ts
  unfolding iteration_at
  iteration_law l x p ts =
      let made : ℕ → List ℕ → List Phrase → Stmt = λ g f es. Loops l x p.0 p.1 g f es in
      let behind : ℕ → Words → Read Stmt = λ g w. name_at w >>= λ f. args_at f.1 >>= λ es. mark_at Semicolon es.1 >>= λ vs. Ok (made g f.0 es.0, vs) in
      let fill : Words → Words = λ v. (Sign OpenParen, 0) ∷ (Sign CloseParen, 0) ∷ (Sign Semicolon, 0) ∷ v in
      then_at grain_at (λ g w. mark_at Colon w >>= λ us. behind g us) Grained (Iterates l x p) ts (grain_law ts)
      (λ v. ((Sign Colon, 0) ∷ (Name a_name, 0) ∷ fill v, λ g us d. (made g a_name [], λ i j ts r. loops l i j 0 0 0 g x a_name p.0 p.1 [] ts us (fill v) v r d (no_args 0 0 _))))
      (λ g us d. expect_at Colon (behind g) _ us
      (λ v. ((Name a_name, 0) ∷ fill v, made g a_name [], λ k us d i j ts r. loops l i j k 0 0 g x a_name p.0 p.1 [] ts us (fill v) v r d (no_args 0 0 _)))
      (λ us. name_then_at (λ f w. args_at w >>= λ es. mark_at Semicolon es.1 >>= λ vs. Ok (made g f es.0, vs)) _ us
      (λ v. (fill v, made g a_name [], λ h k us d i j ts r. loops l i j k h 0 g x a_name p.0 p.1 [] ts us (fill v) v r d (no_args 0 0 _)))
      (λ f us. then_at args_at (λ es w. mark_at Semicolon w >>= λ vs. Ok (made g f es, vs)) Args _ us (args_law us)
      (λ v. ((Sign Semicolon, 0) ∷ v, λ es us a. (made g f es, λ h k zs d i j ts r. loops l i j k h 0 g x f p.0 p.1 es ts zs us v r d a)))
      (λ es us a. last_mark Semicolon (made g f es) _ us (λ m v ys a h k zs d i j ts r. loops l i j k h m g x f p.0 p.1 es ts zs ys v r d a)))))

  loop_law : (l : ℕ) (ts : Words) → LawAt (loop_at l) (At B (Sign CilkFor, l)) ts
  unfolding loop_at
  loop_law l ts =
      let fill : Words → Words = λ v. (Sign Colon, 0) ∷ (Name a_name, 0) ∷ (Sign OpenParen, 0) ∷ (Sign CloseParen, 0) ∷ (Sign Semicolon, 0) ∷ v in
      let made : List ℕ → Phrase → Phrase → Stmt = λ x e f. Loops l x e f 1 a_name [] in
      let ended : (x : List ℕ) (e f : Phrase) (i j : ℕ) (ts v : Words) → Ranged e f ts (fill v) → Statement B (made x e f) ((Sign CilkFor, l) ∷ (Name x, i) ∷ (Sign In, j) ∷ ts) v = λ x e f i j ts v r. loops l i j 0 0 0 1 x a_name e f [] ts (fill v) ((Sign OpenParen, 0) ∷ (Sign CloseParen, 0) ∷ (Sign Semicolon, 0) ∷ v) v r (no_grain _) (no_args 0 0 _) in
      let start : Words → Words = λ v. (Number nought, 0) ∷ (Sign Range, 0) ∷ (Number nought, 0) ∷ fill v in
      let zeros : (v : Words) → Ranged (Num nought) (Num nought) (start v) (fill v) = λ v. ranged (Num nought) (Num nought) 0 (start v) ((Number nought, 0) ∷ fill v) (fill v) (naught _) (naught _) in
      name_then_at (λ x w. mark_at In w >>= λ us. range_at us >>= λ r. iteration_at l x r.0 r.1) (At B (Sign CilkFor, l)) ts
      (λ v. ((Sign In, 0) ∷ start v, made a_name (Num nought) (Num nought), λ i. ended a_name (Num nought) (Num nought) i 0 (start v) v (zeros v)))
      (λ x us. expect_at In (λ us. range_at us >>= λ r. iteration_at l x r.0 r.1) _ us
      (λ v. (start v, made x (Num nought) (Num nought), λ j i. ended x (Num nought) (Num nought) i j (start v) v (zeros v)))
      (λ us. then_at range_at (iteration_at l x) Ends _ us (range_law us)
      (λ v. (fill v, λ p us r. (made x p.0 p.1, λ j i. ended x p.0 p.1 i j us v r)))
      (λ p us r. map_at (iteration_at l x p) (Iterates l x p) _ us (λ s us vs f ts q j i. f i j ts q) (iteration_law l x p us))))

-- ---- blocks

module _ (block : Blocks) (B : Form (List Stmt)) (block_law : (ts : Words) → LawAt block B ts) (empty : (v : Words) → (y : Words) × (b : List Stmt) × B b y v) (short : IsShort B) where
  abbrev Chosen : ℕ → Phrase → List Stmt → Form Stmt
  Chosen l e a s us vs = (ts zs : Words) → Whole e ts zs → B a zs us → Statement B s ((Sign If, l) ∷ ts) vs

  else_law : (l : ℕ) (e : Phrase) (a : List Stmt) (ts : Words) → LawAt (else_at block l e a) (Chosen l e a) ts
  unfolding else_at
  else_law l e a ts =
      let T : Form Stmt = Chosen l e a in
      let one : Words → Read Stmt = λ w. block w >>= λ b. Ok (Tests l e (stmts_of a) (stmts_of b.0), b.1) in
      elim (on_bool (starts Else ts)) [
        | inr n ↦ if_false T (starts Else) (λ w. one (rest w)) (λ w. Ok (Tests l e (stmts_of a) none, w)) ts (starts_local Else) n (gives_at T (Tests l e (stmts_of a) none) ts (λ v ys zs w b. tests l e a ys zs v w b))
        | inl h ↦ if_true T (starts Else) (λ w. one (rest w)) (λ w. Ok (Tests l e (stmts_of a) none, w)) ts (starts_local Else) h
            (behind_mark Else one T ts h (λ k us. then_at block (λ b w. Ok (Tests l e (stmts_of a) (stmts_of b), w)) B _ us (block_law us)
            (λ v. (v, λ b us q. (Tests l e (stmts_of a) (stmts_of b), λ ys zs w p. tests_else l k e a b ys zs us v w p q)))
            (λ b us q. gives_at _ (Tests l e (stmts_of a) (stmts_of b)) us (λ v xs q ys zs w p. tests_else l k e a b ys zs xs v w p q))))
      ]

  if_law : (l : ℕ) (ts : Words) → LawAt (if_at block l) (At B (Sign If, l)) ts
  unfolding if_at
  if_law l ts =
      then_at whole_at (λ e w. block w >>= λ a. else_at block l e a.0 a.1) Whole (At B (Sign If, l)) ts (whole_law ts)
      (λ v. let z = empty v in (z.0, λ e us w. (Tests l e (stmts_of z.1) none, tests l e z.1 us z.0 v w z.2)))
      (λ e us w. then_at block (λ a w. else_at block l e a w) B _ us (block_law us)
      (λ v. (v, λ a us b. (Tests l e (stmts_of a) none, λ ys w. tests l e a ys us v w b)))
      (λ a us b. map_at (else_at block l e a) (Chosen l e a) _ us (λ s us vs c zs b ys w. c ys zs w b) (else_law l e a us)))

  keyword_law : (ts : Words) → LawAt (keyword_at block) (Statement B) ts
  unfolding keyword_at
  keyword_law ts =
      let T : Form Stmt = Statement B in
      let sync : ℕ → Words → Read Stmt = λ l w. mark_at Semicolon w >>= λ vs. Ok (Syncs l, vs) in
      let loop' : Words → Read Stmt = λ w. cond (starts CilkFor w) (loop_at (line_of w) (rest w)) (Err w) in
      let if' : Words → Read Stmt = λ w. cond (starts If w) (if_at block (line_of w) (rest w)) (loop' w) in
      let update' : Words → Read Stmt = λ w. cond (starts Update w) (update_at (line_of w) (rest w)) (if' w) in
      elim (on_bool (starts Sync ts)) [
        | inl h ↦ if_true T (starts Sync) (λ w. sync (line_of w) (rest w)) update' ts (starts_local Sync) h (behind_line Sync sync T ts h (λ l us. last_mark Semicolon (Syncs l) _ us (λ k v. syncs l k v)))
        | inr n ↦ if_false T (starts Sync) (λ w. sync (line_of w) (rest w)) update' ts (starts_local Sync) n (elim (on_bool (starts Update ts)) [
          | inl h ↦ if_true T (starts Update) (λ w. update_at (line_of w) (rest w)) if' ts (starts_local Update) h (behind_line Update update_at T ts h (λ l us. update_law B l us))
          | inr n ↦ if_false T (starts Update) (λ w. update_at (line_of w) (rest w)) if' ts (starts_local Update) n (elim (on_bool (starts If ts)) [
            | inl h ↦ if_true T (starts If) (λ w. if_at block (line_of w) (rest w)) loop' ts (starts_local If) h (behind_line If (if_at block) T ts h (λ l us. if_law l us))
            | inr n ↦ if_false T (starts If) (λ w. if_at block (line_of w) (rest w)) loop' ts (starts_local If) n (elim (on_bool (starts CilkFor ts)) [
              | inl h ↦ if_true T (starts CilkFor) (λ w. loop_at (line_of w) (rest w)) (λ w. Err w) ts (starts_local CilkFor) h (behind_line CilkFor loop_at T ts h (λ l us. loop_law B l us))
              | inr n ↦ if_false T (starts CilkFor) (λ w. loop_at (line_of w) (rest w)) (λ w. Err w) ts (starts_local CilkFor) n (refuses_at T ts (λ v. ((Sign Sync, 0) ∷ (Sign Semicolon, 0) ∷ v, Syncs 0, syncs 0 0 v)))
            ])
          ])
        ])
      ]

  pub statement_law : (ts : Words) → LawAt (statement_at block) (Statement B) ts
  unfolding statement_at
  statement_law ts =
      let T : Form Stmt = Statement B in
      let D : Words → Read Stmt = λ w. for_some (way_of w) (keyword_at block w) (λ h. entry_at (line_of w) None h (rest w)) in
      let E : List ℕ → Words → Read Stmt = λ x w. bind_at (line_of w) x (rest w) in
      let G : Way → Words → Read Stmt = λ h w. entry_at (line_of w) None h (rest w) in
      elim (on_option (front_name ts)) [
        | inr (x, e) ↦ some_there T front_name D E ts x name_local e
            (let s = name_is ts x e in subst (λ (w : Words). LawAt (E x) T w) (sym s.2)
            (at_value line_of (λ l w. bind_at l x (rest w)) T s.0 ((Name x, s.0) ∷ s.1) line_local refl
            (skip_at (bind_at s.0 x) (At B (Name x, s.0)) T (Name x, s.0) s.1 (λ a us vs p. p) (bind_law B s.0 x s.1))))
        | inl n ↦ none_there T front_name D E ts name_local n (elim (on_option (way_of ts)) [
          | inl m ↦ none_there T way_of (keyword_at block) G ts way_local m (keyword_law ts)
          | inr (h, e) ↦ some_there T way_of (keyword_at block) G ts h way_local e
              (let s = way_is ts h e in subst (λ (w : Words). LawAt (G h) T w) (sym s.3)
              (at_value line_of (λ l w. entry_at l None h (rest w)) T s.1 ((s.0, s.1) ∷ s.2) line_local refl
              (skip_at (entry_at s.1 None h) (At B (s.0, s.1)) T (s.0, s.1) s.2 (λ a us vs p. p)
              (map_at (entry_at s.1 None h) (Entry s.1 None h) _ s.2 (λ st us vs en. enters s.1 s.0 h st us vs s.4 en) (entry_law s.1 None h s.2)))))
        ])
      ]

  abbrev Ending : List Stmt → Form (List Stmt)
  Ending ss b us vs = (ts : Words) → Many (Statement B) ss ts us → Body B b ts vs

  end_law : (ss : List Stmt) (us : Words) → LawAt (end_at ss) (Ending ss) us
  unfolding end_at return_at
  end_law ss us =
      let T : Form (List Stmt) = Ending ss in
      let stop : Words → Read (List Stmt) = λ w. mark_at CloseBrace w >>= λ vs. Ok (ss, vs) in
      let last : Words → Read (List Stmt) = λ w. return_at (line_of w) (rest w) >>= λ r. mark_at CloseBrace r.1 >>= λ vs. Ok (ss ++ r.0 ∷ [], vs) in
      elim (on_bool (starts Return us)) [
        | inr n ↦ if_false T (starts Return) last stop us (starts_local Return) n (last_mark CloseBrace ss T us (λ l v zs m. plain ss l zs v m))
        | inl h ↦ if_true T (starts Return) last stop us (starts_local Return) h
            (let s = starts_is Return us h in
            let V : Form (List Stmt) = λ b us vs. T b ((Sign Return, s.0) ∷ us) vs in
            let R : Form Stmt = λ r us vs. (e : Phrase) × (j : ℕ) × (r ≡ Returns s.0 e) × Whole e us ((Sign Semicolon, j) ∷ vs) in
            subst (λ (w : Words). LawAt last T w) (sym s.2)
            (at_value line_of (λ l w. return_at l (rest w) >>= λ r. mark_at CloseBrace r.1 >>= λ vs. Ok (ss ++ r.0 ∷ [], vs)) T s.0 ((Sign Return, s.0) ∷ s.1) line_local refl
            (skip_at (λ w. return_at s.0 w >>= λ r. mark_at CloseBrace r.1 >>= λ vs. Ok (ss ++ r.0 ∷ [], vs)) V T (Sign Return, s.0) s.1 (λ a us vs p. p)
            (then_at (return_at s.0) (λ r w. mark_at CloseBrace w >>= λ vs. Ok (ss ++ r ∷ [], vs)) R V s.1
            (then_at whole_at (λ e w. mark_at Semicolon w >>= λ vs. Ok (Returns s.0 e, vs)) Whole R s.1 (whole_law s.1)
            (λ v. ((Sign Semicolon, 0) ∷ v, λ e us w. (Returns s.0 e, (e, 0, refl, w))))
            (λ e ws q. last_mark Semicolon (Returns s.0 e) _ ws (λ j v zs p. (e, j, refl, p))))
            (λ v. ((Sign CloseBrace, 0) ∷ v, λ r us q. (ss ++ r ∷ [], λ zs m. subst (λ (r : Stmt). Body B (ss ++ r ∷ []) zs v) (sym q.2) (returning ss q.0 s.0 q.1 0 zs us v m q.3))))
            (λ r ws q. last_mark CloseBrace (ss ++ r ∷ []) _ ws (λ k v us q zs m. subst (λ (r : Stmt). Body B (ss ++ r ∷ []) zs v) (sym q.2) (returning ss q.0 s.0 q.1 k zs us v m q.3)))))))
      ]

  pub body_law : (ts : Words) → LawAt (body_at block) (Body B) ts
  unfolding body_at
  body_law ts =
      then_at (many_at goes_on (statement_at block)) end_at (Many (Statement B)) (Body B) ts
      (many_law goes_on (statement_at block) (Statement B) goes_on_local refl (λ ts g. statement_law ts) (statement_short B short) (length ts) ts (omega arith))
      (λ v. ((Sign CloseBrace, 0) ∷ v, λ ss us m. (ss, plain ss 0 us v m)))
      (λ ss us m. end_law ss us)

pub empty_block : (n : ℕ) (v : Words) → (y : Words) × (b : List Stmt) × Block n b y v
empty_block zero v = ((Over, 0) ∷ v, [], (0, refl, refl))
empty_block (suc n) v = ((Sign OpenBrace, 0) ∷ (Sign CloseBrace, 0) ∷ v, [], (0, (Sign CloseBrace, 0) ∷ v, refl, plain [] 0 ((Sign CloseBrace, 0) ∷ v) v (nil _)))

pub block_law : (n : ℕ) (ts : Words) → LawAt (block_at n) (Block n) ts
unfolding block_at
block_law zero ts = over_law [] (Block 0) ts (λ l v. (l, refl, refl))
block_law (suc n) ts =
    expect_at OpenBrace (body_at (block_at n)) (Block (suc n)) ts
    (λ v. ((Sign CloseBrace, 0) ∷ v, [], λ l. (l, (Sign CloseBrace, 0) ∷ v, refl, plain [] 0 ((Sign CloseBrace, 0) ∷ v) v (nil _))))
    (λ us. map_at (body_at (block_at n)) (Body (Block n)) _ us (λ ss us vs b l. (l, us, refl, b)) (body_law (block_at n) (Block n) (block_law n) (empty_block n) (block_short n) us))
