-- What is in the grammar of statements is read.
use Rattle.std.proofs.Common.{◌≡◌, ℕ, zero, suc, true, false, List, [], ◌∷◌, Option, Some, None, Ok, Err, refl, sym, subst, inl, inr}
use Rattle.meaning.specs.declared.tree.Way.{Way}
use Rattle.token_scanner.specs.declared.token.Mark.{Mark}
use Rattle.token_scanner.specs.declared.token.Mark.TheVariants as mark
use Rattle.token_scanner.specs.declared.token.Mark.TheVariants.{OpenBracket, CloseParen, OpenBrace, CloseBrace, Semicolon, Comma, Colon, Range, Grain, Assign, Return, Else}
use Rattle.token_scanner.specs.Words.{Word, Sign, Over, Words, starts}
use Rattle.token_scanner.specs.Words as token
use Rattle.source_tree.specs.Source.{Phrase, Stmt}
use Rattle.source_tree.specs.Source as source
use Rattle.token_readers.specs.Reading.{mark_at, name_at, comparison, additive, multiplicative, way_of}
use Rattle.procedure_parser.specs.Reading.{over_as, plain_atom_at, atom_at, unary_at, term_at, sum_at, expr_with, expr_at, many_at, whole_at, comma_expr_at, exprs_at, args_at, entry_at, value_at, read_at, bound_at, bind_at, update_at, return_at, grain_at, range_at, iteration_at, loop_at, Blocks, else_at, if_at, keyword_at, statement_at, goes_on, end_at, body_at, block_at}
use Rattle.procedure_parser.specs.Grammar.{Form, Many, Whole, CommaExpr, comma_expr, Exprs, exprs, Args, no_args, args, EnterWord, calls, spawns, Entry, entry, Grained, no_grain, grained, Ranged, ranged, Statement, binds, binds_entry, binds_read, enters, syncs, updates, tests, tests_else, loops, Body, plain, returning, Block}
use Rattle.procedure_parser.proofs.Law.{LawAt}
use Rattle.procedure_parser.proofs.Head.{on_bool, on_option, starts_is, starts_local}
use Rattle.procedure_parser.proofs.OnlyExpressions.{only_expr, EndsExpr}
use Rattle.procedure_parser.proofs.Numbers.{only_within}
use Rattle.procedure_parser.proofs.Lists.{only_many, many_ends}
use Rattle.procedure_parser.proofs.Short.{IsShort, comma_short, statement_short, block_short}
use Rattle.procedure_parser.proofs.Statements.{comma_law, way_is, goes_on_local, statement_law, empty_block, block_law}
use Rattle.token_readers.specs.Limits.{most_open, most_levels}

-- ---- expressions

ended : (ts : Words) → starts OpenBracket ts ≡ false → multiplicative ts ≡ None → additive ts ≡ None → comparison ts ≡ None → EndsExpr ts
ended ts b m a c = record { sum = record { term = record { name = record { bracket = b }; operation = m }; operation = a }; operation = c }

ends_semicolon : (l : ℕ) (us : Words) → EndsExpr ((Sign Semicolon, l) ∷ us)
unfolding additive multiplicative comparison
ends_semicolon l us = ended ((Sign Semicolon, l) ∷ us) refl refl refl refl

ends_comma : (l : ℕ) (us : Words) → EndsExpr ((Sign Comma, l) ∷ us)
unfolding additive multiplicative comparison
ends_comma l us = ended ((Sign Comma, l) ∷ us) refl refl refl refl

ends_close : (l : ℕ) (us : Words) → EndsExpr ((Sign CloseParen, l) ∷ us)
unfolding additive multiplicative comparison
ends_close l us = ended ((Sign CloseParen, l) ∷ us) refl refl refl refl

ends_brace : (l : ℕ) (us : Words) → EndsExpr ((Sign OpenBrace, l) ∷ us)
unfolding additive multiplicative comparison
ends_brace l us = ended ((Sign OpenBrace, l) ∷ us) refl refl refl refl

ends_range : (l : ℕ) (us : Words) → EndsExpr ((Sign Range, l) ∷ us)
unfolding additive multiplicative comparison
ends_range l us = ended ((Sign Range, l) ∷ us) refl refl refl refl

ends_colon : (l : ℕ) (us : Words) → EndsExpr ((Sign Colon, l) ∷ us)
unfolding additive multiplicative comparison
ends_colon l us = ended ((Sign Colon, l) ∷ us) refl refl refl refl

ends_grain : (l : ℕ) (us : Words) → EndsExpr ((Sign Grain, l) ∷ us)
unfolding additive multiplicative comparison
ends_grain l us = ended ((Sign Grain, l) ∷ us) refl refl refl refl

ends_over : (l : ℕ) (us : Words) → EndsExpr ((Over, l) ∷ us)
unfolding additive multiplicative comparison
ends_over l us = ended ((Over, l) ∷ us) refl refl refl refl

only_whole : (e : Phrase) (ts us : Words) → Whole e ts us → EndsExpr us → whole_at ts ≡ Ok (e, us)
unfolding whole_at
only_whole e ts us w h = only_expr most_open most_levels e ts us w.0 w.1 h

-- an expression doesn't begin so
abbrev NoExpr : Word → Type 0
NoExpr w = (l : ℕ) (us : Words) → whole_at ((w, l) ∷ us) ≡ Err ((w, l) ∷ us)

not_close : NoExpr (Sign CloseParen)
unfolding whole_at expr_at expr_with sum_at term_at unary_at atom_at plain_atom_at name_at
not_close l us = refl

not_read : NoExpr (Sign mark.Read)
unfolding whole_at expr_at expr_with sum_at term_at unary_at atom_at plain_atom_at name_at
not_read l us = refl

not_way : (w : Word) (h : Way) → EnterWord w h → NoExpr w
unfolding whole_at expr_at expr_with sum_at term_at unary_at atom_at plain_atom_at name_at
not_way _ _ calls l us = refl
not_way _ _ spawns l us = refl

no_start : (m : Mark) → NoExpr (Sign m) → (e : Phrase) (ts us : Words) → whole_at ts ≡ Ok (e, us) → starts m ts ≡ false
no_start m absent e ts us f =
    elim (on_bool (starts m ts)) [
      | inr n ↦ n
      | inl h ↦
          let s = starts_is m ts h in
          let w : whole_at ts ≡ Err ts = subst (λ (w : Words). whole_at w ≡ Err w) (sym s.2) (absent s.0 s.1) in
          absurd (cc)
    ]

no_way : (e : Phrase) (ts us : Words) → whole_at ts ≡ Ok (e, us) → way_of ts ≡ None
no_way e ts us f =
    elim (on_option (way_of ts)) [
      | inl n ↦ n
      | inr (h, k) ↦
          let s = way_is ts h k in
          let w : whole_at ts ≡ Err ts = subst (λ (w : Words). whole_at w ≡ Err w) (sym s.3) (not_way s.0 h s.4 s.1 s.2) in
          absurd (cc)
    ]

-- ---- lists of expressions

only_comma : (ts us : Words) (e : Phrase) → CommaExpr e ts us → (starts Comma ts ≡ true) × EndsExpr ts × (EndsExpr us → comma_expr_at ts ≡ Ok (e, us))
unfolding comma_expr_at mark_at
only_comma _ _ _ (comma_expr e l ts us w) = (refl, ends_comma l ts, λ h. only_whole e ts us w h)

only_more : (es : List Phrase) (ts us : Words) → Many CommaExpr es ts us → EndsExpr us → starts Comma us ≡ false → many_at (starts Comma) comma_expr_at ts ≡ Ok (es, us)
only_more es ts us m h g = only_many (starts Comma) comma_expr_at CommaExpr (starts_local Comma) refl (λ ts g. comma_law ts) comma_short EndsExpr only_comma es ts us m h g

only_exprs : (es : List Phrase) (ts us : Words) → Exprs es ts us → EndsExpr us → starts Comma us ≡ false → exprs_at ts ≡ Ok (es, us)
unfolding exprs_at
only_exprs _ _ _ (exprs e es ts us vs w m) h g =
    let b = many_ends (starts Comma) comma_expr_at CommaExpr (starts_local Comma) refl (λ ts g. comma_law ts) comma_short EndsExpr only_comma es us vs m h in
    let f = only_whole e ts us w b in
    let i = only_more es us vs m h g in
    rw (f, i) refl

exprs_not_close : (es : List Phrase) (ts us : Words) → exprs_at ts ≡ Ok (es, us) → starts CloseParen ts ≡ false
unfolding exprs_at
exprs_not_close es ts us e =
    elim (on_bool (starts CloseParen ts)) [
      | inr n ↦ n
      | inl h ↦
          let s = starts_is CloseParen ts h in
          let w : whole_at ts ≡ Err ts = subst (λ (w : Words). whole_at w ≡ Err w) (sym s.2) (not_close s.0 s.1) in
          let k : exprs_at ts ≡ Err ts = rw w refl in
          absurd (cc)
    ]

only_args : (es : List Phrase) (ts us : Words) → Args es ts us → args_at ts ≡ Ok (es, us)
unfolding args_at mark_at
only_args _ _ _ (no_args k l us) = refl
only_args _ _ _ (args es k l ts us e) =
    let f = only_exprs es ts ((Sign CloseParen, l) ∷ us) e (ends_close l us) refl in
    let n = exprs_not_close es ts ((Sign CloseParen, l) ∷ us) f in
    rw (n, f) refl

-- ---- statements without blocks

only_entry : (l : ℕ) (x : Option (List ℕ)) (h : Way) (s : Stmt) (ts us : Words) → Entry l x h s ts us → entry_at l x h ts ≡ Ok (s, us)
unfolding entry_at name_at mark_at
only_entry l x h _ _ _ (entry f es k m ts us a) = let e = only_args es ts ((Sign Semicolon, m) ∷ us) a in rw e refl

bind_entry : (l k j : ℕ) (x : List ℕ) (w : Word) (h : Way) (s : Stmt) (ts us : Words) → EnterWord w h → entry_at l (Some x) h ts ≡ Ok (s, us) → bind_at l x ((Sign Assign, k) ∷ (w, j) ∷ ts) ≡ Ok (s, us)
unfolding bind_at bound_at mark_at way_of
bind_entry l k j x _ _ s ts us calls e = e
bind_entry l k j x _ _ s ts us spawns e = e

bind_value : (l k m : ℕ) (x : List ℕ) (e : Phrase) (ts us : Words) → Whole e ts ((Sign Semicolon, m) ∷ us) → bind_at l x ((Sign Assign, k) ∷ ts) ≡ Ok (source.Binds l x e, us)
unfolding bind_at bound_at value_at mark_at
bind_value l k m x e ts us w =
    let f = only_whole e ts ((Sign Semicolon, m) ∷ us) w (ends_semicolon m us) in
    let r = no_start mark.Read not_read e ts ((Sign Semicolon, m) ∷ us) f in
    let n = no_way e ts ((Sign Semicolon, m) ∷ us) f in
    rw (r, n, f) refl

only_grain : (g : ℕ) (ts us : Words) → Grained g ts us → starts Grain us ≡ false → grain_at ts ≡ Ok (g, us)
unfolding grain_at
only_grain _ _ _ (no_grain us) h = rw h refl
only_grain _ _ _ (grained g l ts us w) h = only_within 1 65536 g ts us w

grained_ends : (g : ℕ) (ts us : Words) → Grained g ts us → EndsExpr us → EndsExpr ts
grained_ends _ _ _ (no_grain us) h = h
grained_ends _ _ _ (grained g l ts us w) h = ends_grain l ts

only_range : (e f : Phrase) (ts us : Words) → Ranged e f ts us → EndsExpr us → range_at ts ≡ Ok ((e, f), us)
unfolding range_at mark_at
only_range _ _ _ _ (ranged e f l ts us vs w z) h =
    let a = only_whole e ts ((Sign Range, l) ∷ us) w (ends_range l us) in
    let b = only_whole f us vs z h in
    rw (a, b) refl

only_loop : (l i j k h m g : ℕ) (x f : List ℕ) (low high : Phrase) (es : List Phrase) (ts us vs ws : Words) → Ranged low high ts us → Grained g us ((Sign Colon, k) ∷ (token.Name f, h) ∷ vs) → Args es vs ((Sign Semicolon, m) ∷ ws) → loop_at l ((token.Name x, i) ∷ (Sign mark.In, j) ∷ ts) ≡ Ok (source.Loops l x low high g f es, ws)
unfolding loop_at iteration_at name_at mark_at
only_loop l i j k h m g x f low high es ts us vs ws r d a =
    let p = only_range low high ts us r (grained_ends g us _ d (ends_colon k _)) in
    let q = only_grain g us _ d refl in
    let o = only_args es vs ((Sign Semicolon, m) ∷ ws) a in
    rw (p, q, o) refl

-- ---- blocks

enter_begins : (w : Word) (h : Way) (l : ℕ) (ts : Words) → EnterWord w h → (goes_on ((w, l) ∷ ts) ≡ true) × (starts Else ((w, l) ∷ ts) ≡ false)
enter_begins _ _ l ts calls = (refl, refl)
enter_begins _ _ l ts spawns = (refl, refl)

module _ (block : Blocks) (B : Form (List Stmt)) (only_block : (ss : List Stmt) (ts us : Words) → B ss ts us → block ts ≡ Ok (ss, us)) (begins : (ss : List Stmt) (ts us : Words) → B ss ts us → EndsExpr ts) where
  lone_entry : (l : ℕ) (w : Word) (h : Way) (s : Stmt) (ts us : Words) → EnterWord w h → entry_at l None h ts ≡ Ok (s, us) → statement_at block ((w, l) ∷ ts) ≡ Ok (s, us)
  unfolding statement_at way_of
  lone_entry l _ _ s ts us calls e = e
  lone_entry l _ _ s ts us spawns e = e

  statement_begins : (s : Stmt) (ts us : Words) → Statement B s ts us → (goes_on ts ≡ true) × (starts Else ts ≡ false)
  statement_begins _ _ _ (binds l k m x e ts us w) = (refl, refl)
  statement_begins _ _ _ (binds_entry l k j x w h s ts us ew en) = (refl, refl)
  statement_begins _ _ _ (binds_read l k j i m x r us) = (refl, refl)
  statement_begins _ _ _ (enters l w h s ts us ew en) = enter_begins w h l ts ew
  statement_begins _ _ _ (syncs l k us) = (refl, refl)
  statement_begins _ _ _ (updates l k m r es ts us e) = (refl, refl)
  statement_begins _ _ _ (tests l e a ts us vs w b) = (refl, refl)
  statement_begins _ _ _ (tests_else l k e a b ts us vs ws w p q) = (refl, refl)
  statement_begins _ _ _ (loops l i j k h m g x f low high es ts us vs ws r d a) = (refl, refl)

  only_statement : (s : Stmt) (ts us : Words) → Statement B s ts us → starts Else us ≡ false → statement_at block ts ≡ Ok (s, us)
  unfolding statement_at bind_at bound_at read_at update_at keyword_at if_at else_at name_at mark_at way_of
  only_statement _ _ _ (binds l k m x e ts us w) n = bind_value l k m x e ts us w
  only_statement _ _ _ (binds_entry l k j x w h s ts us ew en) n = bind_entry l k j x w h s ts us ew (only_entry l (Some x) h s ts us en)
  only_statement _ _ _ (binds_read l k j i m x r us) n = refl
  only_statement _ _ _ (enters l w h s ts us ew en) n = lone_entry l w h s ts us ew (only_entry l None h s ts us en)
  only_statement _ _ _ (syncs l k us) n = refl
  only_statement _ _ _ (updates l k m r es ts us e) n =
      let f = only_exprs es ts ((Sign Semicolon, m) ∷ us) e (ends_semicolon m us) refl in
      rw f refl
  only_statement _ _ _ (tests l e a ts us vs w b) n =
      let f = only_whole e ts us w (begins a us vs b) in
      let g = only_block a us vs b in
      rw (f, g, n) refl
  only_statement _ _ _ (tests_else l k e a b ts us vs ws w p q) n =
      let f = only_whole e ts us w (begins a us ((Sign Else, k) ∷ vs) p) in
      let g = only_block a us ((Sign Else, k) ∷ vs) p in
      let h = only_block b vs ws q in
      rw (f, g, h) refl
  only_statement _ _ _ (loops l i j k h m g x f low high es ts us vs ws r d a) n = only_loop l i j k h m g x f low high es ts us vs ws r d a

  module _ (block_law : (ts : Words) → LawAt block B ts) (empty : (v : Words) → (y : Words) × (b : List Stmt) × B b y v) (short : IsShort B) where
    only_statements : (ss : List Stmt) (ts us : Words) → Many (Statement B) ss ts us → starts Else us ≡ false → goes_on us ≡ false → many_at goes_on (statement_at block) ts ≡ Ok (ss, us)
    only_statements ss ts us m n g = only_many goes_on (statement_at block) (Statement B) goes_on_local refl (λ ts g. statement_law block B block_law empty short ts) (statement_short B short) (λ ts. starts Else ts ≡ false) (λ ts us s q. let b = statement_begins s ts us q in (b.0, b.1, λ n. only_statement s ts us q n)) ss ts us m n g

    only_body : (ss : List Stmt) (ts us : Words) → Body B ss ts us → body_at block ts ≡ Ok (ss, us)
    unfolding body_at end_at return_at mark_at
    only_body _ _ _ (plain ss l ts us m) = let f = only_statements ss ts ((Sign CloseBrace, l) ∷ us) m refl refl in rw f refl
    only_body _ _ _ (returning ss e l j k ts us vs m w) =
        let f = only_statements ss ts ((Sign Return, l) ∷ us) m refl refl in
        let i = only_whole e us ((Sign Semicolon, j) ∷ (Sign CloseBrace, k) ∷ vs) w (ends_semicolon j ((Sign CloseBrace, k) ∷ vs)) in
        rw (f, i) refl

-- what begins a block ends an expression
block_ends : (n : ℕ) (ss : List Stmt) (ts us : Words) → Block n ss ts us → EndsExpr ts
block_ends zero ss ts us (l, e, is) = subst (λ (w : Words). EndsExpr w) (sym is) (ends_over l us)
block_ends (suc n) ss ts us (l, vs, is, b) = subst (λ (w : Words). EndsExpr w) (sym is) (ends_brace l vs)

nothing_over : (ss : List Stmt) (l : ℕ) (us : Words) → ss ≡ [] → block_at 0 ((Over, l) ∷ us) ≡ Ok (ss, us)
unfolding block_at over_as
nothing_over ss l us e = rw e refl

pub only_block : (n : ℕ) (ss : List Stmt) (ts us : Words) → Block n ss ts us → block_at n ts ≡ Ok (ss, us)
unfolding block_at mark_at
only_block zero ss ts us (l, e, is) = subst (λ (w : Words). block_at 0 w ≡ Ok (ss, us)) (sym is) (nothing_over ss l us e)
only_block (suc n) ss ts us (l, vs, is, b) = subst (λ (w : Words). block_at (suc n) w ≡ Ok (ss, us)) (sym is) (only_body (block_at n) (Block n) (only_block n) (block_ends n) (block_law n) (empty_block n) (block_short n) ss vs us b)
