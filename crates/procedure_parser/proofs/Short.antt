-- What is in a form is not empty.
use Rattle.std.proofs.Common.{ℕ, zero, suc, ◌<◌, ◌≤◌, Bool, List, length, ap, arith}
use Rattle.std.specs.Prelude.{nat_eq}
use Rattle.token_scanner.specs.declared.token.Mark.{Mark}
use Rattle.meaning.specs.declared.tree.Operator.{Operator}
use Rattle.token_scanner.specs.Words.{Word, Words}
use Rattle.source_tree.specs.Source.{Phrase, Stmt}
use Rattle.procedure_parser.specs.Grammar.{Form, Atom, number, variable, cell, has, has_over, limit, column_sum, paren, Unary, atom, negative, Chain, over, goes_on, Additive, Multiplicative, Term, Sum, Compared, alone, against, Inside, Many, nil, cons, Whole, CommaExpr, comma_expr, Exprs, exprs, Args, no_args, args, Entry, entry, Within, within, Grained, no_grain, grained, Ranged, ranged, Statement, binds, binds_entry, binds_read, enters, syncs, updates, tests, tests_else, loops, Body, plain, returning, Block}
use Rattle.token_readers.specs.Limits.{most_open}

abbrev pub IsShort : {A : Type 0} → Form A → Type 0
IsShort R = (a : _) (ts us : Words) → R a ts us → length us < length ts

module _ (full : Bool) (I : Mark → Form Phrase) (inside : (m : Mark) → IsShort (I m)) where
  atom_short : IsShort (Atom full I)
  atom_short _ _ _ (number n l us) = omega arith
  atom_short _ _ _ (variable x l us) = omega arith
  atom_short _ _ _ (cell t c e l i j k ts us h) = omega (arith, inside _ _ _ _ h)
  atom_short _ _ _ (has t e l i j ts us h) = omega (arith, inside _ _ _ _ h)
  atom_short _ _ _ (has_over t l i j us f) = omega arith
  atom_short _ _ _ (limit t l i us) = omega arith
  atom_short _ _ _ (column_sum t c l i j k us) = omega arith
  atom_short _ _ _ (paren e l ts us i) = omega (arith, inside _ _ _ _ i)

  unary_short : IsShort (Unary full I)
  unary_short _ _ _ (atom e ts us a) = atom_short e ts us a
  unary_short _ _ _ (negative e l ts us u) = omega (arith, unary_short e ts us u)

chain_short : (Op : Word → Operator → Type 0) (Next : Form Phrase) → IsShort Next → (left e : Phrase) (ts us : Words) → Chain Op Next left e ts us → length us ≤ length ts
chain_short Op Next h _ _ _ _ (over e ts) = omega arith
chain_short Op Next h _ _ _ _ (goes_on left b e w o l ts us vs op n c) = omega (arith, h b ts us n, chain_short Op Next h _ _ us vs c)

compared_short : (S : Form Phrase) → IsShort S → IsShort (Compared S)
compared_short S h _ _ _ (alone e ts us s) = h e ts us s
compared_short S h _ _ _ (against a b w o l ts us vs c s t) = omega (arith, h a ts _ s, h b us vs t)

module _ (full : Bool) (I : Mark → Form Phrase) (h : (m : Mark) → IsShort (I m)) where
  term_short : IsShort (Term full I)
  term_short e ts us (first, vs, u, c) = omega (arith, unary_short full I h first ts vs u, chain_short Multiplicative (Unary full I) (unary_short full I h) first e vs us c)

  sum_short : IsShort (Sum full I)
  sum_short e ts us (first, vs, u, c) = omega (arith, term_short first ts vs u, chain_short Additive (Term full I) term_short first e vs us c)

inside_short : (n : ℕ) (m : Mark) → IsShort (Inside n m)
inside_short zero m e ts us i = absurd i
inside_short (suc n) m e ts us (l, vs, is, s) = omega (arith, ap length is, compared_short (Sum (nat_eq n 0) (Inside n)) (sum_short (nat_eq n 0) (Inside n) (inside_short n)) e vs us s)

pub whole_short : IsShort Whole
whole_short e ts us w = compared_short (Sum (nat_eq most_open 0) (Inside most_open)) (sum_short (nat_eq most_open 0) (Inside most_open) (inside_short most_open)) e ts us w.0

pub many_short : {A : Type 0} (R : Form A) → IsShort R → (xs : List A) (ts us : Words) → Many R xs ts us → length us ≤ length ts
many_short R h _ _ _ (nil ts) = omega arith
many_short R h _ _ _ (cons x xs ts us vs r m) = omega (arith, h x ts us r, many_short R h xs us vs m)

pub comma_short : IsShort CommaExpr
comma_short _ _ _ (comma_expr e l ts us w) = omega (arith, whole_short e ts us w)

exprs_short : IsShort Exprs
exprs_short _ _ _ (exprs e es ts us vs w m) = omega (arith, whole_short e ts us w, many_short CommaExpr comma_short es us vs m)

args_short : IsShort Args
args_short _ _ _ (no_args k l us) = omega arith
args_short _ _ _ (args es k l ts us e) = omega (arith, exprs_short _ _ _ e)

entry_short : (l : ℕ) (x : _) (h : _) → IsShort (Entry l x h)
entry_short l x h _ _ _ (entry f es k m ts us a) = omega (arith, args_short _ _ _ a)

pub within_short : (low high : ℕ) → IsShort (Within low high)
within_short low high _ _ _ (within n l us g h) = omega arith

grained_short : (g : ℕ) (ts us : Words) → Grained g ts us → length us ≤ length ts
grained_short _ _ _ (no_grain us) = omega arith
grained_short _ _ _ (grained g l ts us w) = omega (arith, within_short _ _ _ _ _ w)

ranged_short : (e f : Phrase) (ts us : Words) → Ranged e f ts us → length us < length ts
ranged_short _ _ _ _ (ranged e f l ts us vs w v) = omega (arith, whole_short _ _ _ w, whole_short _ _ _ v)

module _ (B : Form (List Stmt)) (block : IsShort B) where
  pub statement_short : IsShort (Statement B)
  statement_short _ _ _ (binds l k m x e ts us w) = omega (arith, whole_short _ _ _ w)
  statement_short _ _ _ (binds_entry l k j x w g s ts us ew en) = omega (arith, entry_short _ _ _ _ _ _ en)
  statement_short _ _ _ (binds_read l k j i m x r us) = omega arith
  statement_short _ _ _ (enters l w g s ts us ew en) = omega (arith, entry_short _ _ _ _ _ _ en)
  statement_short _ _ _ (syncs l k us) = omega arith
  statement_short _ _ _ (updates l k m r es ts us e) = omega (arith, exprs_short _ _ _ e)
  statement_short _ _ _ (tests l e a ts us vs w b) = omega (arith, whole_short _ _ _ w, block _ _ _ b)
  statement_short _ _ _ (tests_else l k e a b ts us vs ws w p q) = omega (arith, whole_short _ _ _ w, block _ _ _ p, block _ _ _ q)
  statement_short _ _ _ (loops l i j k h m g x f low high es ts us vs ws r d a) = omega (arith, ranged_short _ _ _ _ r, grained_short _ _ _ d, args_short _ _ _ a)

  pub body_short : IsShort (Body B)
  body_short _ _ _ (plain ss l ts us m) = omega (arith, many_short (Statement B) statement_short _ _ _ m)
  body_short _ _ _ (returning ss e l j k ts us vs m w) = omega (arith, many_short (Statement B) statement_short _ _ _ m, whole_short _ _ _ w)

pub block_short : (n : ℕ) → IsShort (Block n)
block_short zero ss ts us (l, e, is) = omega (arith, ap length is)
block_short (suc n) ss ts us (l, vs, is, b) = omega (arith, ap length is, body_short (Block n) (block_short n) ss vs us b)
