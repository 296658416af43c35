-- What is in the grammar of expressions is read.
use Rattle.std.proofs.Common.{◌≡◌, ℕ, zero, suc, ◌+◌, ◌-◌, ◌<◌, ◌≤◌, Bool, true, false, ltb, ◌∷◌, Option, Some, None, Ok, refl, sym, subst, arith}
use Rattle.std.specs.Prelude.{nat_eq}
use Rattle.std.proofs.lemmas.Bool.{lt-ltb, eq-eqb}
use Rattle.token_scanner.specs.declared.token.Mark.{Mark}
use Rattle.token_scanner.specs.declared.token.Mark.TheVariants.{OpenParen, CloseParen, OpenBracket, CloseBracket, Minus}
use Rattle.meaning.specs.declared.tree.Operator.{Operator}
use Rattle.token_scanner.specs.Words.{Word, Sign, Words, starts, rest}
use Rattle.source_tree.specs.Source.{Phrase, Bin, depth}
use Rattle.token_readers.specs.Reading.{mark_at, name_at, comparison, additive, multiplicative}
use Rattle.procedure_parser.specs.Reading.{Reader, over_as, after_name_at, row_at, has_at, limit_at, column_sum_at, plain_atom_at, atom_at, unary_at, chain_at, term_at, sum_at, against_at, expr_with, inside_at, expr_at}
use Rattle.procedure_parser.specs.Grammar.{Form, Atom, number, variable, cell, has, has_over, limit, column_sum, paren, Unary, atom, negative, Chain, over, goes_on, Comparison, equal, unequal, less, at_most, greater, at_least, Additive, Multiplicative, adds, subtracts, times, divides, remains, Term, Sum, Compared, alone, against, Inside, Expression}
use Rattle.procedure_parser.proofs.Head.{starts_is}
use Rattle.procedure_parser.proofs.Expressions.{depth_pos, not_full}

-- ---- what may come behind: nothing that goes on with a name, with a term, with a sum, with a comparison

pub record EndsName (ts : Words) : Type 0 where
  pub bracket : starts OpenBracket ts ≡ false

pub record EndsTerm (ts : Words) : Type 0 where
  pub name : EndsName ts
  pub operation : multiplicative ts ≡ None

pub record EndsSum (ts : Words) : Type 0 where
  pub term : EndsTerm ts
  pub operation : additive ts ≡ None

pub record EndsExpr (ts : Words) : Type 0 where
  pub sum : EndsSum ts
  pub operation : comparison ts ≡ None

-- what stands in marks is read
abbrev pub OnlyInside : Bool → Reader → (Mark → Form Phrase) → Type 0
OnlyInside full inside I = (m : Mark) (r : ℕ) (e : Phrase) (ts us : Words) → I m e ts us → depth e ≤ r → EndsExpr us → (full ≡ false) × (starts m ts ≡ true) × (inside r ts ≡ Ok (e, us))

closes : (l : ℕ) (us : Words) → EndsExpr ((Sign CloseParen, l) ∷ us)
unfolding additive multiplicative comparison
closes l us = record { sum = record { term = record { name = record { bracket = refl }; operation = refl }; operation = refl }; operation = refl }

closes_bracket : (l : ℕ) (us : Words) → EndsExpr ((Sign CloseBracket, l) ∷ us)
unfolding additive multiplicative comparison
closes_bracket l us = record { sum = record { term = record { name = record { bracket = refl }; operation = refl }; operation = refl }; operation = refl }

module _ (full : Bool) (inside : Reader) (I : Mark → Form Phrase) (only : OnlyInside full inside I) where
  only_atom : (r : ℕ) (e : Phrase) (ts us : Words) → Atom full I e ts us → depth e ≤ r → EndsName us → atom_at full inside r ts ≡ Ok (e, us)
  unfolding atom_at plain_atom_at after_name_at row_at has_at limit_at column_sum_at name_at mark_at over_as
  only_atom r _ _ _ (number n l us) le ends = refl
  only_atom r _ _ _ (variable x l us) le ends = rw ends.bracket refl
  only_atom r _ _ _ (cell t c e l i j k ts us h) le ends =
      let o = only OpenBracket (r - 1) e ts _ h (omega (arith, le)) (closes_bracket i _) in
      let lt : ltb 1 r ≡ true = lt-ltb _ _ (omega (arith, le, depth_pos e)) in
      rw (o.1, lt, o.2) refl
  only_atom r _ _ _ (has t e l i j ts us h) le ends =
      let o = only OpenBracket (r - 1) e ts _ h (omega (arith, le)) (closes_bracket j us) in
      let lt : ltb 1 r ≡ true = lt-ltb _ _ (omega (arith, le, depth_pos e)) in
      rw (lt, o.0, o.1, o.2) refl
  only_atom r _ _ _ (has_over t l i j us f) le ends =
      let lt : ltb 1 r ≡ true = lt-ltb _ _ (omega (arith, le)) in
      rw (lt, f) refl
  only_atom r _ _ _ (limit t l i us) le ends = refl
  only_atom r _ _ _ (column_sum t c l i j k us) le ends = refl
  only_atom r _ _ _ (paren e l ts us i) le ends =
      let o = only OpenParen r e ts ((Sign CloseParen, l) ∷ us) i le (closes l us) in
      rw (o.1, o.2) refl

  atom_not_minus : (e : Phrase) (ts us : Words) → Atom full I e ts us → starts Minus ts ≡ false
  atom_not_minus _ _ _ (number n l us) = refl
  atom_not_minus _ _ _ (variable x l us) = refl
  atom_not_minus _ _ _ (cell t c e l i j k ts us h) = refl
  atom_not_minus _ _ _ (has t e l i j ts us h) = refl
  atom_not_minus _ _ _ (has_over t l i j us f) = refl
  atom_not_minus _ _ _ (limit t l i us) = refl
  atom_not_minus _ _ _ (column_sum t c l i j k us) = refl
  atom_not_minus _ _ _ (paren e l ts us i) =
      let o = only OpenParen (depth e) e ts ((Sign CloseParen, l) ∷ us) i (omega arith) (closes l us) in
      let s = starts_is OpenParen ts o.1 in
      subst (λ (w : Words). starts Minus w ≡ false) (sym s.2) refl

  pub only_unary : (r : ℕ) (e : Phrase) (ts us : Words) → Unary full I e ts us → depth e ≤ r → EndsName us → unary_at full inside r ts ≡ Ok (e, us)
  unfolding unary_at
  only_unary zero e ts us u le ends = absurd (omega (arith, depth_pos e))
  only_unary (suc r) _ _ _ (atom e ts us a) le ends = let n = atom_not_minus e ts us a in rw n (only_atom (suc r) e ts us a le ends)
  only_unary (suc r) _ _ _ (negative e l ts us u) le ends =
      let i = only_unary r e ts us u (omega arith) ends in
      let lt : ltb 0 r ≡ true = lt-ltb _ _ (omega (arith, depth_pos e)) in
      rw (lt, i) refl

module _ (operation : Words → Option Operator) (Op : Word → Operator → Type 0) (op_of : (w : Word) (l : ℕ) (ts : Words) (o : Operator) → Op w o → operation ((w, l) ∷ ts) ≡ Some o) (next : Reader) (Next : Form Phrase) (Ends : Words → Type 0) (op_ends : (w : Word) (l : ℕ) (ts : Words) (o : Operator) → Op w o → Ends ((w, l) ∷ ts)) (next_only : (r : ℕ) (e : Phrase) (ts us : Words) → Next e ts us → depth e ≤ r → Ends us → next r ts ≡ Ok (e, us)) where
  pub chain_depth : (left e : Phrase) (ts us : Words) → Chain Op Next left e ts us → depth left ≤ depth e
  chain_depth _ _ _ _ (over e ts) = omega arith
  chain_depth _ _ _ _ (goes_on left b e w o l ts us vs op n c) = omega (arith, chain_depth (Bin o left b) e us vs c)

  pub chain_ends : (left e : Phrase) (ts us : Words) → Chain Op Next left e ts us → Ends us → Ends ts
  chain_ends _ _ _ _ (over e ts) h = h
  chain_ends _ _ _ _ (goes_on left b e w o l ts us vs op n c) h = op_ends w l ts o op

  pub only_chain : (left e : Phrase) (ts us : Words) (c : Chain Op Next left e ts us) (k r : ℕ) → depth e ≤ r → r < k + depth left → Ends us → operation us ≡ None → chain_at operation next k r left ts ≡ Ok (e, us)
  unfolding chain_at
  only_chain _ _ _ _ (over e ts) zero r le fuel ends none = absurd (omega arith)
  only_chain _ _ _ _ (over e ts) (suc k) r le fuel ends none = rw none refl
  only_chain _ _ _ _ (goes_on left b e w o l ts us vs op n c) zero r le fuel ends none = absurd (omega (arith, chain_depth (Bin o left b) e us vs c))
  only_chain _ _ _ _ (goes_on left b e w o l ts us vs op n c) (suc k) r le fuel ends none =
      let d : depth (Bin o left b) ≤ depth e = chain_depth (Bin o left b) e us vs c in
      let lt : ltb (depth left) r ≡ true = lt-ltb _ _ (omega arith) in
      let first = next_only (r - 1) b ts us n (omega arith) (chain_ends (Bin o left b) e us vs c ends) in
      let rest' = only_chain (Bin o left b) e us vs c k r le (omega arith) ends none in
      rw (op_of w l ts o op, lt, first) rest'

-- ---- operators

times_of : (w : Word) (l : ℕ) (ts : Words) (o : Operator) → Multiplicative w o → multiplicative ((w, l) ∷ ts) ≡ Some o
unfolding multiplicative
times_of _ l ts _ times = refl
times_of _ l ts _ divides = refl
times_of _ l ts _ remains = refl

times_ends : (w : Word) (l : ℕ) (ts : Words) (o : Operator) → Multiplicative w o → EndsName ((w, l) ∷ ts)
times_ends _ l ts _ times = record { bracket = refl }
times_ends _ l ts _ divides = record { bracket = refl }
times_ends _ l ts _ remains = record { bracket = refl }

adds_of : (w : Word) (l : ℕ) (ts : Words) (o : Operator) → Additive w o → additive ((w, l) ∷ ts) ≡ Some o
unfolding additive
adds_of _ l ts _ adds = refl
adds_of _ l ts _ subtracts = refl

adds_ends : (w : Word) (l : ℕ) (ts : Words) (o : Operator) → Additive w o → EndsTerm ((w, l) ∷ ts)
unfolding multiplicative
adds_ends _ l ts _ adds = record { name = record { bracket = refl }; operation = refl }
adds_ends _ l ts _ subtracts = record { name = record { bracket = refl }; operation = refl }

compares_of : (w : Word) (l : ℕ) (ts : Words) (o : Operator) → Comparison w o → comparison ((w, l) ∷ ts) ≡ Some o
unfolding comparison
compares_of _ l ts _ equal = refl
compares_of _ l ts _ unequal = refl
compares_of _ l ts _ less = refl
compares_of _ l ts _ at_most = refl
compares_of _ l ts _ greater = refl
compares_of _ l ts _ at_least = refl

compares_ends : (w : Word) (l : ℕ) (ts : Words) (o : Operator) → Comparison w o → EndsSum ((w, l) ∷ ts)
unfolding multiplicative additive
compares_ends _ l ts _ equal = record { term = record { name = record { bracket = refl }; operation = refl }; operation = refl }
compares_ends _ l ts _ unequal = record { term = record { name = record { bracket = refl }; operation = refl }; operation = refl }
compares_ends _ l ts _ less = record { term = record { name = record { bracket = refl }; operation = refl }; operation = refl }
compares_ends _ l ts _ at_most = record { term = record { name = record { bracket = refl }; operation = refl }; operation = refl }
compares_ends _ l ts _ greater = record { term = record { name = record { bracket = refl }; operation = refl }; operation = refl }
compares_ends _ l ts _ at_least = record { term = record { name = record { bracket = refl }; operation = refl }; operation = refl }

module _ (full : Bool) (inside : Reader) (I : Mark → Form Phrase) (only : OnlyInside full inside I) where
  only_term : (r : ℕ) (e : Phrase) (ts us : Words) → Term full I e ts us → depth e ≤ r → EndsTerm us → term_at full inside r ts ≡ Ok (e, us)
  unfolding term_at
  only_term r e ts us (first, vs, u, c) le ends =
      let n = only_unary full inside I only in
      let d = chain_depth multiplicative Multiplicative times_of (unary_at full inside) (Unary full I) EndsName times_ends n first e vs us c in
      let h = chain_ends multiplicative Multiplicative times_of (unary_at full inside) (Unary full I) EndsName times_ends n first e vs us c ends.name in
      let q = only_chain multiplicative Multiplicative times_of (unary_at full inside) (Unary full I) EndsName times_ends n first e vs us c r r le (omega (arith, depth_pos first)) ends.name ends.operation in
      let f = n r first ts vs u (omega (arith, d)) h in
      rw f q

  only_sum : (r : ℕ) (e : Phrase) (ts us : Words) → Sum full I e ts us → depth e ≤ r → EndsSum us → sum_at full inside r ts ≡ Ok (e, us)
  unfolding sum_at
  only_sum r e ts us (first, vs, u, c) le ends =
      let n = only_term in
      let d = chain_depth additive Additive adds_of (term_at full inside) (Term full I) EndsTerm adds_ends n first e vs us c in
      let h = chain_ends additive Additive adds_of (term_at full inside) (Term full I) EndsTerm adds_ends n first e vs us c ends.term in
      let q = only_chain additive Additive adds_of (term_at full inside) (Term full I) EndsTerm adds_ends n first e vs us c r r le (omega (arith, depth_pos first)) ends.term ends.operation in
      let f = n r first ts vs u (omega (arith, d)) h in
      rw f q

  only_compared : (r : ℕ) (e : Phrase) (ts us : Words) → Compared (Sum full I) e ts us → depth e ≤ r → EndsExpr us → expr_with full inside r ts ≡ Ok (e, us)
  unfolding expr_with against_at
  only_compared r _ _ _ (alone e ts us s) le ends =
      let f = only_sum r e ts us s le ends.sum in
      rw (f, ends.operation) refl
  only_compared r _ _ _ (against a b w o l ts us vs c s t) le ends =
      let f = only_sum r a ts ((w, l) ∷ us) s (omega (arith, le)) (compares_ends w l us o c) in
      let lt : ltb (depth a) r ≡ true = lt-ltb _ _ (omega (arith, le)) in
      let g = only_sum (r - 1) b us vs t (omega (arith, le)) ends.sum in
      rw (f, compares_of w l us o c, lt, g) refl

mark_starts : (m : Mark) (l : ℕ) (us : Words) → starts m ((Sign m, l) ∷ us) ≡ true
mark_starts m l us = eq-eqb _ _ refl

only_inside : (n : ℕ) → OnlyInside (nat_eq n 0) (inside_at n) (Inside n)
unfolding inside_at
only_inside zero m r e ts us i le ends = absurd i
only_inside (suc n) m r e ts us (l, vs, is, c) le ends =
    let q = only_compared (nat_eq n 0) (inside_at n) (Inside n) (only_inside n) r e vs us c le ends in
    subst (λ (w : Words). (nat_eq (suc n) 0 ≡ false) × (starts m w ≡ true) × (expr_with (nat_eq n 0) (inside_at n) r (rest w) ≡ Ok (e, us))) (sym is) (not_full n, mark_starts m l vs, q)

pub only_expr : (n r : ℕ) (e : Phrase) (ts us : Words) → Expression n e ts us → depth e ≤ r → EndsExpr us → expr_at n r ts ≡ Ok (e, us)
unfolding expr_at
only_expr n = only_compared (nat_eq n 0) (inside_at n) (Inside n) (only_inside n)
