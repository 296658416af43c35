-- What readers of expressions do.
use Rattle.std.proofs.Common.{◌≡◌, ℕ, zero, suc, ◌+◌, ◌-◌, ◌<◌, ◌≤◌, Bool, true, false, cond, ltb, List, [], ◌∷◌, Option, Some, Ok, Err, refl, sym, ap, subst, arith, ◌⊎◌, inl, inr}
use Rattle.std.specs.Prelude.{nat_eq}
use Rattle.std.proofs.lemmas.Bool.{ltb-true, eqb-true}
use Rattle.token_scanner.specs.declared.token.Mark.{Mark}
use Rattle.token_scanner.specs.declared.token.Mark.TheVariants as mark
use Rattle.token_scanner.specs.declared.token.Mark.TheVariants.{OpenParen, CloseParen, OpenBracket, CloseBracket, Dot, Plus, Minus, Star, Slash, Percent, Has, Limit}
use Rattle.meaning.specs.declared.tree.Operator.{Operator}
use Rattle.meaning.specs.declared.tree.Operator.TheVariants as op
use Rattle.token_scanner.specs.Words.{Word, Name, Number, Sign, Over, Words, for_some, starts, rest, front_number}
use Rattle.source_tree.specs.Source.{Phrase, Num, Var, Cell, Neg, Bin, depth}
use Rattle.source_tree.specs.Source as source
use Rattle.token_readers.specs.Reading.{◌>>=◌, Read, mark_at, name_at, comparison, additive, multiplicative}
use Rattle.procedure_parser.specs.Reading.{Reader, over_as, after_name_at, row_at, has_at, limit_at, column_sum_at, plain_atom_at, atom_at, unary_at, chain_at, term_at, sum_at, against_at, expr_with, inside_at, expr_at}
use Rattle.procedure_parser.specs.Grammar.{Form, Atom, number, variable, cell, has, has_over, limit, column_sum, paren, Unary, atom, negative, Chain, over, goes_on, Comparison, equal, unequal, less, at_most, greater, at_least, Additive, Multiplicative, adds, subtracts, times, divides, remains, Term, Sum, Compared, alone, against, Inside, Expression}
use Rattle.procedure_parser.proofs.Law.{nothing, LawAt, IsLocal, by_reply, if_true, if_false, some_there, none_there, gives_at, refuses_at, skip_at, map_at, then_at}
use Rattle.procedure_parser.proofs.Head.{nought, on_bool, on_option, number_is, starts_local, number_local, comparison_local, additive_local, multiplicative_local, Found, picked, over_law, expect_at, name_then_at, last_mark, behind_mark}
use Rattle.token_readers.specs.Limits.{most_open}

abbrev pub Bounded : ℕ → Form Phrase → Form Phrase
Bounded r R e ts us = R e ts us × (depth e ≤ r)

pub depth_pos : (e : Phrase) → 0 < depth e
depth_pos (Num n) = omega arith
depth_pos (Var x) = omega arith
depth_pos (Cell t e c) = omega arith
depth_pos (source.Has t e) = omega arith
depth_pos (source.Limit t) = omega arith
depth_pos (source.Sum t c) = omega arith
depth_pos (Neg e) = omega arith
depth_pos (Bin o a b) = omega arith

abbrev a_name : List ℕ
a_name = 97 ∷ []

abbrev pub HasLaw : Reader → Form Phrase → Type 0
HasLaw P R = (r : ℕ) (ts : Words) → 0 < r → LawAt (P r) (Bounded r R) ts

-- no more may be open, or what is inside has its law and may be a number
abbrev pub Opens : Bool → Reader → (Mark → Form Phrase) → Type 0
Opens full inside I =
    ((full ≡ true) × ((r : ℕ) (ts : Words) → inside r ts ≡ Err ts))
    ⊎ ((full ≡ false) × ((m : Mark) (r : ℕ) (ts : Words) → 0 < r → starts m ts ≡ true → LawAt (inside r) (Bounded r (I m)) ts) × ((m : Mark) (v : Words) → I m (Num nought) ((Sign m, 0) ∷ (Number nought, 0) ∷ v) v))

module _ (full : Bool) (inside : Reader) (I : Mark → Form Phrase) (opens : Opens full inside I) where
  abbrev Atoms : ℕ → Form Phrase
  Atoms r = Bounded r (Atom full I)

  -- ---- parentheses

  abbrev parens : ℕ → Words → Read Phrase
  parens r w = inside r w >>= λ e. mark_at CloseParen e.1 >>= λ us. Ok (e.0, us)

  parens_law : (r : ℕ) (ts : Words) → 0 < r → starts OpenParen ts ≡ true → LawAt (parens r) (Atoms r) ts
  parens_law r ts pos h =
      elim opens [
        | inl (f, none) ↦ by_reply (parens r) (Atoms r) ts (Err ts) (ap (λ (z : Read Phrase). z >>= λ e. mark_at CloseParen e.1 >>= λ us. Ok (e.0, us)) (none r ts)) (record {
          front = nothing;
          is = refl;
          goes = λ v. ((Number nought, 0) ∷ v, Num nought, (number nought 0 v, pos));
          same = λ v k. ap (λ (z : Read Phrase). z >>= λ e. mark_at CloseParen e.1 >>= λ us. Ok (e.0, us)) (none r v);
        })
        | inr (f, law, fill) ↦ then_at (inside r) (λ e w. mark_at CloseParen w >>= λ us. Ok (e, us)) (Bounded r (I OpenParen)) (Atoms r) ts (law OpenParen r ts pos h)
            (λ v. ((Sign CloseParen, 0) ∷ v, λ e us p. (e, (paren e 0 us v p.0, p.1))))
            (λ e us p. last_mark CloseParen e _ us (λ l v ts p. (paren e l ts v p.0, p.1)))
      ]

  -- ---- cells

  abbrev CellOf : ℕ → List ℕ → Form Phrase
  CellOf r x e us vs = (l : ℕ) → Atoms r e ((Name x, l) ∷ us) vs

  abbrev column : List ℕ → Phrase → Words → Read Phrase
  column x e w = mark_at CloseBracket w >>= λ us. mark_at Dot us >>= λ vs. name_at vs >>= λ c. Ok (Cell x e c.0, c.1)

  cell_law : (r : ℕ) (x : List ℕ) (ts : Words) → 1 < r → starts OpenBracket ts ≡ true → LawAt (λ w. inside (r - 1) w >>= λ e. column x e.0 e.1) (CellOf r x) ts
  cell_law r x ts pos h =
      elim opens [
        | inl (f, none) ↦ by_reply (λ w. inside (r - 1) w >>= λ e. column x e.0 e.1) (CellOf r x) ts (Err ts) (ap (λ (z : Read Phrase). z >>= λ e. column x e.0 e.1) (none (r - 1) ts)) (record {
          front = nothing;
          is = refl;
          goes = λ v. (v, Var x, λ l. (variable x l v, omega arith));
          same = λ v k. ap (λ (z : Read Phrase). z >>= λ e. column x e.0 e.1) (none (r - 1) v);
        })
        | inr (f, law, fill) ↦ then_at (inside (r - 1)) (column x) (Bounded (r - 1) (I OpenBracket)) (CellOf r x) ts (law OpenBracket (r - 1) ts (omega arith) h)
            (λ v. ((Sign CloseBracket, 0) ∷ (Sign Dot, 0) ∷ (Name a_name, 0) ∷ v, λ e us p. (Cell x e a_name, λ l. (cell x a_name e l 0 0 0 us v p.0, omega (arith, p.1)))))
            (λ e us p. expect_at CloseBracket (λ us. mark_at Dot us >>= λ vs. name_at vs >>= λ c. Ok (Cell x e c.0, c.1)) _ us
            (λ v. ((Sign Dot, 0) ∷ (Name a_name, 0) ∷ v, Cell x e a_name, λ i ts p l. (cell x a_name e l i 0 0 ts v p.0, omega (arith, p.1))))
            (λ us. expect_at Dot (λ vs. name_at vs >>= λ c. Ok (Cell x e c.0, c.1)) _ us
            (λ v. ((Name a_name, 0) ∷ v, Cell x e a_name, λ j i ts p l. (cell x a_name e l i j 0 ts v p.0, omega (arith, p.1))))
            (λ us. name_then_at (λ c w. Ok (Cell x e c, w)) _ us
            (λ v. (v, Cell x e a_name, λ k j i ts p l. (cell x a_name e l i j k ts v p.0, omega (arith, p.1))))
            (λ c us. gives_at _ (Cell x e c) us (λ v k j i ts p l. (cell x c e l i j k ts v p.0, omega (arith, p.1)))))))
      ]

  after_name_law : (r : ℕ) (x : List ℕ) (ts : Words) → 0 < r → LawAt (after_name_at inside r x) (CellOf r x) ts
  unfolding after_name_at
  after_name_law r x ts pos =
      let T : Form Phrase = CellOf r x in
      let one : Words → Read Phrase = λ w. inside (r - 1) w >>= λ e. column x e.0 e.1 in
      elim (on_bool (starts OpenBracket ts)) [
        | inr h ↦ if_false T (starts OpenBracket) (λ w. cond (ltb 1 r) (one w) (Err w)) (λ w. Ok (Var x, w)) ts (starts_local OpenBracket) h (gives_at T (Var x) ts (λ v l. (variable x l v, pos)))
        | inl h ↦ if_true T (starts OpenBracket) (λ w. cond (ltb 1 r) (one w) (Err w)) (λ w. Ok (Var x, w)) ts (starts_local OpenBracket) h
            (elim (on_bool (ltb 1 r)) [
              | inr ge ↦ if_false T (λ w. ltb 1 r) one (λ w. Err w) ts (λ a b k. refl) ge (refuses_at T ts (λ v. (v, Var x, λ l. (variable x l v, pos))))
              | inl lt ↦ if_true T (λ w. ltb 1 r) one (λ w. Err w) ts (λ a b k. refl) lt (cell_law r x ts (ltb-true _ _ lt) h)
            ])
      ]

  -- ---- rows

  -- behind `has` on a line
  abbrev RowOf : ℕ → ℕ → List ℕ → Form Phrase
  RowOf k r x e us vs = (i : ℕ) → Atoms r e ((Sign Has, k) ∷ (Name x, i) ∷ us) vs

  row_fill : (k r : ℕ) (x : List ℕ) → 1 < r → (v : Words) → (y : Words) × (e : Phrase) × RowOf k r x e y v
  row_fill k r x lt v =
      elim opens [
        | inl (f, none) ↦ ((Over, 0) ∷ v, source.Has x (Num nought), λ i. (has_over x k i 0 v f, omega arith))
        | inr (f, law, fill) ↦ ((Sign OpenBracket, 0) ∷ (Number nought, 0) ∷ (Sign CloseBracket, 0) ∷ v, source.Has x (Num nought), λ i. (has x (Num nought) k i 0 ((Sign OpenBracket, 0) ∷ (Number nought, 0) ∷ (Sign CloseBracket, 0) ∷ v) v (fill OpenBracket ((Sign CloseBracket, 0) ∷ v)), omega arith))
      ]

  row_law : (k r : ℕ) (x : List ℕ) (ts : Words) → 1 < r → LawAt (row_at full inside r x) (RowOf k r x) ts
  unfolding row_at
  row_law k r x ts lt =
      let T : Form Phrase = RowOf k r x in
      let one : Words → Read Phrase = λ w. inside (r - 1) w >>= λ e. mark_at CloseBracket e.1 >>= λ us. Ok (source.Has x e.0, us) in
      let there : Words → Read Phrase = λ w. cond (starts OpenBracket w) (one w) (Err w) in
      elim opens [
        | inl (f, none) ↦ if_true T (λ w. full) (over_as (source.Has x (Num nought))) there ts (λ a b k. refl) f (over_law (source.Has x (Num nought)) T ts (λ l v i. (has_over x k i l v f, omega arith)))
        | inr (f, law, fill) ↦ if_false T (λ w. full) (over_as (source.Has x (Num nought))) there ts (λ a b k. refl) f
            (elim (on_bool (starts OpenBracket ts)) [
              | inr n ↦ if_false T (starts OpenBracket) one (λ w. Err w) ts (starts_local OpenBracket) n (refuses_at T ts (row_fill k r x lt))
              | inl h ↦ if_true T (starts OpenBracket) one (λ w. Err w) ts (starts_local OpenBracket) h
                  (then_at (inside (r - 1)) (λ e w. mark_at CloseBracket w >>= λ us. Ok (source.Has x e, us)) (Bounded (r - 1) (I OpenBracket)) T ts (law OpenBracket (r - 1) ts (omega arith) h)
                  (λ v. ((Sign CloseBracket, 0) ∷ v, λ e us p. (source.Has x e, λ i. (has x e k i 0 us v p.0, omega (arith, p.1)))))
                  (λ e us p. last_mark CloseBracket (source.Has x e) _ us (λ l v ts q i. (has x e k i l ts v q.0, omega (arith, q.1)))))
            ])
      ]

  has_law : (r : ℕ) (ts : Words) → 0 < r → starts Has ts ≡ true → LawAt (has_at full inside r) (Atoms r) ts
  unfolding has_at
  has_law r ts pos h =
      let T : Form Phrase = Atoms r in
      let one : Words → Read Phrase = λ w. name_at w >>= λ x. row_at full inside r x.0 x.1 in
      elim (on_bool (ltb 1 r)) [
        | inr ge ↦ if_false T (λ w. ltb 1 r) (λ w. one (rest w)) (λ w. Err w) ts (λ a b k. refl) ge (refuses_at T ts (λ v. ((Number nought, 0) ∷ v, Num nought, (number nought 0 v, pos))))
        | inl lt ↦ if_true T (λ w. ltb 1 r) (λ w. one (rest w)) (λ w. Err w) ts (λ a b k. refl) lt
            (behind_mark Has one T ts h (λ k us. name_then_at (λ x w. row_at full inside r x w) _ us (row_fill k r a_name (ltb-true _ _ lt)) (λ x us. row_law k r x us (ltb-true _ _ lt))))
      ]

  -- ---- atoms

  limit_law : (r : ℕ) (ts : Words) → 0 < r → starts Limit ts ≡ true → LawAt (λ w. limit_at (rest w)) (Atoms r) ts
  unfolding limit_at
  limit_law r ts pos h =
      behind_mark Limit (λ w. name_at w >>= λ x. Ok (source.Limit x.0, x.1)) (Atoms r) ts h (λ k us. name_then_at (λ x w. Ok (source.Limit x, w)) _ us
      (λ v. (v, source.Limit a_name, λ i. (limit a_name k i v, pos)))
      (λ x us. gives_at _ (source.Limit x) us (λ v i. (limit x k i v, pos))))

  column_sum_law : (r : ℕ) (ts : Words) → 0 < r → starts mark.Sum ts ≡ true → LawAt (λ w. column_sum_at (rest w)) (Atoms r) ts
  unfolding column_sum_at
  column_sum_law r ts pos h =
      behind_mark mark.Sum (λ w. name_at w >>= λ x. mark_at Dot x.1 >>= λ us. name_at us >>= λ c. Ok (source.Sum x.0 c.0, c.1)) (Atoms r) ts h (λ l us. name_then_at (λ x w. mark_at Dot w >>= λ us. name_at us >>= λ c. Ok (source.Sum x c.0, c.1)) _ us
      (λ v. ((Sign Dot, 0) ∷ (Name a_name, 0) ∷ v, source.Sum a_name a_name, λ i. (column_sum a_name a_name l i 0 0 v, pos)))
      (λ x us. expect_at Dot (λ us. name_at us >>= λ c. Ok (source.Sum x c.0, c.1)) _ us
      (λ v. ((Name a_name, 0) ∷ v, source.Sum x a_name, λ j i. (column_sum x a_name l i j 0 v, pos)))
      (λ us. name_then_at (λ c w. Ok (source.Sum x c, w)) _ us
      (λ v. (v, source.Sum x a_name, λ k j i. (column_sum x a_name l i j k v, pos)))
      (λ c us. gives_at _ (source.Sum x c) us (λ v k j i. (column_sum x c l i j k v, pos))))))

  abbrev named : ℕ → Words → Read Phrase
  named r w = name_at w >>= λ x. after_name_at inside r x.0 x.1

  named_law : (r : ℕ) (ts : Words) → 0 < r → LawAt (named r) (Atoms r) ts
  named_law r ts pos = name_then_at (λ x w. after_name_at inside r x w) (Atoms r) ts (λ v. (v, Var a_name, λ l. (variable a_name l v, pos))) (λ x us. after_name_law r x us pos)

  plain_law : (r : ℕ) (ts : Words) → 0 < r → LawAt (plain_atom_at full inside r) (Atoms r) ts
  unfolding plain_atom_at
  plain_law r ts pos =
      let T : Form Phrase = Atoms r in
      let last : Words → Read Phrase = λ w. for_some (front_number w) (named r w) (λ n. Ok (Num n, rest w)) in
      let sums : Words → Read Phrase = λ w. cond (starts mark.Sum w) (column_sum_at (rest w)) (last w) in
      let limits : Words → Read Phrase = λ w. cond (starts Limit w) (limit_at (rest w)) (sums w) in
      elim (on_bool (starts Has ts)) [
        | inl h ↦ if_true T (starts Has) (has_at full inside r) limits ts (starts_local Has) h (has_law r ts pos h)
        | inr n ↦ if_false T (starts Has) (has_at full inside r) limits ts (starts_local Has) n (elim (on_bool (starts Limit ts)) [
          | inl h ↦ if_true T (starts Limit) (λ w. limit_at (rest w)) sums ts (starts_local Limit) h (limit_law r ts pos h)
          | inr m ↦ if_false T (starts Limit) (λ w. limit_at (rest w)) sums ts (starts_local Limit) m (elim (on_bool (starts mark.Sum ts)) [
            | inl h ↦ if_true T (starts mark.Sum) (λ w. column_sum_at (rest w)) last ts (starts_local mark.Sum) h (column_sum_law r ts pos h)
            | inr o ↦ if_false T (starts mark.Sum) (λ w. column_sum_at (rest w)) last ts (starts_local mark.Sum) o (elim (on_option (front_number ts)) [
              | inl h ↦ none_there T front_number (named r) (λ n w. Ok (Num n, rest w)) ts number_local h (named_law r ts pos)
              | inr (n, h) ↦ some_there T front_number (named r) (λ n w. Ok (Num n, rest w)) ts n number_local h
                  (let s = number_is ts n h in subst (λ (w : Words). LawAt (λ w. Ok (Num n, rest w)) T w) (sym s.2) (skip_at (λ w. Ok (Num n, w)) (λ e us vs. T e ((Number n, s.0) ∷ us) vs) T (Number n, s.0) s.1 (λ a us vs p. p) (gives_at _ (Num n) s.1 (λ v. (number n s.0 v, pos)))))
            ])
          ])
        ])
      ]

  atom_law : HasLaw (atom_at full inside) (Atom full I)
  unfolding atom_at
  atom_law r ts pos =
      elim (on_bool (starts OpenParen ts)) [
        | inl h ↦ if_true (Atoms r) (starts OpenParen) (parens r) (plain_atom_at full inside r) ts (starts_local OpenParen) h (parens_law r ts pos h)
        | inr h ↦ if_false (Atoms r) (starts OpenParen) (parens r) (plain_atom_at full inside r) ts (starts_local OpenParen) h (plain_law r ts pos)
      ]

  abbrev minus : ℕ → Words → Read Phrase
  minus r w = unary_at full inside r w >>= λ e. Ok (Neg e.0, e.1)

  pub unary_law : HasLaw (unary_at full inside) (Unary full I)
  unfolding unary_at
  unary_law zero ts pos = absurd (omega arith)
  unary_law (suc r) ts pos =
      let T : Form Phrase = Bounded (suc r) (Unary full I) in
      elim (on_bool (starts Minus ts)) [
        | inr h ↦ if_false T (starts Minus) (λ w. cond (ltb 0 r) (minus r (rest w)) (Err w)) (atom_at full inside (suc r)) ts (starts_local Minus) h
            (map_at (atom_at full inside (suc r)) (Atoms (suc r)) T ts (λ a us vs p. (atom a us vs p.0, p.1)) (atom_law (suc r) ts pos))
        | inl h ↦ if_true T (starts Minus) (λ w. cond (ltb 0 r) (minus r (rest w)) (Err w)) (atom_at full inside (suc r)) ts (starts_local Minus) h
            (elim (on_bool (ltb 0 r)) [
              | inr ge ↦ if_false T (λ w. ltb 0 r) (λ w. minus r (rest w)) (λ w. Err w) ts (λ a b k. refl) ge (refuses_at T ts (λ v. ((Number nought, 0) ∷ v, Num nought, (atom (Num nought) ((Number nought, 0) ∷ v) v (number nought 0 v), pos))))
              | inl lt ↦ if_true T (λ w. ltb 0 r) (λ w. minus r (rest w)) (λ w. Err w) ts (λ a b k. refl) lt
                  (behind_mark Minus (minus r) T ts h (λ l us. then_at (unary_at full inside r) (λ e w. Ok (Neg e, w)) (Bounded r (Unary full I)) _ us (unary_law r us (ltb-true _ _ lt))
                  (λ v. (v, λ e us p. (Neg e, (negative e l us v p.0, omega (arith, p.1)))))
                  (λ e us p. gives_at _ (Neg e) us (λ v ts p. (negative e l ts v p.0, omega (arith, p.1))))))
            ])
      ]

-- ---- chains

module _ (operation : Words → Option Operator) (Op : Word → Operator → Type 0) (op_local : IsLocal operation) (op_is : (ts : Words) (o : Operator) → operation ts ≡ Some o → (w : Word) × (l : ℕ) × (us : Words) × (ts ≡ (w, l) ∷ us) × Op w o) (next : Reader) (Next : Form Phrase) (next_law : HasLaw next Next) where
  abbrev pub Chains : ℕ → Phrase → Form Phrase
  Chains r left = Bounded r (Chain Op Next left)

  pub chain_law : (k r : ℕ) (left : Phrase) (ts : Words) → depth left ≤ r → r < k + depth left → LawAt (chain_at operation next k r left) (Chains r left) ts
  unfolding chain_at
  chain_law zero r left ts le fuel = absurd (omega arith)
  chain_law (suc k) r left ts le fuel =
      let T : Form Phrase = Chains r left in
      let D : Words → Read Phrase = λ w. Ok (left, w) in
      let turn : Operator → Words → Read Phrase = λ o w. next (r - 1) w >>= λ x. chain_at operation next k r (Bin o left x.0) x.1 in
      let F : Operator → Words → Read Phrase = λ o w. cond (ltb (depth left) r) (turn o (rest w)) (Err w) in
      elim (on_option (operation ts)) [
        | inl h ↦ none_there T operation D F ts op_local h (gives_at T left ts (λ v. (over left v, le)))
        | inr (o, h) ↦ some_there T operation D F ts o op_local h
            (elim (on_bool (ltb (depth left) r)) [
              | inr ge ↦ if_false T (λ w. ltb (depth left) r) (λ w. turn o (rest w)) (λ w. Err w) ts (λ a b k. refl) ge (refuses_at T ts (λ v. (v, left, (over left v, le))))
              | inl lt ↦ if_true T (λ w. ltb (depth left) r) (λ w. turn o (rest w)) (λ w. Err w) ts (λ a b k. refl) lt
                  (let s = op_is ts o h in
                  let below : depth left < r = ltb-true _ _ lt in
                  let S : Form Phrase = λ e us vs. T e ((s.0, s.1) ∷ us) vs in
                  subst (λ (w : Words). LawAt (λ w. turn o (rest w)) T w) (sym s.3)
                  (skip_at (turn o) S T (s.0, s.1) s.2 (λ a us vs p. p)
                  (then_at (next (r - 1)) (λ b. chain_at operation next k r (Bin o left b)) (Bounded (r - 1) Next) S s.2 (next_law (r - 1) s.2 (omega (arith, depth_pos left)))
                  (λ v. (v, λ b us p. (Bin o left b, (goes_on left b (Bin o left b) s.0 o s.1 us v v s.4 p.0 (over (Bin o left b) v), omega (arith, p.1)))))
                  (λ b us p. map_at (chain_at operation next k r (Bin o left b)) (Chains r (Bin o left b)) _ us (λ e us vs q ts p. (goes_on left b e s.0 o s.1 ts us vs s.4 p.0 q.0, q.1)) (chain_law k r (Bin o left b) us (omega (arith, p.1)) (omega (arith, p.1)))))))
            ])
      ]

multiplicative_is : (ts : Words) (o : Operator) → multiplicative ts ≡ Some o → Found Multiplicative ts o
unfolding multiplicative
multiplicative_is ts o h = picked Multiplicative Star op.Multiply times ts o _ h (λ h. picked Multiplicative Slash op.Divide divides ts o _ h (λ h. picked Multiplicative Percent op.Remainder remains ts o _ h (λ h. absurd cc)))

additive_is : (ts : Words) (o : Operator) → additive ts ≡ Some o → Found Additive ts o
unfolding additive
additive_is ts o h = picked Additive Plus op.Add adds ts o _ h (λ h. picked Additive Minus op.Subtract subtracts ts o _ h (λ h. absurd cc))

comparison_is : (ts : Words) (o : Operator) → comparison ts ≡ Some o → Found Comparison ts o
unfolding comparison
comparison_is ts o h =
    picked Comparison mark.Equal op.Equal equal ts o _ h (λ h.
    picked Comparison mark.Unequal op.Unequal unequal ts o _ h (λ h.
    picked Comparison mark.Less op.Less less ts o _ h (λ h.
    picked Comparison mark.AtMost op.AtMost at_most ts o _ h (λ h.
    picked Comparison mark.Greater op.Greater greater ts o _ h (λ h.
    picked Comparison mark.AtLeast op.AtLeast at_least ts o _ h (λ h. absurd cc))))))

module _ (sum : Reader) (S : Form Phrase) (sum_law : HasLaw sum S) where
  -- behind a sum
  abbrev pub Behind : ℕ → Phrase → Form Phrase
  Behind r left e us vs = (zs : Words) → S left zs us → Bounded r (Compared S) e zs vs

  pub against_law : (r : ℕ) (left : Phrase) (ts : Words) → depth left ≤ r → LawAt (against_at sum r left) (Behind r left) ts
  unfolding against_at
  against_law r left ts le =
      let T : Form Phrase = Behind r left in
      let D : Words → Read Phrase = λ w. Ok (left, w) in
      let turn : Operator → Words → Read Phrase = λ o w. sum (r - 1) w >>= λ x. Ok (Bin o left x.0, x.1) in
      let F : Operator → Words → Read Phrase = λ o w. cond (ltb (depth left) r) (turn o (rest w)) (Err w) in
      elim (on_option (comparison ts)) [
        | inl h ↦ none_there T comparison D F ts comparison_local h (gives_at T left ts (λ v zs p. (alone left zs v p, le)))
        | inr (o, h) ↦ some_there T comparison D F ts o comparison_local h
            (elim (on_bool (ltb (depth left) r)) [
              | inr ge ↦ if_false T (λ w. ltb (depth left) r) (λ w. turn o (rest w)) (λ w. Err w) ts (λ a b k. refl) ge (refuses_at T ts (λ v. (v, left, λ zs p. (alone left zs v p, le))))
              | inl lt ↦ if_true T (λ w. ltb (depth left) r) (λ w. turn o (rest w)) (λ w. Err w) ts (λ a b k. refl) lt
                  (let s = comparison_is ts o h in
                  let below : depth left < r = ltb-true _ _ lt in
                  let U : Form Phrase = λ e us vs. T e ((s.0, s.1) ∷ us) vs in
                  subst (λ (w : Words). LawAt (λ w. turn o (rest w)) T w) (sym s.3)
                  (skip_at (turn o) U T (s.0, s.1) s.2 (λ a us vs p. p)
                  (then_at (sum (r - 1)) (λ b w. Ok (Bin o left b, w)) (Bounded (r - 1) S) U s.2 (sum_law (r - 1) s.2 (omega (arith, depth_pos left)))
                  (λ v. (v, λ b us p. (Bin o left b, λ zs q. (against left b s.0 o s.1 zs us v s.4 q p.0, omega (arith, p.1)))))
                  (λ b us p. gives_at _ (Bin o left b) us (λ v ts p zs q. (against left b s.0 o s.1 zs ts v s.4 q p.0, omega (arith, p.1)))))))
            ])
      ]

module _ (full : Bool) (inside : Reader) (I : Mark → Form Phrase) (opens : Opens full inside I) where
  pub term_law : HasLaw (term_at full inside) (Term full I)
  unfolding term_at
  term_law r ts pos =
      then_at (unary_at full inside r) (chain_at multiplicative (unary_at full inside) r r) (Bounded r (Unary full I)) (Bounded r (Term full I)) ts (unary_law full inside I opens r ts pos)
      (λ v. (v, λ a us p. (a, ((a, v, p.0, over a v), p.1))))
      (λ a us p. map_at (chain_at multiplicative (unary_at full inside) r r a) (Bounded r (Chain Multiplicative (Unary full I) a)) _ us (λ e us vs q ts p. ((a, us, p.0, q.0), q.1))
      (chain_law multiplicative Multiplicative multiplicative_local multiplicative_is (unary_at full inside) (Unary full I) (unary_law full inside I opens) r r a us p.1 (omega (arith, depth_pos a))))

  pub sum_law : HasLaw (sum_at full inside) (Sum full I)
  unfolding sum_at
  sum_law r ts pos =
      then_at (term_at full inside r) (chain_at additive (term_at full inside) r r) (Bounded r (Term full I)) (Bounded r (Sum full I)) ts (term_law r ts pos)
      (λ v. (v, λ a us p. (a, ((a, v, p.0, over a v), p.1))))
      (λ a us p. map_at (chain_at additive (term_at full inside) r r a) (Bounded r (Chain Additive (Term full I) a)) _ us (λ e us vs q ts p. ((a, us, p.0, q.0), q.1))
      (chain_law additive Additive additive_local additive_is (term_at full inside) (Term full I) term_law r r a us p.1 (omega (arith, depth_pos a))))

  pub compared_law : HasLaw (expr_with full inside) (Compared (Sum full I))
  unfolding expr_with
  compared_law r ts pos =
      then_at (sum_at full inside r) (against_at (sum_at full inside) r) (Bounded r (Sum full I)) (Bounded r (Compared (Sum full I))) ts (sum_law r ts pos)
      (λ v. (v, λ a us p. (a, (alone a us v p.0, p.1))))
      (λ a us p. map_at (against_at (sum_at full inside) r a) (Behind (sum_at full inside) (Sum full I) sum_law r a) _ us (λ e us vs q ts p. q ts p.0) (against_law (sum_at full inside) (Sum full I) sum_law r a us p.1))

a_number : (n : ℕ) (v : Words) → Compared (Sum (nat_eq n 0) (Inside n)) (Num nought) ((Number nought, 0) ∷ v) v
a_number n v = alone (Num nought) ((Number nought, 0) ∷ v) v (Num nought, v, (Num nought, v, atom (Num nought) ((Number nought, 0) ∷ v) v (number nought 0 v), over (Num nought) v), over (Num nought) v)

pub not_full : (n : ℕ) → nat_eq (suc n) 0 ≡ false
not_full n = elim (on_bool (nat_eq (suc n) 0)) [ inl t ↦ (let e : suc n ≡ 0 = eqb-true (suc n) 0 t in absurd (omega (arith, e))) | inr f ↦ f ]

pub inside_law : (n : ℕ) → Opens (nat_eq n 0) (inside_at n) (Inside n)
unfolding inside_at
inside_law zero = inl (refl, λ r ts. refl)
inside_law (suc n) = inr (
  not_full n,
  (λ m r ts pos h.
      behind_mark m (expr_with (nat_eq n 0) (inside_at n) r) (Bounded r (Inside (suc n) m)) ts h (λ l us.
      map_at (expr_with (nat_eq n 0) (inside_at n) r) (Bounded r (Compared (Sum (nat_eq n 0) (Inside n)))) _ us (λ a vs ws p. ((l, vs, refl, p.0), p.1)) (compared_law (nat_eq n 0) (inside_at n) (Inside n) (inside_law n) r us pos))),
  λ m v. (0, (Number nought, 0) ∷ v, refl, a_number n v),
)

pub expr_law : (n : ℕ) → HasLaw (expr_at n) (Expression n)
unfolding expr_at
expr_law n = compared_law (nat_eq n 0) (inside_at n) (Inside n) (inside_law n)

pub zero_whole : (v : Words) → Expression most_open (Num nought) ((Number nought, 0) ∷ v) v
zero_whole v = a_number most_open v
