-- Expressions that a text has are printed as tokens that are read as the same expressions.
use Rattle.std.proofs.Common.{◌≡◌, ℕ, zero, suc, ◌<◌, ◌≤◌, Bool, List, [], ◌∷◌, refl, sym, subst, arith}
use Rattle.std.specs.Prelude.{nat_eq}
use Rattle.token_scanner.specs.declared.token.Mark.{Mark}
use Rattle.token_scanner.specs.declared.token.Mark.TheVariants as mark
use Rattle.token_scanner.specs.Words.{Word, Words, Name, Number, Sign}
use Rattle.meaning.specs.declared.tree.Operator.{Operator}
use Rattle.meaning.specs.declared.tree.Operator.TheVariants as op
use Rattle.source_tree.specs.Source.{Phrase, Num, Var, Cell, Has, Limit, Neg, Bin, depth}
use Rattle.source_tree.specs.Source as source
use Rattle.procedure_parser.specs.Grammar.{Form, Atom, number, variable, cell, has, has_over, limit, column_sum, paren, Unary, atom, negative, Chain, over, goes_on, Multiplicative, times, divides, remains, Additive, adds, subtracts, Comparison, equal, unequal, less, at_most, greater, at_least, Term, Sum, Compared, alone, against, Inside, Whole}
use Rattle.program_printer.specs.Tokens.{AllTokens, bare}
use Rattle.program_printer.specs.Printing.{operator_mark}
use Rattle.printing_theory.proofs.Read.{AllRead}
use Rattle.printing_theory.proofs.Said.{phrase_words}
use Rattle.token_readers.specs.Limits.{most_open, most_levels}

-- what is left is read, and what is printed are tokens
pub record Clean {A : Type 0} (say : A → List Word → List Word) (x : A) (us : Words) : Type 0 where
  pub left : AllRead us
  pub tokens : (ws : List Word) → AllTokens ws → AllTokens (say x ws)

-- ---- what is printed are tokens

module _ (full : Bool) (I : Mark → Form Phrase) (inside : (m : Mark) (e : Phrase) (ts us : Words) → AllRead ts → I m e ts us → Clean phrase_words e us) where
  atom_clean : (e : Phrase) (ts us : Words) → AllRead ts → Atom full I e ts us → Clean phrase_words e us
  atom_clean _ _ _ h (number n l us) = record { left = h.1; tokens = λ ws i. (h.0, i) }
  atom_clean _ _ _ h (variable x l us) = record { left = h.1; tokens = λ ws i. (h.0, i) }
  atom_clean _ _ _ h (cell t c e l i j k ts us p) =
      let q = inside mark.OpenBracket e ts ((Sign mark.CloseBracket, i) ∷ (Sign mark.Dot, j) ∷ (Name c, k) ∷ us) h.1 p in
      record { left = q.left.1.1.1; tokens = λ ws a. (h.0, (tt, q.tokens (Sign mark.CloseBracket ∷ Sign mark.Dot ∷ Name c ∷ ws) (tt, (tt, (q.left.1.1.0, a))))) }
  atom_clean _ _ _ h (has t e l i j ts us p) =
      let q = inside mark.OpenBracket e ts ((Sign mark.CloseBracket, j) ∷ us) h.1.1 p in
      record { left = q.left.1; tokens = λ ws a. (tt, (h.1.0, (tt, q.tokens (Sign mark.CloseBracket ∷ ws) (tt, a)))) }
  atom_clean _ _ _ h (has_over t l i j us f) = absurd h.1.1.0
  atom_clean _ _ _ h (limit t l i us) = record { left = h.1.1; tokens = λ ws a. (tt, (h.1.0, a)) }
  atom_clean _ _ _ h (column_sum t c l i j k us) = record { left = h.1.1.1.1; tokens = λ ws a. (tt, (h.1.0, (tt, (h.1.1.1.0, a)))) }
  atom_clean _ _ _ h (paren e l ts us p) =
      let q = inside mark.OpenParen e ts ((Sign mark.CloseParen, l) ∷ us) h p in
      record { left = q.left.1; tokens = q.tokens }

  unary_clean : (e : Phrase) (ts us : Words) → AllRead ts → Unary full I e ts us → Clean phrase_words e us
  unary_clean _ _ _ h (atom e ts us a) = atom_clean e ts us h a
  unary_clean _ _ _ h (negative e l ts us u) =
      let q = unary_clean e ts us h.1 u in
      record { left = q.left; tokens = λ ws a. (tt, (tt, q.tokens (Sign mark.CloseParen ∷ ws) (tt, a))) }

both_tokens : (o : Operator) (a b : Phrase) → ((ws : List Word) → AllTokens ws → AllTokens (phrase_words a ws)) → ((ws : List Word) → AllTokens ws → AllTokens (phrase_words b ws)) → (ws : List Word) → AllTokens ws → AllTokens (phrase_words (Bin o a b) ws)
both_tokens o a b p q ws i = (tt, p (Sign (operator_mark o) ∷ phrase_words b (Sign mark.CloseParen ∷ ws)) (tt, q (Sign mark.CloseParen ∷ ws) (tt, i)))

module _ (operation : Word → Operator → Type 0) (next : Form Phrase) (clean : (e : Phrase) (ts us : Words) → AllRead ts → next e ts us → Clean phrase_words e us) where
  chain_clean : (left e : Phrase) (ts us : Words) → AllRead ts → ((ws : List Word) → AllTokens ws → AllTokens (phrase_words left ws)) → Chain operation next left e ts us → Clean phrase_words e us
  chain_clean _ _ _ _ h t (over e ts) = record { left = h; tokens = t }
  chain_clean _ _ _ _ h t (goes_on left right e w o l ts us vs p n c) =
      let q = clean right ts us h.1 n in
      chain_clean (Bin o left right) e us vs q.left (both_tokens o left right t q.tokens) c

term_clean : (full : Bool) (I : Mark → Form Phrase) → ((m : Mark) (e : Phrase) (ts us : Words) → AllRead ts → I m e ts us → Clean phrase_words e us) → (e : Phrase) (ts us : Words) → AllRead ts → Term full I e ts us → Clean phrase_words e us
term_clean full I inside e ts vs h (first, us, u, c) =
    let q = unary_clean full I inside first ts us h u in
    chain_clean Multiplicative (Unary full I) (unary_clean full I inside) first e us vs q.left q.tokens c

sum_clean : (full : Bool) (I : Mark → Form Phrase) → ((m : Mark) (e : Phrase) (ts us : Words) → AllRead ts → I m e ts us → Clean phrase_words e us) → (e : Phrase) (ts us : Words) → AllRead ts → Sum full I e ts us → Clean phrase_words e us
sum_clean full I inside e ts vs h (first, us, t, c) =
    let q = term_clean full I inside first ts us h t in
    chain_clean Additive (Term full I) (term_clean full I inside) first e us vs q.left q.tokens c

compared_clean : (sum : Form Phrase) → ((e : Phrase) (ts us : Words) → AllRead ts → sum e ts us → Clean phrase_words e us) → (e : Phrase) (ts us : Words) → AllRead ts → Compared sum e ts us → Clean phrase_words e us
compared_clean sum clean _ _ _ h (alone e ts us s) = clean e ts us h s
compared_clean sum clean _ _ _ h (against left right w o l ts us vs k s t) =
    let p = clean left ts ((w, l) ∷ us) h s in
    let q = clean right us vs p.left.1 t in
    record { left = q.left; tokens = both_tokens o left right p.tokens q.tokens }

inside_clean : (n : ℕ) (m : Mark) (e : Phrase) (ts us : Words) → AllRead ts → Inside n m e ts us → Clean phrase_words e us
inside_clean zero m e ts vs h p = absurd p
inside_clean (suc more) m e ts vs h (l, us, q, c) =
    let r : AllRead ((Sign m, l) ∷ us) = subst (λ (z : Words). AllRead z) q h in
    compared_clean (Sum (nat_eq more 0) (Inside more)) (sum_clean (nat_eq more 0) (Inside more) (inside_clean more)) e us vs r.1 c

pub whole_clean : (e : Phrase) (ts us : Words) → AllRead ts → Whole e ts us → Clean phrase_words e us
whole_clean e ts us h w = compared_clean (Sum (nat_eq most_open 0) (Inside most_open)) (sum_clean (nat_eq most_open 0) (Inside most_open) (inside_clean most_open)) e ts us h w.0

-- ---- what is printed is read

-- tokens begin with x, and behind it come those with these words
abbrev pub Finds : {A : Type 0} → Form A → A → List Word → Words → Type 0
Finds R x ws vs = (rest : Words) × (bare rest ≡ ws) × R x vs rest

-- what is shown of tokens that begin with each line of a word is shown of tokens with the word
pub at_word : (P : Words → Type 0) (w : Word) (ws : List Word) (vs : Words) → bare vs ≡ w ∷ ws → ((l : ℕ) (us : Words) → bare us ≡ ws → P ((w, l) ∷ us)) → P vs
at_word P w ws [] h f = absurd cc
at_word P w ws (t ∷ vs) h f =
    let e : t.0 ≡ w = cc in
    let b : bare vs ≡ ws = cc in
    subst (λ (z : Word). P ((z, t.1) ∷ vs)) (sym e) (f t.1 vs b)

-- an atom is an expression
as_compared : (full : Bool) (I : Mark → Form Phrase) (e : Phrase) (ts us : Words) → Unary full I e ts us → Compared (Sum full I) e ts us
as_compared full I e ts us u = alone e ts us (e, us, (e, us, u, over e us), over e us)

as_term : (full : Bool) (I : Mark → Form Phrase) (e : Phrase) (ts us : Words) → Atom full I e ts us → Term full I e ts us
as_term full I e ts us a = (e, us, atom e ts us a, over e us)

as_sum : (full : Bool) (I : Mark → Form Phrase) (e : Phrase) (ts us : Words) → Atom full I e ts us → Sum full I e ts us
as_sum full I e ts us a = (e, us, as_term full I e ts us a, over e us)

module _ (full : Bool) (I : Mark → Form Phrase) (a b : Phrase) (l : ℕ) (ts us vs : Words) where
  multiplied : (o : Operator) (w : Word) → Multiplicative w o → Atom full I a ts ((w, l) ∷ us) → Atom full I b us vs → Compared (Sum full I) (Bin o a b) ts vs
  multiplied o w k p q =
      alone (Bin o a b) ts vs (Bin o a b, vs, (a, (w, l) ∷ us, atom a ts ((w, l) ∷ us) p, goes_on a b (Bin o a b) w o l us vs vs k (atom b us vs q) (over (Bin o a b) vs)), over (Bin o a b) vs)

  added : (o : Operator) (w : Word) → Additive w o → Atom full I a ts ((w, l) ∷ us) → Atom full I b us vs → Compared (Sum full I) (Bin o a b) ts vs
  added o w k p q =
      alone (Bin o a b) ts vs (a, (w, l) ∷ us, as_term full I a ts ((w, l) ∷ us) p, goes_on a b (Bin o a b) w o l us vs vs k (as_term full I b us vs q) (over (Bin o a b) vs))

  compared : (o : Operator) (w : Word) → Comparison w o → Atom full I a ts ((w, l) ∷ us) → Atom full I b us vs → Compared (Sum full I) (Bin o a b) ts vs
  compared o w k p q = against a b w o l ts us vs k (as_sum full I a ts ((w, l) ∷ us) p) (as_sum full I b us vs q)

  operated : (o : Operator) → Atom full I a ts ((Sign (operator_mark o), l) ∷ us) → Atom full I b us vs → Compared (Sum full I) (Bin o a b) ts vs
  operated op.Add p q = added op.Add (Sign mark.Plus) adds p q
  operated op.Subtract p q = added op.Subtract (Sign mark.Minus) subtracts p q
  operated op.Multiply p q = multiplied op.Multiply (Sign mark.Star) times p q
  operated op.Divide p q = multiplied op.Divide (Sign mark.Slash) divides p q
  operated op.Remainder p q = multiplied op.Remainder (Sign mark.Percent) remains p q
  operated op.Equal p q = compared op.Equal (Sign mark.Equal) equal p q
  operated op.Unequal p q = compared op.Unequal (Sign mark.Unequal) unequal p q
  operated op.Less p q = compared op.Less (Sign mark.Less) less p q
  operated op.AtMost p q = compared op.AtMost (Sign mark.AtMost) at_most p q
  operated op.Greater p q = compared op.Greater (Sign mark.Greater) greater p q
  operated op.AtLeast p q = compared op.AtLeast (Sign mark.AtLeast) at_least p q

depth_pos : (e : Phrase) → 0 < depth e
depth_pos (Num n) = omega arith
depth_pos (Var x) = omega arith
depth_pos (Cell t e c) = omega arith
depth_pos (Has t e) = omega arith
depth_pos (Limit t) = omega arith
depth_pos (source.Sum t c) = omega arith
depth_pos (Neg e) = omega arith
depth_pos (Bin o a b) = omega arith

atom_again : (e : Phrase) (n : ℕ) → depth e ≤ suc n → (vs : Words) (ws : List Word) → bare vs ≡ phrase_words e ws → Finds (Atom (nat_eq n 0) (Inside n)) e ws vs
atom_again (Num k) n d vs ws h = at_word (λ v. Finds (Atom (nat_eq n 0) (Inside n)) (Num k) ws v) (Number k) ws vs h (λ l us b. (us, b, number k l us))
atom_again (Var x) n d vs ws h = at_word (λ v. Finds (Atom (nat_eq n 0) (Inside n)) (Var x) ws v) (Name x) ws vs h (λ l us b. (us, b, variable x l us))
atom_again (Limit t) n d vs ws h =
    at_word (λ v. Finds (Atom (nat_eq n 0) (Inside n)) (Limit t) ws v) (Sign mark.Limit) (Name t ∷ ws) vs h (λ l v1 b1.
    at_word (λ v. Finds (Atom (nat_eq n 0) (Inside n)) (Limit t) ws ((Sign mark.Limit, l) ∷ v)) (Name t) ws v1 b1 (λ i us b. (us, b, limit t l i us)))
atom_again (source.Sum t c) n d vs ws h =
    let P : Words → Type 0 = λ v. Finds (Atom (nat_eq n 0) (Inside n)) (source.Sum t c) ws v in
    at_word P (Sign mark.Sum) (Name t ∷ Sign mark.Dot ∷ Name c ∷ ws) vs h (λ l v1 b1.
    at_word (λ v. P ((Sign mark.Sum, l) ∷ v)) (Name t) (Sign mark.Dot ∷ Name c ∷ ws) v1 b1 (λ i v2 b2.
    at_word (λ v. P ((Sign mark.Sum, l) ∷ (Name t, i) ∷ v)) (Sign mark.Dot) (Name c ∷ ws) v2 b2 (λ j v3 b3.
    at_word (λ v. P ((Sign mark.Sum, l) ∷ (Name t, i) ∷ (Sign mark.Dot, j) ∷ v)) (Name c) ws v3 b3 (λ k us b. (us, b, column_sum t c l i j k us)))))
atom_again (Cell t e c) zero d vs ws h = absurd (omega (arith, depth_pos e))
atom_again (Cell t e c) (suc n) d vs ws h =
    let P : Words → Type 0 = λ v. Finds (Atom (nat_eq (suc n) 0) (Inside (suc n))) (Cell t e c) ws v in
    let tail : List Word = Sign mark.CloseBracket ∷ Sign mark.Dot ∷ Name c ∷ ws in
    at_word P (Name t) (Sign mark.OpenBracket ∷ phrase_words e tail) vs h (λ l v1 b1.
    at_word (λ v. P ((Name t, l) ∷ v)) (Sign mark.OpenBracket) (phrase_words e tail) v1 b1 (λ o v2 b2.
    let r = atom_again e n (omega arith) v2 tail b2 in
    at_word (λ v. Atom (nat_eq n 0) (Inside n) e v2 v → P ((Name t, l) ∷ (Sign mark.OpenBracket, o) ∷ v2)) (Sign mark.CloseBracket) (Sign mark.Dot ∷ Name c ∷ ws) r.0 r.1 (λ i v3 b3.
    at_word (λ v. Atom (nat_eq n 0) (Inside n) e v2 ((Sign mark.CloseBracket, i) ∷ v) → P ((Name t, l) ∷ (Sign mark.OpenBracket, o) ∷ v2)) (Sign mark.Dot) (Name c ∷ ws) v3 b3 (λ j v4 b4.
    at_word (λ v. Atom (nat_eq n 0) (Inside n) e v2 ((Sign mark.CloseBracket, i) ∷ (Sign mark.Dot, j) ∷ v) → P ((Name t, l) ∷ (Sign mark.OpenBracket, o) ∷ v2)) (Name c) ws v4 b4 (λ k us b a.
    (us, b, cell t c e l i j k ((Sign mark.OpenBracket, o) ∷ v2) us (o, v2, refl, as_compared (nat_eq n 0) (Inside n) e v2 _ (atom e v2 _ a)))))) r.2))
atom_again (Has t e) zero d vs ws h = absurd (omega (arith, depth_pos e))
atom_again (Has t e) (suc n) d vs ws h =
    let P : Words → Type 0 = λ v. Finds (Atom (nat_eq (suc n) 0) (Inside (suc n))) (Has t e) ws v in
    let tail : List Word = Sign mark.CloseBracket ∷ ws in
    at_word P (Sign mark.Has) (Name t ∷ Sign mark.OpenBracket ∷ phrase_words e tail) vs h (λ l v1 b1.
    at_word (λ v. P ((Sign mark.Has, l) ∷ v)) (Name t) (Sign mark.OpenBracket ∷ phrase_words e tail) v1 b1 (λ i v2 b2.
    at_word (λ v. P ((Sign mark.Has, l) ∷ (Name t, i) ∷ v)) (Sign mark.OpenBracket) (phrase_words e tail) v2 b2 (λ o v3 b3.
    let r = atom_again e n (omega arith) v3 tail b3 in
    at_word (λ v. Atom (nat_eq n 0) (Inside n) e v3 v → P ((Sign mark.Has, l) ∷ (Name t, i) ∷ (Sign mark.OpenBracket, o) ∷ v3)) (Sign mark.CloseBracket) ws r.0 r.1 (λ j us b a.
    (us, b, has t e l i j ((Sign mark.OpenBracket, o) ∷ v3) us (o, v3, refl, as_compared (nat_eq n 0) (Inside n) e v3 _ (atom e v3 _ a)))) r.2)))
atom_again (Neg e) zero d vs ws h = absurd (omega (arith, depth_pos e))
atom_again (Neg e) (suc n) d vs ws h =
    let P : Words → Type 0 = λ v. Finds (Atom (nat_eq (suc n) 0) (Inside (suc n))) (Neg e) ws v in
    let tail : List Word = Sign mark.CloseParen ∷ ws in
    at_word P (Sign mark.OpenParen) (Sign mark.Minus ∷ phrase_words e tail) vs h (λ l v1 b1.
    at_word (λ v. P ((Sign mark.OpenParen, l) ∷ v)) (Sign mark.Minus) (phrase_words e tail) v1 b1 (λ i v2 b2.
    let r = atom_again e n (omega arith) v2 tail b2 in
    at_word (λ v. Atom (nat_eq n 0) (Inside n) e v2 v → P ((Sign mark.OpenParen, l) ∷ (Sign mark.Minus, i) ∷ v2)) (Sign mark.CloseParen) ws r.0 r.1 (λ j us b a.
    (us, b, paren (Neg e) j ((Sign mark.OpenParen, l) ∷ (Sign mark.Minus, i) ∷ v2) us (l, (Sign mark.Minus, i) ∷ v2, refl, as_compared (nat_eq n 0) (Inside n) (Neg e) _ _ (negative e i v2 _ (atom e v2 _ a))))) r.2))
atom_again (Bin o e f) zero d vs ws h = absurd (omega (arith, depth_pos e))
atom_again (Bin o e f) (suc n) d vs ws h =
    let P : Words → Type 0 = λ v. Finds (Atom (nat_eq (suc n) 0) (Inside (suc n))) (Bin o e f) ws v in
    let tail : List Word = Sign mark.CloseParen ∷ ws in
    let middle : List Word = Sign (operator_mark o) ∷ phrase_words f tail in
    at_word P (Sign mark.OpenParen) (phrase_words e middle) vs h (λ l v1 b1.
    let r = atom_again e n (omega arith) v1 middle b1 in
    at_word (λ v. Atom (nat_eq n 0) (Inside n) e v1 v → P ((Sign mark.OpenParen, l) ∷ v1)) (Sign (operator_mark o)) (phrase_words f tail) r.0 r.1 (λ i v2 b2 p.
    let s = atom_again f n (omega arith) v2 tail b2 in
    at_word (λ v. Atom (nat_eq n 0) (Inside n) f v2 v → P ((Sign mark.OpenParen, l) ∷ v1)) (Sign mark.CloseParen) ws s.0 s.1 (λ j us b q.
    (us, b, paren (Bin o e f) j ((Sign mark.OpenParen, l) ∷ v1) us (l, v1, refl, operated (nat_eq n 0) (Inside n) e f i v1 v2 ((Sign mark.CloseParen, j) ∷ us) o p q))) s.2) r.2)

pub whole_again : (e : Phrase) → depth e ≤ most_levels → (vs : Words) (ws : List Word) → bare vs ≡ phrase_words e ws → Finds Whole e ws vs
whole_again e d vs ws h =
    let r = atom_again e most_open (omega arith) vs ws h in
    (r.0, r.1, (as_compared (nat_eq most_open 0) (Inside most_open) e vs r.0 (atom e vs r.0 r.2), d))
