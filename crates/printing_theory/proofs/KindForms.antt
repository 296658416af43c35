-- Kinds that a text has are printed as tokens that are read as the same kinds.
use Rattle.std.proofs.Common.{◌≡◌, ℕ, suc, ◌-◌, ◌*◌, Bool, true, false, cond, List, ◌∷◌, pos, Option, Some, None, refl, sym, subst, ◌∙◌, lit≤}
use Rattle.std.specs.Prelude.{codes, bytes_eq}
use Rattle.token_scanner.specs.declared.token.Mark.TheVariants as mark
use Rattle.token_scanner.specs.Words.{Word, Words, Name, Number, Sign}
use Rattle.token_scanner.specs.Scanning.{keyword_of}
use Rattle.source_tree.specs.Kinds.{WrittenKind, Add, Mul, Min, Max, And, Or, Xor, Items, First, Last, Argmax, Affine, Hist, Table}
use Rattle.procedure_parser.specs.KindWords.{simple_kind}
use Rattle.procedure_parser.specs.Grammar.{Form, Within, within, CommaNumber, comma_number, MoreCells, no_more_cells, more_cells, Cells, cells, TableForm, KindForm, simple, first, last, of_table}
use Rattle.procedure_parser.specs.Grammar as grammar
use Rattle.program_printer.specs.Tokens.{IsName, AllTokens}
use Rattle.program_printer.specs.Printing.{more_numbers, numbers_words}
use Rattle.printing_theory.proofs.Read.{AllRead}
use Rattle.printing_theory.proofs.Said.{written_words}
use Rattle.printing_theory.proofs.Phrases.{Finds, at_word}
use Rattle.printing_theory.proofs.Parts.{Prints}

-- ---- kinds of one word

abbrev is_simple : WrittenKind → Bool
is_simple (First n) = false
is_simple (Last n) = false
is_simple (Table n u xs) = false
is_simple k = true

some_simple : (b : Bool) (j k : WrittenKind) (o : Option WrittenKind) → is_simple j ≡ true → (o ≡ Some k → is_simple k ≡ true) → cond b (Some j) o ≡ Some k → is_simple k ≡ true
some_simple true j k o s f h = let e : j ≡ k = cc in subst (λ (z : WrittenKind). is_simple z ≡ true) e s
some_simple false j k o s f h = f h

no_kind : (k : WrittenKind) → None ≡ Some k → is_simple k ≡ true
no_kind k h = absurd cc

simple_is : (x : List ℕ) (k : WrittenKind) → simple_kind x ≡ Some k → is_simple k ≡ true
unfolding simple_kind
simple_is x k h =
    some_simple (bytes_eq x (codes "add")) Add k _ refl
    (some_simple (bytes_eq x (codes "mul")) Mul k _ refl
    (some_simple (bytes_eq x (codes "min")) Min k _ refl
    (some_simple (bytes_eq x (codes "max")) Max k _ refl
    (some_simple (bytes_eq x (codes "and")) And k _ refl
    (some_simple (bytes_eq x (codes "or")) Or k _ refl
    (some_simple (bytes_eq x (codes "xor")) Xor k _ refl
    (some_simple (bytes_eq x (codes "list")) Items k _ refl
    (some_simple (bytes_eq x (codes "argmax")) Argmax k _ refl
    (some_simple (bytes_eq x (codes "affine")) Affine k _ refl
    (some_simple (bytes_eq x (codes "hist")) Hist k _ refl (no_kind k))))))))))) h

-- a kind's first word
abbrev first_word : WrittenKind → List ℕ
first_word Add = codes "add"
first_word Mul = codes "mul"
first_word Min = codes "min"
first_word Max = codes "max"
first_word And = codes "and"
first_word Or = codes "or"
first_word Xor = codes "xor"
first_word Items = codes "list"
first_word (First n) = codes "first"
first_word (Last n) = codes "last"
first_word Argmax = codes "argmax"
first_word Affine = codes "affine"
first_word Hist = codes "hist"
first_word (Table n u xs) = codes "table"

is_name : (k : WrittenKind) → IsName (first_word k)
unfolding keyword_of
is_name Add = record { begins = refl; goes_on = refl; short = lit≤ tt; no_keyword = refl }
is_name (First n) = record { begins = refl; goes_on = refl; short = lit≤ tt; no_keyword = refl }
is_name (Last n) = record { begins = refl; goes_on = refl; short = lit≤ tt; no_keyword = refl }
is_name (Table n u xs) = record { begins = refl; goes_on = refl; short = lit≤ tt; no_keyword = refl }
is_name k = record { begins = refl; goes_on = refl; short = lit≤ tt; no_keyword = refl }

unit_is_name : IsName (codes "unit")
unfolding keyword_of
unit_is_name = record { begins = refl; goes_on = refl; short = lit≤ tt; no_keyword = refl }

simple_word : (k : WrittenKind) → is_simple k ≡ true → simple_kind (first_word k) ≡ Some k
unfolding simple_kind
simple_word Add h = refl
simple_word (First n) h = absurd cc
simple_word (Last n) h = absurd cc
simple_word (Table n u xs) h = absurd cc
simple_word k h = refl

simple_said : (k : WrittenKind) → is_simple k ≡ true → (ws : List Word) → written_words k ws ≡ Name (first_word k) ∷ ws
simple_said Add h ws = refl
simple_said (First n) h ws = absurd cc
simple_said (Last n) h ws = absurd cc
simple_said (Table n u xs) h ws = absurd cc
simple_said k h ws = refl

-- ---- numbers within limits

abbrev pub number_said : ℕ → List Word → List Word
number_said n ws = Number (pos n) ∷ ws

pub within_prints : (low high n : ℕ) (ts us : Words) → AllRead ts → Within low high n ts us → Prints (Within low high) number_said n us
within_prints low high _ _ _ h (within n l us a b) =
    record {
      left = h.1;
      tokens = λ ws i. (h.0, i);
      again = λ zs ws c. at_word (λ z. Finds (Within low high) n ws z) (Number (pos n)) ws zs c (λ k z1 b1. (z1, b1, within n k z1 a b));
    }

cells_print : (n k : ℕ) (xs : List ℕ) (ts us : Words) → AllRead ts → MoreCells n k xs ts us → Prints (MoreCells n k) more_numbers xs us
cells_print n _ _ _ _ h (no_more_cells us) = record { left = h; tokens = λ ws i. i; again = λ zs ws b. (zs, b, no_more_cells zs) }
cells_print n _ _ _ _ h (more_cells k _ xs _ us vs (comma_number x l ts _ w) m) =
    let q = within_prints 0 (n - 1) x ts us h.1 w in
    let r = cells_print n k xs us vs q.left m in
    record {
      left = r.left;
      tokens = λ ws i. (tt, q.tokens (more_numbers xs ws) (r.tokens ws i));
      again = λ zs ws b.
          at_word (λ z. Finds (MoreCells n (suc k)) (x ∷ xs) ws z) (Sign mark.Comma) (Number (pos x) ∷ more_numbers xs ws) zs b (λ i z1 b1.
          let f = q.again z1 (more_numbers xs ws) b1 in
          let d = r.again f.0 ws f.1 in
          (d.0, d.1, more_cells k x xs ((Sign mark.Comma, i) ∷ z1) f.0 d.0 (comma_number x i z1 f.0 f.2) d.2));
    }

abbrev cells_said : List ℕ → List Word → List Word
cells_said xs ws = Sign mark.OpenBracket ∷ numbers_words xs (Sign mark.CloseBracket ∷ ws)

all_cells_print : (n : ℕ) (xs : List ℕ) (ts us : Words) → AllRead ts → Cells n xs ts us → Prints (Cells n) cells_said xs us
all_cells_print n _ _ _ h (cells x xs k l ts us vs w m) =
    let q = within_prints 0 (n - 1) x ts us h.1 w in
    let r = cells_print n (n * n - 1) xs us ((Sign mark.CloseBracket, l) ∷ vs) q.left m in
    record {
      left = r.left.1;
      tokens = λ ws i. (tt, q.tokens (more_numbers xs (Sign mark.CloseBracket ∷ ws)) (r.tokens (Sign mark.CloseBracket ∷ ws) (tt, i)));
      again = λ zs ws b.
          at_word (λ z. Finds (Cells n) (x ∷ xs) ws z) (Sign mark.OpenBracket) (Number (pos x) ∷ more_numbers xs (Sign mark.CloseBracket ∷ ws)) zs b (λ i z1 b1.
          let f = q.again z1 (more_numbers xs (Sign mark.CloseBracket ∷ ws)) b1 in
          let d = r.again f.0 (Sign mark.CloseBracket ∷ ws) f.1 in
          at_word (λ z. MoreCells n (n * n - 1) xs f.0 z → Finds (Cells n) (x ∷ xs) ws ((Sign mark.OpenBracket, i) ∷ z1)) (Sign mark.CloseBracket) ws d.0 d.1 (λ j z2 b2 v.
          (z2, b2, cells x xs i j z1 f.0 z2 f.2 v)) d.2);
    }

-- ---- kinds

pub kind_prints : (k : WrittenKind) (ts us : Words) → AllRead ts → KindForm k ts us → Prints KindForm written_words k us
kind_prints _ _ _ h (simple x k l us e) =
    let s = simple_is x k e in
    record {
      left = h.1;
      tokens = λ ws i. subst (λ (z : List Word). AllTokens z) (sym (simple_said k s ws)) (is_name k, i);
      again = λ zs ws b. at_word (λ z. Finds KindForm k ws z) (Name (first_word k)) ws zs (b ∙ simple_said k s ws) (λ i z1 b1. (z1, b1, simple (first_word k) k i z1 (simple_word k s)));
    }
kind_prints _ _ _ h (first n l ts us w) =
    let q = within_prints 1 4096 n ts us h.1 w in
    record {
      left = q.left;
      tokens = λ ws i. (is_name (First n), q.tokens ws i);
      again = λ zs ws b.
          at_word (λ z. Finds KindForm (First n) ws z) (Name (codes "first")) (Number (pos n) ∷ ws) zs b (λ i z1 b1.
          let f = q.again z1 ws b1 in
          (f.0, f.1, first n i z1 f.0 f.2));
    }
kind_prints _ _ _ h (last n l ts us w) =
    let q = within_prints 1 4096 n ts us h.1 w in
    record {
      left = q.left;
      tokens = λ ws i. (is_name (Last n), q.tokens ws i);
      again = λ zs ws b.
          at_word (λ z. Finds KindForm (Last n) ws z) (Name (codes "last")) (Number (pos n) ∷ ws) zs b (λ i z1 b1.
          let f = q.again z1 ws b1 in
          (f.0, f.1, last n i z1 f.0 f.2));
    }
kind_prints _ _ _ h (of_table _ l _ _ (grammar.table n u k xs ts us vs ws w1 w2 c)) =
    let q1 = within_prints 1 16 n ts ((Name (codes "unit"), k) ∷ us) h.1 w1 in
    let q2 = within_prints 0 (n - 1) u us vs q1.left.1 w2 in
    let q3 = all_cells_print n xs vs ws q2.left c in
    record {
      left = q3.left;
      tokens = λ xs' i. (is_name (Table n u xs), q1.tokens (Name (codes "unit") ∷ Number (pos u) ∷ cells_said xs xs') (unit_is_name, q2.tokens (cells_said xs xs') (q3.tokens xs' i)));
      again = λ zs xs' b.
          let P : Words → Type 0 = λ z. Finds KindForm (Table n u xs) xs' z in
          at_word P (Name (codes "table")) (Number (pos n) ∷ Name (codes "unit") ∷ Number (pos u) ∷ cells_said xs xs') zs b (λ i z1 b1.
          let f1 = q1.again z1 (Name (codes "unit") ∷ Number (pos u) ∷ cells_said xs xs') b1 in
          at_word (λ z. Within 1 16 n z1 z → P ((Name (codes "table"), i) ∷ z1)) (Name (codes "unit")) (Number (pos u) ∷ cells_said xs xs') f1.0 f1.1 (λ j z2 b2 v1.
          let f2 = q2.again z2 (cells_said xs xs') b2 in
          let f3 = q3.again f2.0 xs' f2.1 in
          (f3.0, f3.1, of_table (Table n u xs) i z1 f3.0 (grammar.table n u j xs z1 z2 f2.0 f3.0 v1 f2.2 f3.2))) f1.2);
    }
