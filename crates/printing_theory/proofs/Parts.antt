-- Lists of expressions that a text has are printed as tokens that are read as the same.
use Rattle.std.proofs.Common.{◌≡◌, ℕ, List, [], ◌∷◌, Option}
use Rattle.token_scanner.specs.declared.token.Mark.TheVariants as mark
use Rattle.token_scanner.specs.Words.{Word, Words, Name, Sign}
use Rattle.meaning.specs.declared.tree.Way.{Way}
use Rattle.source_tree.specs.Source.{Phrase, Enters}
use Rattle.procedure_parser.specs.Grammar.{Form, Many, nil, cons, Whole, CommaExpr, comma_expr, Exprs, exprs, Args, no_args, args, Entry, entry}
use Rattle.program_printer.specs.Tokens.{IsName, AllTokens, bare}
use Rattle.printing_theory.proofs.Read.{AllRead}
use Rattle.printing_theory.proofs.Said.{phrase_words, more_phrases, phrases_words, args_words, called_words}
use Rattle.printing_theory.proofs.Phrases.{Finds, at_word, whole_clean, whole_again}

-- what is left is read, what is printed are tokens, and they are read as the same
pub record Prints {A : Type 0} (R : Form A) (say : A → List Word → List Word) (x : A) (us : Words) : Type 0 where
  pub left : AllRead us
  pub tokens : (ws : List Word) → AllTokens ws → AllTokens (say x ws)
  pub again : (vs : Words) (ws : List Word) → bare vs ≡ say x ws → Finds R x ws vs

pub whole_prints : (e : Phrase) (ts us : Words) → AllRead ts → Whole e ts us → Prints Whole phrase_words e us
whole_prints e ts us h w =
    let c = whole_clean e ts us h w in
    record { left = c.left; tokens = c.tokens; again = whole_again e w.1 }

more_print : (es : List Phrase) (ts us : Words) → AllRead ts → Many CommaExpr es ts us → Prints (Many CommaExpr) more_phrases es us
more_print _ _ _ h (nil ts) = record { left = h; tokens = λ ws i. i; again = λ vs ws b. (vs, b, nil vs) }
more_print _ _ _ h (cons _ xs _ _ vs (comma_expr e l ts us' w) m) =
    let q = whole_prints e ts us' h.1 w in
    let r = more_print xs us' vs q.left m in
    record {
      left = r.left;
      tokens = λ ws i. (tt, q.tokens (more_phrases xs ws) (r.tokens ws i));
      again = λ zs ws b.
          at_word (λ z. Finds (Many CommaExpr) (e ∷ xs) ws z) (Sign mark.Comma) (phrase_words e (more_phrases xs ws)) zs b (λ k z1 b1.
          let f = q.again z1 (more_phrases xs ws) b1 in
          let g = r.again f.0 ws f.1 in
          (g.0, g.1, cons e xs ((Sign mark.Comma, k) ∷ z1) f.0 g.0 (comma_expr e k z1 f.0 f.2) g.2));
    }

pub exprs_print : (es : List Phrase) (ts us : Words) → AllRead ts → Exprs es ts us → Prints Exprs phrases_words es us
exprs_print _ _ _ h (exprs e es ts us vs w m) =
    let q = whole_prints e ts us h w in
    let r = more_print es us vs q.left m in
    record {
      left = r.left;
      tokens = λ ws i. q.tokens (more_phrases es ws) (r.tokens ws i);
      again = λ zs ws b.
          let f = q.again zs (more_phrases es ws) b in
          let g = r.again f.0 ws f.1 in
          (g.0, g.1, exprs e es zs f.0 g.0 f.2 g.2);
    }

pub args_print : (es : List Phrase) (ts us : Words) → AllRead ts → Args es ts us → Prints Args args_words es us
args_print _ _ _ h (no_args k l us) =
    record {
      left = h.1.1;
      tokens = λ ws i. (tt, (tt, i));
      again = λ zs ws b.
          at_word (λ z. Finds Args [] ws z) (Sign mark.OpenParen) (Sign mark.CloseParen ∷ ws) zs b (λ i z1 b1.
          at_word (λ z. Finds Args [] ws ((Sign mark.OpenParen, i) ∷ z)) (Sign mark.CloseParen) ws z1 b1 (λ j z2 b2. (z2, b2, no_args i j z2)));
    }
args_print _ _ _ h (args es k l ts us p) =
    let q = exprs_print es ts ((Sign mark.CloseParen, l) ∷ us) h.1 p in
    record {
      left = q.left.1;
      tokens = λ ws i. (tt, q.tokens (Sign mark.CloseParen ∷ ws) (tt, i));
      again = λ zs ws b.
          at_word (λ z. Finds Args es ws z) (Sign mark.OpenParen) (phrases_words es (Sign mark.CloseParen ∷ ws)) zs b (λ i z1 b1.
          let f = q.again z1 (Sign mark.CloseParen ∷ ws) b1 in
          at_word (λ z. Exprs es z1 z → Finds Args es ws ((Sign mark.OpenParen, i) ∷ z1)) (Sign mark.CloseParen) ws f.0 f.1 (λ j z2 b2 e. (z2, b2, args es i j z1 z2 e)) f.2);
    }

-- behind call or spawn
pub called_tokens : (f : List ℕ) (es : List Phrase) (us : Words) → IsName f → Prints Args args_words es us → (ws : List Word) → AllTokens ws → AllTokens (called_words f es ws)
called_tokens f es us n q ws i = (n, q.tokens (Sign mark.Semicolon ∷ ws) (tt, i))

pub entry_again : (l : ℕ) (x : Option (List ℕ)) (h : Way) (f : List ℕ) (es : List Phrase) (us : Words) → Prints Args args_words es us → (zs : Words) (ws : List Word) → bare zs ≡ called_words f es ws → Finds (Entry l x h) (Enters l x h f es) ws zs
entry_again l x h f es us q zs ws b =
    at_word (λ z. Finds (Entry l x h) (Enters l x h f es) ws z) (Name f) (args_words es (Sign mark.Semicolon ∷ ws)) zs b (λ k z1 b1.
    let r = q.again z1 (Sign mark.Semicolon ∷ ws) b1 in
    at_word (λ z. Args es z1 z → Finds (Entry l x h) (Enters l x h f es) ws ((Name f, k) ∷ z1)) (Sign mark.Semicolon) ws r.0 r.1 (λ m z2 b2 a. (z2, b2, entry f es k m z1 z2 a)) r.2)
