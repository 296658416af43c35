-- The numbers of an initial value that a text has are printed as tokens that are read as the same numbers.
use Rattle.std.proofs.Common.{ℕ, zero, suc, ◌-◌, ℤ, pos, negsuc, List, ◌∷◌, refl, lit≤}
use Rattle.std.specs.Prelude.{codes}
use Rattle.token_scanner.specs.declared.token.Mark.TheVariants as mark
use Rattle.token_scanner.specs.Words.{Word, Words, Name, Number, Sign}
use Rattle.token_scanner.specs.Scanning.{keyword_of}
use Rattle.token_readers.specs.Limits.{most_initial, most_number}
use Rattle.procedure_parser.specs.Grammar.{Signed, unsigned, minus, MoreSigned, no_more_signed, more_signed, signed_over, Initial, no_initial, initial}
use Rattle.program_printer.specs.Tokens.{IsName}
use Rattle.program_printer.specs.Printing.{signed_words, more_signed_words, initial_words}
use Rattle.printing_theory.proofs.Read.{AllRead}
use Rattle.printing_theory.proofs.Phrases.{Finds, at_word}
use Rattle.printing_theory.proofs.Parts.{Prints}
use Rattle.printing_theory.proofs.KindForms.{within_prints}

from_is_name : IsName (codes "from")
unfolding keyword_of
from_is_name = record { begins = refl; goes_on = refl; short = lit≤ tt; no_keyword = refl }

signed_prints : (x : ℤ) (ts us : Words) → AllRead ts → Signed x ts us → Prints Signed signed_words x us
signed_prints _ _ _ h (unsigned n ts us w) =
    let q = within_prints 0 most_number n ts us h w in
    record {
      left = q.left;
      tokens = q.tokens;
      again = λ zs ws b. let f = q.again zs ws b in (f.0, f.1, unsigned n zs f.0 f.2);
    }
signed_prints _ _ _ h (minus zero l ts us w) =
    let q = within_prints 0 most_number zero ts us h.1 w in
    record {
      left = q.left;
      tokens = q.tokens;
      again = λ zs ws b. let f = q.again zs ws b in (f.0, f.1, unsigned zero zs f.0 f.2);
    }
signed_prints _ _ _ h (minus (suc n) l ts us w) =
    let q = within_prints 0 most_number (suc n) ts us h.1 w in
    record {
      left = q.left;
      tokens = λ ws i. (tt, q.tokens ws i);
      again = λ zs ws b.
          at_word (λ z. Finds Signed (negsuc n) ws z) (Sign mark.Minus) (Number (pos (suc n)) ∷ ws) zs b (λ i z1 b1.
          let f = q.again z1 ws b1 in
          (f.0, f.1, minus (suc n) i z1 f.0 f.2));
    }

more_signed_prints : (n : ℕ) (xs : List ℤ) (ts us : Words) → AllRead ts → MoreSigned n xs ts us → Prints (MoreSigned n) more_signed_words xs us
more_signed_prints _ _ _ _ h (no_more_signed n us) = record { left = h; tokens = λ ws i. i; again = λ zs ws b. (zs, b, no_more_signed n zs) }
more_signed_prints _ _ _ _ h (more_signed n l x xs ts us vs s m) =
    let q = signed_prints x ts us h.1 s in
    let r = more_signed_prints n xs us vs q.left m in
    record {
      left = r.left;
      tokens = λ ws i. (tt, q.tokens (more_signed_words xs ws) (r.tokens ws i));
      again = λ zs ws b.
          at_word (λ z. Finds (MoreSigned (suc n)) (x ∷ xs) ws z) (Sign mark.Comma) (signed_words x (more_signed_words xs ws)) zs b (λ i z1 b1.
          let f = q.again z1 (more_signed_words xs ws) b1 in
          let d = r.again f.0 ws f.1 in
          (d.0, d.1, more_signed n i x xs z1 f.0 d.0 f.2 d.2));
    }
more_signed_prints _ _ _ _ h (signed_over k l us) = absurd h.1.0

pub initial_prints : (xs : List ℤ) (ts us : Words) → AllRead ts → Initial xs ts us → Prints Initial initial_words xs us
initial_prints _ _ _ h (no_initial us) = record { left = h; tokens = λ ws i. i; again = λ zs ws b. (zs, b, no_initial zs) }
initial_prints _ _ _ h (initial l x xs ts us vs s m) =
    let q = signed_prints x ts us h.1 s in
    let r = more_signed_prints (most_initial - 1) xs us vs q.left m in
    record {
      left = r.left;
      tokens = λ ws i. (from_is_name, q.tokens (more_signed_words xs ws) (r.tokens ws i));
      again = λ zs ws b.
          at_word (λ z. Finds Initial (x ∷ xs) ws z) (Name (codes "from")) (signed_words x (more_signed_words xs ws)) zs b (λ i z1 b1.
          let f = q.again z1 (more_signed_words xs ws) b1 in
          let d = r.again f.0 ws f.1 in
          (d.0, d.1, initial i x xs z1 f.0 d.0 f.2 d.2));
    }
