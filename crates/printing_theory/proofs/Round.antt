-- A text's tree is that of its printed text.
use Rattle.std.proofs.Common.{◌≡◌, ℕ, ◌<◌, ◌≤◌, List, [], ◌∷◌, length, Result, Ok, Err, inl, inr, refl, sym, subst, ◌∙◌, arith}
use Rattle.std.specs.Prelude.{IfOk, IfErr}
use Rattle.std.specs.Global.{Vec}
use Rattle.meaning.specs.Tree.{Tree}
use Rattle.meaning.specs.TreeView.{tree, lines}
use Rattle.meaning.specs.declared.tree.Program.{Program}
use Rattle.token_scanner.specs.Words.{Word, Words}
use Rattle.token_scanner.specs.Scanning.{tokens_of, longest_text}
use Rattle.source_tree.specs.Source.{Source}
use Rattle.source_tree.specs.Lowering.{Lowered, lowered_tree, lowered, lines_of}
use Rattle.source_tree.proofs.LoweredTrees.{lowered_back}
use Rattle.token_readers.specs.declared.fault.TextError.{TextError}
use Rattle.token_readers.specs.declared.fault.TextError.TheVariants.{NoMemory, Text}
use Rattle.procedure_parser.specs.Grammar.{Declarations}
use Rattle.procedure_parser.specs.Correct.{InGrammar, IsSource, IsText, Answers, IsFault}
use Rattle.program_printer.specs.Tokens.{AllTokens, bare}
use Rattle.program_printer.specs.Printing.{printed_words, printed}
use Rattle.program_printer.proofs.Rescan.{tokens_again}
use Rattle.printing_theory.specs.Again.{HasTree, IsOfText, IsOfTexts, PrintsAgain, IsAgain, IsTooLong, reducer_count, procedure_count}
use Rattle.printing_theory.proofs.Said.{said}
use Rattle.printing_theory.proofs.Names.{said_of}
use Rattle.printing_theory.proofs.Read.{tokens_read}
use Rattle.printing_theory.proofs.Declarations.{declarations_print}
use Rattle.printing_theory.proofs.Collected.{chosen, collected_tokens, collected_again}

bare_nil : (ts : Words) → bare ts ≡ [] → ts ≡ []
bare_nil [] h = refl
bare_nil (t ∷ ts) h = absurd cc

-- another source tree of the same program, in the printed text
source_again : (t : Tree) (s : Source) (text : List ℕ) → InGrammar s (tokens_of text) → lowered_tree t ≡ lowered s → (y : Source) × InGrammar y (tokens_of (printed t)) × (lowered y ≡ lowered s)
source_again t s text i e =
    let q = declarations_print 16 256 s (tokens_of text) [] (tokens_read text) i in
    let w : printed_words t ≡ said s = said_of t s e in
    let a : AllTokens (printed_words t) = subst (λ (z : List Word). AllTokens z) (sym w) (q.tokens [] tt) in
    let f = q.again (tokens_of (printed t)) [] (tokens_again (printed_words t) a ∙ w) in
    (f.one, subst (λ (z : Words). Declarations 16 256 f.one (tokens_of (printed t)) z) (bare_nil f.rest f.behind) f.holds, f.same)

pub prints_again : (t : Tree) → IsOfText t → length (printed t) ≤ longest_text → PrintsAgain t
prints_again t (text, (l, (s, i, e, g))) h =
    let q = source_again t s text i.1 e in
    (lines_of q.0, (q.0, (h, q.1), e ∙ sym q.2, refl))

answered : (t : Tree) (s : Source) (answer : Result Program TextError) → lowered_tree t ≡ lowered s → Answers answer s → IsAgain t answer
answered t s (Ok p) e a = lowered_back (tree p) t (a.0 ∙ sym e)
answered t s (Err NoMemory) e a = tt
answered t s (Err (Text n)) e a = a

pub reads_again : (t : Tree) → PrintsAgain t → (answer : Result Program TextError) → ((s : Source) → IsSource s (printed t) → Answers answer s) → IsAgain t answer
reads_again t p answer f = answered t p.1.0 answer p.1.2 (f p.1.0 p.1.1)

pub collected_prints : (t : Tree) → IsOfTexts t → length (printed t) ≤ longest_text → PrintsAgain t
collected_prints t (i, r, p) h =
    let c = chosen t i in
    let w : printed_words t ≡ said c.0 = said_of t c.0 c.2 in
    let a : AllTokens (printed_words t) = subst (λ (z : List Word). AllTokens z) (sym w) (collected_tokens c.0 c.1 [] tt) in
    let n : reducer_count (lowered c.0) ≤ 16 = subst (λ (z : List Lowered). reducer_count z ≤ 16) c.2 r in
    let m : procedure_count (lowered c.0) ≤ 256 = subst (λ (z : List Lowered). procedure_count z ≤ 256) c.2 p in
    let f = collected_again 16 256 c.0 c.1 n m (tokens_of (printed t)) [] (tokens_again (printed_words t) a ∙ w) in
    (lines_of f.one, (f.one, (h, subst (λ (z : Words). Declarations 16 256 f.one (tokens_of (printed t)) z) (bare_nil f.rest f.behind) f.holds), c.2 ∙ sym f.same, refl))

pub too_long : (text : List ℕ) (answer : Result Program TextError) → longest_text < length text → IfOk answer (λ p. IsText text (tree p) (lines p)) → IfErr answer (λ e. IsFault text e) → IsTooLong answer
too_long text (Ok p) h f g = absurd (omega (arith, h, f.1.0))
too_long text (Err NoMemory) h f g = tt
too_long text (Err (Text l)) h f (inl e) = e.1
too_long text (Err (Text l)) h f (inr e) = absurd (omega (arith, h, e.1))

text_again : (t : Tree) (text : List ℕ) → text ≡ printed t → IsOfTexts t → length text ≤ longest_text → HasTree text t
text_again t text e i h =
    subst (λ (xs : List ℕ). HasTree xs t) (sym e) (collected_prints t i (subst (λ (xs : List ℕ). length xs ≤ longest_text) e h))

pub carried : {E : Type 0} (t : Tree) (answer : Result (Vec ℕ) E) → IfOk answer (λ text. text.items ≡ printed t) → IfOk answer (λ text. IsOfTexts t → length text.items ≤ longest_text → HasTree text.items t)
carried t (Ok text) e = λ i h. text_again t text.items e i h
carried t (Err f) e = tt
