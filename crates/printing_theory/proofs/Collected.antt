-- Declarations of several texts are printed and read together.
use Rattle.std.proofs.Common.{◌≡◌, ℕ, zero, suc, ◌≤◌, Bool, List, [], ◌∷◌, refl, sym, subst, arith, inl, inr}
use Rattle.token_scanner.specs.declared.token.Mark.TheVariants as mark
use Rattle.token_scanner.specs.Words.{Word, Words, Sign}
use Rattle.token_scanner.specs.Scanning.{tokens_of}
use Rattle.meaning.specs.Tree.{Tree}
use Rattle.source_tree.specs.Source.{Decl, Reduces, Defines, Source}
use Rattle.source_tree.specs.Lowering.{lowered, lowered_tree}
use Rattle.procedure_parser.specs.Grammar.{Form, ReducerForm, reduces, ProcedureForm, defines, Declarations, no_declaration, a_reducer, a_procedure, reducer_over, procedure_over}
use Rattle.program_printer.specs.Tokens.{AllTokens, bare}
use Rattle.printing_theory.specs.Again.{IsIn, AllOfSome, reducer_count, procedure_count}
use Rattle.printing_theory.proofs.Read.{AllRead, tokens_read}
use Rattle.printing_theory.proofs.Said.{decl_said, said_onto}
use Rattle.printing_theory.proofs.Statements.{Found, Reprints}
use Rattle.printing_theory.proofs.Declarations.{ReducerWhole, ProcedureWhole, SameDecl, SameSource, reducer_prints, procedure_prints, word_left}

-- what is printed are tokens, and they are read as one that is like it
pub record Comes (R : Form Decl) (d : Decl) : Type 0 where
  pub tokens : (ws : List Word) → AllTokens ws → AllTokens (decl_said d ws)
  pub again : (vs : Words) (ws : List Word) → bare vs ≡ decl_said d ws → Found R SameDecl d ws vs

abbrev pub DeclComes : Decl → Type 0
DeclComes (Reduces l x k vs) = Comes ReducerWhole (Reduces l x k vs)
DeclComes (Defines l m f xs ss) = Comes ProcedureWhole (Defines l m f xs ss)

abbrev pub EachComes : Source → Type 0
EachComes [] = Unit {0}
EachComes (d ∷ ds) = DeclComes d × EachComes ds

reducer_comes : (l : ℕ) (d : Decl) (ts us : Words) → ReducerForm l d ts us → Reprints ReducerWhole decl_said SameDecl d us → DeclComes d
reducer_comes l _ _ _ (reduces x kind xs i j m ts us vs p s) q = record { tokens = q.tokens; again = q.again }

procedure_comes : (l : ℕ) (m : Bool) (d : Decl) (ts us : Words) → ProcedureForm l m d ts us → Reprints ProcedureWhole decl_said SameDecl d us → DeclComes d
procedure_comes l m _ _ _ (defines f xs ss k ts us vs p b) q = record { tokens = q.tokens; again = q.again }

each_comes : (r p : ℕ) (ds : Source) (ts us : Words) → AllRead ts → Declarations r p ds ts us → EachComes ds
each_comes _ _ _ _ _ h (no_declaration r p ts) = tt
each_comes _ _ _ _ _ h (a_reducer r p l d ds ts us vs rf rest) =
    let q = reducer_prints l d ts us h.1 rf in
    (reducer_comes l d ts us rf q, each_comes r p ds us vs q.left rest)
each_comes _ _ _ _ _ h (a_procedure r p l m d ds ts us vs ws w pf rest) =
    let q = procedure_prints l m d us vs (word_left m l ts us h w) pf in
    (procedure_comes l m d us vs pf q, each_comes r p ds vs ws q.left rest)
each_comes _ _ _ _ _ h (reducer_over p k l us) = tt
each_comes _ _ _ _ _ h (procedure_over r k l m ts us w) = tt

member_comes : (d : Decl) (ds : Source) → IsIn d ds → EachComes ds → DeclComes d
member_comes d [] i c = absurd i
member_comes d (e ∷ ds) (inl q) c = subst (λ (z : Decl). DeclComes z) q c.0
member_comes d (e ∷ ds) (inr i) c = member_comes d ds i c.1

-- a source tree of such declarations
pub chosen : (t : Tree) → AllOfSome t → (s : Source) × EachComes s × (lowered_tree t ≡ lowered s)
chosen [] i = ([], tt, refl)
chosen (d ∷ t) ((text, s, e, o, m, q), j) =
    let c = member_comes e s m (each_comes 16 256 s (tokens_of text) [] (tokens_read text) o.1) in
    let r = chosen t j in
    (e ∷ r.0, (c, r.1), rw (q, r.2) refl)

pub collected_tokens : (s : Source) → EachComes s → (ws : List Word) → AllTokens ws → AllTokens (said_onto s ws)
collected_tokens [] c ws i = i
collected_tokens (Reduces l x k ns ∷ s) c ws i = c.0.tokens (said_onto s ws) (collected_tokens s c.1 ws i)
collected_tokens (Defines l m f xs ss ∷ s) c ws i = c.0.tokens (said_onto s ws) (collected_tokens s c.1 ws i)

pub collected_again : (r p : ℕ) (s : Source) → EachComes s → reducer_count (lowered s) ≤ r → procedure_count (lowered s) ≤ p → (vs : Words) (ws : List Word) → bare vs ≡ said_onto s ws → Found (Declarations r p) SameSource s ws vs
collected_again r p [] c a b vs ws h = record { one = []; rest = vs; behind = h; holds = no_declaration r p vs; same = refl }
collected_again zero p (Reduces l x k ns ∷ s) c a b vs ws h = absurd (omega arith)
collected_again (suc r) p (Reduces l x k ns ∷ s) c a b vs ws h =
    let f = c.0.again vs (said_onto s ws) h in
    let e = collected_again r p s c.1 (omega arith) b f.rest ws f.behind in
    let made : Declarations (suc r) p (f.one ∷ e.one) ((Sign mark.Reducer, f.holds.0) ∷ f.holds.1) e.rest = a_reducer r p f.holds.0 f.one e.one f.holds.1 f.rest e.rest f.holds.3 e.holds in
    record {
      one = f.one ∷ e.one;
      rest = e.rest;
      behind = e.behind;
      holds = subst (λ (z : Words). Declarations (suc r) p (f.one ∷ e.one) z e.rest) (sym f.holds.2) made;
      same = rw (f.same, e.same) refl;
    }
collected_again r zero (Defines l m f xs ss ∷ s) c a b vs ws h = absurd (omega arith)
collected_again r (suc p) (Defines l m g xs ss ∷ s) c a b vs ws h =
    let f = c.0.again vs (said_onto s ws) h in
    let e = collected_again r p s c.1 a (omega arith) f.rest ws f.behind in
    record {
      one = f.one ∷ e.one;
      rest = e.rest;
      behind = e.behind;
      holds = a_procedure r p f.holds.0 f.holds.1 f.one e.one vs f.holds.2 f.rest e.rest f.holds.3 f.holds.4 e.holds;
      same = rw (f.same, e.same) refl;
    }
