-- The declarations of a text are printed as tokens that are read as declarations of the same tree.
use Rattle.std.proofs.Common.{◌≡◌, ℕ, suc, Bool, true, false, List, [], ◌∷◌, refl, sym, subst}
use Rattle.token_scanner.specs.declared.token.Mark.TheVariants as mark
use Rattle.token_scanner.specs.Words.{Word, Words, Name, Sign, Over}
use Rattle.source_tree.specs.Source.{Decl, Reduces, Defines, Source}
use Rattle.source_tree.specs.Lowering.{lower_decl, lowered}
use Rattle.procedure_parser.specs.Grammar.{Initial, ReducerForm, reduces, MoreParams, no_more, one_more, one_over, Params, no_params, params, ProcedureForm, defines, ProcedureWord, unmarked, marked, Declarations, no_declaration, a_reducer, a_procedure, reducer_over, procedure_over}
use Rattle.program_printer.specs.Tokens.{AllTokens, bare}
use Rattle.program_printer.specs.Printing.{initial_words, more_names, names_words, memo_words}
use Rattle.printing_theory.proofs.Read.{AllRead}
use Rattle.printing_theory.proofs.Said.{written_words, decl_said, said_onto}
use Rattle.printing_theory.proofs.Phrases.{Finds, at_word}
use Rattle.printing_theory.proofs.Parts.{Prints}
use Rattle.printing_theory.proofs.KindForms.{kind_prints}
use Rattle.printing_theory.proofs.Initials.{initial_prints}
use Rattle.printing_theory.proofs.Statements.{Found, Reprints, block_prints, block_said}

-- ---- parameters

more_params : (n : ℕ) (xs : List (List ℕ)) (ts us : Words) → AllRead ts → MoreParams n xs ts us → Prints (MoreParams n) more_names xs us
more_params _ _ _ _ h (no_more n us) = record { left = h; tokens = λ ws i. i; again = λ zs ws b. (zs, b, no_more n zs) }
more_params _ _ _ _ h (one_more n k l x xs us vs m) =
    let q = more_params n xs us vs h.1.1 m in
    record {
      left = q.left;
      tokens = λ ws i. (tt, (h.1.0, q.tokens ws i));
      again = λ zs ws b.
          at_word (λ z. Finds (MoreParams (suc n)) (x ∷ xs) ws z) (Sign mark.Comma) (Name x ∷ more_names xs ws) zs b (λ i z1 b1.
          at_word (λ z. Finds (MoreParams (suc n)) (x ∷ xs) ws ((Sign mark.Comma, i) ∷ z)) (Name x) (more_names xs ws) z1 b1 (λ j z2 b2.
          let f = q.again z2 ws b2 in
          (f.0, f.1, one_more n i j x xs z2 f.0 f.2)));
    }
more_params _ _ _ _ h (one_over k l us) = absurd h.1.0

-- parameters with their marks
abbrev params_said : List (List ℕ) → List Word → List Word
params_said xs ws = Sign mark.OpenParen ∷ names_words xs (Sign mark.CloseParen ∷ ws)

params_print : (xs : List (List ℕ)) (ts us : Words) → AllRead ts → Params xs ts us → Prints Params params_said xs us
params_print _ _ _ h (no_params k l us) =
    record {
      left = h.1.1;
      tokens = λ ws i. (tt, (tt, i));
      again = λ zs ws b.
          at_word (λ z. Finds Params [] ws z) (Sign mark.OpenParen) (Sign mark.CloseParen ∷ ws) zs b (λ i z1 b1.
          at_word (λ z. Finds Params [] ws ((Sign mark.OpenParen, i) ∷ z)) (Sign mark.CloseParen) ws z1 b1 (λ j z2 b2. (z2, b2, no_params i j z2)));
    }
params_print _ _ _ h (params x xs k i l ts us m) =
    let q = more_params 7 xs ts ((Sign mark.CloseParen, l) ∷ us) h.1.1 m in
    record {
      left = q.left.1;
      tokens = λ ws a. (tt, (h.1.0, q.tokens (Sign mark.CloseParen ∷ ws) (tt, a)));
      again = λ zs ws b.
          let P : Words → Type 0 = λ z. Finds Params (x ∷ xs) ws z in
          at_word P (Sign mark.OpenParen) (Name x ∷ more_names xs (Sign mark.CloseParen ∷ ws)) zs b (λ c1 z1 b1.
          at_word (λ z. P ((Sign mark.OpenParen, c1) ∷ z)) (Name x) (more_names xs (Sign mark.CloseParen ∷ ws)) z1 b1 (λ c2 z2 b2.
          let f = q.again z2 (Sign mark.CloseParen ∷ ws) b2 in
          at_word (λ z. MoreParams 7 xs z2 z → P ((Sign mark.OpenParen, c1) ∷ (Name x, c2) ∷ z2)) (Sign mark.CloseParen) ws f.0 f.1 (λ c3 z3 b3 v. (z3, b3, params x xs c1 c2 c3 z2 z3 v)) f.2));
    }

-- ---- declarations

abbrev pub SameDecl : Decl → Decl → Type 0
SameDecl d e = lower_decl e ≡ lower_decl d

-- a reducer with its first word, at any line
abbrev pub ReducerWhole : Decl → Words → Words → Type 0
ReducerWhole d ts us = (l : ℕ) × (vs : Words) × (ts ≡ (Sign mark.Reducer, l) ∷ vs) × ReducerForm l d vs us

pub reducer_prints : (l : ℕ) (d : Decl) (ts us : Words) → AllRead ts → ReducerForm l d ts us → Reprints ReducerWhole decl_said SameDecl d us
reducer_prints l _ _ _ h (reduces x kind xs i j m ts us vs p s) =
    let q = kind_prints kind ts us h.1.1 p in
    let r = initial_prints xs us ((Sign mark.Semicolon, m) ∷ vs) q.left s in
    record {
      left = r.left.1;
      tokens = λ ws a. (tt, (h.0, (tt, q.tokens (initial_words xs (Sign mark.Semicolon ∷ ws)) (r.tokens (Sign mark.Semicolon ∷ ws) (tt, a)))));
      again = λ zs ws b.
          let P : Words → Type 0 = λ z. Found ReducerWhole SameDecl (Reduces l x kind xs) ws z in
          let behind = initial_words xs (Sign mark.Semicolon ∷ ws) in
          at_word P (Sign mark.Reducer) (Name x ∷ Sign mark.Colon ∷ written_words kind behind) zs b (λ c1 z1 b1.
          at_word (λ z. P ((Sign mark.Reducer, c1) ∷ z)) (Name x) (Sign mark.Colon ∷ written_words kind behind) z1 b1 (λ c2 z2 b2.
          at_word (λ z. P ((Sign mark.Reducer, c1) ∷ (Name x, c2) ∷ z)) (Sign mark.Colon) (written_words kind behind) z2 b2 (λ c3 z3 b3.
          let f = q.again z3 behind b3 in
          let g = r.again f.0 (Sign mark.Semicolon ∷ ws) f.1 in
          at_word (λ z. Initial xs f.0 z → P ((Sign mark.Reducer, c1) ∷ (Name x, c2) ∷ (Sign mark.Colon, c3) ∷ z3)) (Sign mark.Semicolon) ws g.0 g.1 (λ c4 z4 b4 v.
          record { one = Reduces c1 x kind xs; rest = z4; behind = b4; holds = (c1, (Name x, c2) ∷ (Sign mark.Colon, c3) ∷ z3, refl, reduces x kind xs c2 c3 c4 z3 f.0 z4 f.2 v); same = refl }) g.2)));
    }

-- a procedure with its first words, at any line
abbrev pub ProcedureWhole : Decl → Words → Words → Type 0
ProcedureWhole d ts us = (l : ℕ) × (m : Bool) × (vs : Words) × ProcedureWord m l ts vs × ProcedureForm l m d vs us

pub word_left : (m : Bool) (l : ℕ) (ts us : Words) → AllRead ts → ProcedureWord m l ts us → AllRead us
word_left _ _ _ _ h (unmarked l us) = h.1
word_left _ _ _ _ h (marked l k us) = h.1.1

memo_tokens : (m : Bool) (ws : List Word) → AllTokens ws → AllTokens (memo_words m ws)
memo_tokens true ws i = (tt, i)
memo_tokens false ws i = i

memo_again : (m : Bool) (zs : Words) (ws : List Word) → bare zs ≡ memo_words m (Sign mark.Proc ∷ ws) → (l : ℕ) × (rest : Words) × (bare rest ≡ ws) × ProcedureWord m l zs rest
memo_again true zs ws b =
    at_word (λ z. (l : ℕ) × (rest : Words) × (bare rest ≡ ws) × ProcedureWord true l z rest) (Sign mark.Memo) (Sign mark.Proc ∷ ws) zs b (λ i z1 b1.
    at_word (λ z. (l : ℕ) × (rest : Words) × (bare rest ≡ ws) × ProcedureWord true l ((Sign mark.Memo, i) ∷ z) rest) (Sign mark.Proc) ws z1 b1 (λ j z2 b2. (i, z2, b2, marked i j z2)))
memo_again false zs ws b =
    at_word (λ z. (l : ℕ) × (rest : Words) × (bare rest ≡ ws) × ProcedureWord false l z rest) (Sign mark.Proc) ws zs b (λ j z2 b2. (j, z2, b2, unmarked j z2))

pub procedure_prints : (l : ℕ) (m : Bool) (d : Decl) (ts us : Words) → AllRead ts → ProcedureForm l m d ts us → Reprints ProcedureWhole decl_said SameDecl d us
procedure_prints l m _ _ _ h (defines f xs ss k ts us vs p b) =
    let q = params_print xs ts us h.1 p in
    let r = block_prints 32 ss us vs q.left b in
    record {
      left = r.left;
      tokens = λ ws i. memo_tokens m (Sign mark.Proc ∷ Name f ∷ params_said xs (block_said ss ws)) (tt, (h.0, q.tokens (block_said ss ws) (r.tokens ws i)));
      again = λ zs ws e.
          let P : Type 0 = Found ProcedureWhole SameDecl (Defines l m f xs ss) ws zs in
          let o = memo_again m zs (Name f ∷ params_said xs (block_said ss ws)) e in
          at_word (λ z. ProcedureWord m o.0 zs z → P) (Name f) (params_said xs (block_said ss ws)) o.1 o.2 (λ c1 z1 b1 v.
          let a = q.again z1 (block_said ss ws) b1 in
          let c = r.again a.0 ws a.1 in
          record {
            one = Defines o.0 m f xs c.one;
            rest = c.rest;
            behind = c.behind;
            holds = (o.0, m, (Name f, c1) ∷ z1, v, defines f xs c.one c1 z1 a.0 c.rest a.2 c.holds);
            same = rw (c.same (xs, 0)) refl;
          }) o.3;
    }

-- ---- programs

abbrev pub SameSource : Source → Source → Type 0
SameSource s y = lowered y ≡ lowered s

pub declarations_print : (r p : ℕ) (ds : Source) (ts us : Words) → AllRead ts → Declarations r p ds ts us → Reprints (Declarations r p) said_onto SameSource ds us
declarations_print _ _ _ _ _ h (no_declaration r p ts) = record { left = h; tokens = λ ws i. i; again = λ zs ws b. record { one = []; rest = zs; behind = b; holds = no_declaration r p zs; same = refl } }
declarations_print _ _ _ _ _ h (a_reducer r p l d ds ts us vs rf rest) =
    let q = reducer_prints l d ts us h.1 rf in
    let t = declarations_print r p ds us vs q.left rest in
    record {
      left = t.left;
      tokens = λ ws i. q.tokens (said_onto ds ws) (t.tokens ws i);
      again = λ zs ws b.
          let f = q.again zs (said_onto ds ws) b in
          let e = t.again f.rest ws f.behind in
          let made : Declarations (suc r) p (f.one ∷ e.one) ((Sign mark.Reducer, f.holds.0) ∷ f.holds.1) e.rest = a_reducer r p f.holds.0 f.one e.one f.holds.1 f.rest e.rest f.holds.3 e.holds in
          record {
            one = f.one ∷ e.one;
            rest = e.rest;
            behind = e.behind;
            holds = subst (λ (z : Words). Declarations (suc r) p (f.one ∷ e.one) z e.rest) (sym f.holds.2) made;
            same = rw (f.same, e.same) refl;
          };
    }
declarations_print _ _ _ _ _ h (a_procedure r p l m d ds ts us vs ws w pf rest) =
    let q = procedure_prints l m d us vs (word_left m l ts us h w) pf in
    let t = declarations_print r p ds vs ws q.left rest in
    record {
      left = t.left;
      tokens = λ xs i. q.tokens (said_onto ds xs) (t.tokens xs i);
      again = λ zs xs b.
          let f = q.again zs (said_onto ds xs) b in
          let e = t.again f.rest xs f.behind in
          record {
            one = f.one ∷ e.one;
            rest = e.rest;
            behind = e.behind;
            holds = a_procedure r p f.holds.0 f.holds.1 f.one e.one zs f.holds.2 f.rest e.rest f.holds.3 f.holds.4 e.holds;
            same = rw (f.same, e.same) refl;
          };
    }
declarations_print _ _ _ _ _ h (reducer_over p k l us) = absurd h.1.0
declarations_print _ _ _ _ _ h (procedure_over r k l m ts us w) = absurd (let i : AllRead ((Over, l) ∷ us) = word_left m k ts ((Over, l) ∷ us) h w in i.0)
