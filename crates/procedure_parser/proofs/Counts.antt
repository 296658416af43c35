-- How many tokens and statements a text has, and where its lines begin.
use Rattle.std.proofs.Common.{◌≡◌, ℕ, ℤ, zero, suc, ◌+◌, ◌-◌, ◌<◌, ◌≤◌, eqb, List, [], ◌∷◌, ◌++◌, length, drop, Some, refl, sym, ap, subst, ◌∙◌, arith, inl, inr}
use Rattle.token_scanner.specs.declared.scanning.Class.TheVariants as class
use Rattle.token_scanner.specs.Words.{Words}
use Rattle.token_scanner.specs.Scanning.{scan, is_space, front_len, belongs, word_at, tokens_of, longest_text}
use Rattle.source_tree.specs.Kinds.{WrittenKind}
use Rattle.source_tree.specs.Source.{Stmt, Returns, stmts_of, Decl, Source}
use Rattle.source_tree.specs.Lowering.{count, count_all, BodiesWithin}
use Rattle.token_readers.specs.Limits.{most_initial}
use Rattle.token_readers.specs.Reading.{stuck_before}
use Rattle.procedure_parser.specs.Reading.{text_at}
use Rattle.procedure_parser.specs.Grammar.{Form, Many, nil, cons, Entry, entry, Statement, binds, binds_entry, binds_read, enters, syncs, updates, tests, tests_else, loops, Body, plain, returning, Block, comma_number, MoreCells, no_more_cells, more_cells, cells, TableForm, table, KindForm, simple, first, last, of_table, Signed, unsigned, minus, MoreSigned, no_more_signed, more_signed, signed_over, Initial, no_initial, initial, ReducerForm, reduces, MoreParams, no_more, one_more, one_over, Params, no_params, params, ProcedureForm, defines, ProcedureWord, unmarked, marked, Declarations, no_declaration, a_reducer, a_procedure, reducer_over, procedure_over}
use Rattle.token_readers.specs.Rooms.{Room}
use Rattle.procedure_parser.specs.Defining.{behind_name, Procedures, no_procedure, one_procedure, no_room, definition_at}
use Rattle.token_readers.specs.Lines.{line_at}
use Rattle.procedure_parser.specs.Correct.{InGrammar, FirstFaultIn, IsFaultLineIn, InDefinition}
use Rattle.procedure_parser.proofs.Head.{on_bool}
use Rattle.procedure_parser.proofs.Short.{IsShort, statement_short, whole_short, within_short, block_short}
use Rattle.procedure_parser.proofs.Whole.{text_stuck, definition_stuck}

-- ---- statements

abbrev pub IsCounted : Form (List Stmt) → Type 0
IsCounted R = (ss : List Stmt) (ts us : Words) → R ss ts us → count_all (stmts_of ss) + length us ≤ length ts

count_last : (ss : List Stmt) (s : Stmt) → count_all (stmts_of (ss ++ s ∷ [])) ≡ count_all (stmts_of ss) + count s
count_last [] s = omega arith
count_last (t ∷ ss) s = let e = count_last ss s in omega (arith, e)

entry_count : (l : ℕ) (x : _) (h : _) (s : Stmt) (ts us : Words) → Entry l x h s ts us → count s ≡ 1
entry_count l x h _ _ _ (entry f es k m ts us a) = refl

module _ (B : Form (List Stmt)) (block : IsCounted B) (short : IsShort B) where
  statement_count : (s : Stmt) (ts us : Words) → Statement B s ts us → count s + length us ≤ length ts
  statement_count _ _ _ (binds l k m x e ts us w) = omega (arith, whole_short _ _ _ w)
  statement_count _ _ _ (binds_entry l k j x w g s ts us ew en) = omega (arith, entry_count _ _ _ _ _ _ en, statement_short B short _ _ _ (binds_entry l k j x w g s ts us ew en))
  statement_count _ _ _ (binds_read l k j i m x r us) = omega arith
  statement_count _ _ _ (enters l w g s ts us ew en) = omega (arith, entry_count _ _ _ _ _ _ en, statement_short B short _ _ _ (enters l w g s ts us ew en))
  statement_count _ _ _ (syncs l k us) = omega arith
  statement_count _ _ _ (updates l k m r es ts us e) = omega (arith, statement_short B short _ _ _ (updates l k m r es ts us e))
  statement_count _ _ _ (tests l e a ts us vs w b) = omega (arith, whole_short _ _ _ w, block _ _ _ b)
  statement_count _ _ _ (tests_else l k e a b ts us vs ws w p q) = omega (arith, whole_short _ _ _ w, block _ _ _ p, block _ _ _ q)
  statement_count _ _ _ (loops l i j k h m g x f low high es ts us vs ws r d a) = omega (arith, statement_short B short _ _ _ (loops l i j k h m g x f low high es ts us vs ws r d a))

  many_count : (ss : List Stmt) (ts us : Words) → Many (Statement B) ss ts us → count_all (stmts_of ss) + length us ≤ length ts
  many_count _ _ _ (nil ts) = omega arith
  many_count _ _ _ (cons s ss ts us vs r m) = omega (arith, statement_count s ts us r, many_count ss us vs m)

  body_count : IsCounted (Body B)
  body_count _ _ _ (plain ss l ts us m) = omega (arith, many_count ss ts _ m)
  body_count _ _ _ (returning ss e l j k ts us vs m w) = omega (arith, count_last ss (Returns l e), many_count ss ts _ m, whole_short _ _ _ w)

block_count : (n : ℕ) → IsCounted (Block n)
block_count zero ss ts us (l, e, is) = subst (λ (ss : List Stmt). count_all (stmts_of ss) + length us ≤ length ts) (sym e) (omega (arith, ap length is))
block_count (suc n) ss ts us (l, vs, is, b) = omega (arith, ap length is, body_count (Block n) (block_count n) (block_short n) ss vs us b)

more_params_count : (n : ℕ) (xs : List (List ℕ)) (ts us : Words) → MoreParams n xs ts us → length us ≤ length ts
more_params_count _ _ _ _ (no_more n us) = omega arith
more_params_count _ _ _ _ (one_more n k l x xs us vs m) = omega (arith, more_params_count n xs us vs m)
more_params_count _ _ _ _ (one_over k l us) = omega arith

params_count : (xs : List (List ℕ)) (ts us : Words) → Params xs ts us → length us ≤ length ts
params_count _ _ _ (no_params k l us) = omega arith
params_count _ _ _ (params x xs k i l ts us m) = omega (arith, more_params_count 7 xs ts _ m)

cells_count : (n k : ℕ) (xs : List ℕ) (ts us : Words) → MoreCells n k xs ts us → length us ≤ length ts
cells_count n _ _ _ _ (no_more_cells us) = omega arith
cells_count n _ _ _ _ (more_cells k x xs ts us vs (comma_number _ l zs _ w) m) = omega (arith, within_short _ _ _ _ _ w, cells_count n k xs us vs m)

table_count : (k : WrittenKind) (ts us : Words) → TableForm k ts us → length us ≤ length ts
table_count _ _ _ (table n u k _ ts us vs ws w x (cells y xs i j ps qs _ z m)) = omega (arith, within_short _ _ _ _ _ w, within_short _ _ _ _ _ x, within_short _ _ _ _ _ z, cells_count _ _ _ _ _ m)

kind_count : (k : WrittenKind) (ts us : Words) → KindForm k ts us → length us ≤ length ts
kind_count _ _ _ (simple x k l us e) = omega arith
kind_count _ _ _ (first n l ts us w) = omega (arith, within_short _ _ _ _ _ w)
kind_count _ _ _ (last n l ts us w) = omega (arith, within_short _ _ _ _ _ w)
kind_count _ _ _ (of_table k l ts us f) = omega (arith, table_count k ts us f)

signed_count : (x : ℤ) (ts us : Words) → Signed x ts us → length us ≤ length ts
signed_count _ _ _ (unsigned n ts us w) = omega (arith, within_short _ _ _ _ _ w)
signed_count _ _ _ (minus n l ts us w) = omega (arith, within_short _ _ _ _ _ w)

more_signed_count : (n : ℕ) (xs : List ℤ) (ts us : Words) → MoreSigned n xs ts us → length us ≤ length ts
more_signed_count _ _ _ _ (no_more_signed n us) = omega arith
more_signed_count _ _ _ _ (more_signed n l x xs ts us vs s m) = omega (arith, signed_count x ts us s, more_signed_count n xs us vs m)
more_signed_count _ _ _ _ (signed_over k l us) = omega arith

initial_count : (xs : List ℤ) (ts us : Words) → Initial xs ts us → length us ≤ length ts
initial_count _ _ _ (no_initial us) = omega arith
initial_count _ _ _ (initial l x xs ts us vs s m) = omega (arith, signed_count x ts us s, more_signed_count (most_initial - 1) xs us vs m)

reducer_count : (l : ℕ) (d : Decl) (ts us : Words) (r : ReducerForm l d ts us) (n : ℕ) (ds : Source) → length ts ≤ n → (length us ≤ n → BodiesWithin n ds) → BodiesWithin n (d ∷ ds)
reducer_count l _ _ _ (reduces x kind xs i j m ts us vs f s) n ds le rest = (omega arith, rest (omega (arith, kind_count _ _ _ f, initial_count _ _ _ s)))

procedure_count : (l : ℕ) (m : _) (d : Decl) (ts us : Words) (r : ProcedureForm l m d ts us) (n : ℕ) (ds : Source) → length ts ≤ n → (length us ≤ n → BodiesWithin n ds) → BodiesWithin n (d ∷ ds)
procedure_count l m _ _ _ (defines f xs ss k ts us vs p b) n ds le rest = (omega (arith, params_count xs ts us p, block_count 32 ss us vs b), rest (omega (arith, params_count xs ts us p, block_count 32 ss us vs b)))

words_count : (m : _) (l : ℕ) (ts us : Words) → ProcedureWord m l ts us → length us ≤ length ts
words_count _ _ _ _ (unmarked l us) = omega arith
words_count _ _ _ _ (marked l k us) = omega arith

bodies : (r p : ℕ) (ds : Source) (ts us : Words) → Declarations r p ds ts us → (n : ℕ) → length ts ≤ n → BodiesWithin n ds
bodies _ _ _ _ _ (no_declaration r p ts) n le = tt
bodies _ _ _ _ _ (a_reducer r p l d ds ts us vs f m) n le = reducer_count l d ts us f n ds (omega arith) (λ h. bodies r p ds us vs m n h)
bodies _ _ _ _ _ (a_procedure r p l b d ds ts us vs ws w f m) n le = procedure_count l b d us vs f n ds (omega (arith, words_count b l ts us w)) (λ h. bodies r p ds vs ws m n h)
bodies _ _ _ _ _ (reducer_over p k l us) n le = tt
bodies _ _ _ _ _ (procedure_over r k l b ts us w) n le = tt

procedures_bodies : (room : Room) (ds : Source) (ts us : Words) → Procedures room ds ts us → (n : ℕ) → length ts ≤ n → BodiesWithin n ds
procedures_bodies _ _ _ _ (no_procedure room ts) n le = tt
procedures_bodies _ _ _ _ (one_procedure room after l k m f d ds ts us vs ws w e (behind_name xs ss _ zs _ p b) q) n le =
    let c = words_count m l ts _ w in
    let x = params_count xs us zs p in
    let y = block_count 32 ss zs vs b in
    (omega (arith, le, c, x, y), procedures_bodies after ds vs ws q n (omega (arith, le, c, x, y)))
procedures_bodies _ _ _ _ (no_room known k l m ts us w) n le = tt

-- ---- tokens

scan_count : (k line : ℕ) (bs : List ℕ) → length (scan k line bs) ≤ k
unfolding scan
scan_count zero line bs = omega arith
scan_count (suc k) line [] = omega arith
scan_count (suc k) line (b ∷ bs) =
    elim (on_bool (eqb b 10)) [
      | inl h ↦ rw h (let i = scan_count k (line + 1) bs in omega (arith, i))
      | inr h ↦ elim (on_bool (is_space b)) [
        | inl g ↦ rw (h, g) (let i = scan_count k line bs in omega (arith, i))
        | inr g ↦ elim (on_bool (eqb b 35)) [
          | inl f ↦ rw (h, g, f) (let i = scan_count k line (drop (front_len (belongs class.InComment) (b ∷ bs)) (b ∷ bs)) in omega (arith, i))
          | inr f ↦ rw (h, g, f) (let i = scan_count k line (drop (word_at b (b ∷ bs)).1 (b ∷ bs)) in omega (arith, i))
        ]
      ]
    ]

-- a text's procedures have no more statements than it has bytes
pub text_bodies : (text : List ℕ) (s : Source) (n : ℕ) → length text ≤ n → InGrammar s (tokens_of text) → BodiesWithin n s
text_bodies text s n le g = bodies 16 256 s (tokens_of text) [] g n (omega (arith, scan_count (length text) 1 text))

pub definition_bodies : (room : Room) (text : List ℕ) (s : Source) (n : ℕ) → length text ≤ n → InDefinition room s (tokens_of text) → BodiesWithin n s
definition_bodies room text s n le g = procedures_bodies room s (tokens_of text) [] g.1 n (omega (arith, scan_count (length text) 1 text))

-- ---- lines

abbrev Counted : Words → Type 0
Counted [] = Unit {0}
Counted (t ∷ ts) = (0 < t.1) × Counted ts

scan_lines : (k line : ℕ) (bs : List ℕ) → 0 < line → Counted (scan k line bs)
unfolding scan
scan_lines zero line bs pos = tt
scan_lines (suc k) line [] pos = tt
scan_lines (suc k) line (b ∷ bs) pos =
    elim (on_bool (eqb b 10)) [
      | inl h ↦ rw h (scan_lines k (line + 1) bs (omega arith))
      | inr h ↦ elim (on_bool (is_space b)) [
        | inl g ↦ rw (h, g) (scan_lines k line bs pos)
        | inr g ↦ elim (on_bool (eqb b 35)) [
          | inl f ↦ rw (h, g, f) (scan_lines k line (drop (front_len (belongs class.InComment) (b ∷ bs)) (b ∷ bs)) pos)
          | inr f ↦ rw (h, g, f) (pos, scan_lines k line (drop (word_at b (b ∷ bs)).1 (b ∷ bs)) pos)
        ]
      ]
    ]

counted_tail : (front us : Words) → Counted (front ++ us) → Counted us
counted_tail [] us c = c
counted_tail (t ∷ front) us c = counted_tail front us c.1

line_counted : (text : List ℕ) (us : Words) → Counted us → 0 < line_at text us
line_counted text [] c = omega arith
line_counted text (t ∷ us) c = c.0

-- the line of a fault
pub fault_line_in : (G : Source → Words → Type 0) (text : List ℕ) (ts : Words) (n l : ℕ) → ts ≡ tokens_of text → length text ≤ longest_text → (us : Words) × FirstFaultIn G ts us × (drop (length ts - n) ts ≡ us) → l ≡ line_at text (drop (length ts - n) ts) → IsFaultLineIn G text l
fault_line_in G text ts n l e le s is =
    let c : Counted (s.1.front ++ s.0) = subst (λ (w : Words). Counted w) (sym e ∙ s.1.parts) (scan_lines (length text) 1 text (omega arith)) in
    let at : l ≡ line_at text s.0 = is ∙ ap (λ (w : Words). line_at text w) s.2 in
    let pos : 0 < l = subst (λ (k : ℕ). 0 < k) (sym at) (line_counted text s.0 (counted_tail s.1.front s.0 c)) in
    inr (s.0, le, subst (λ (w : Words). FirstFaultIn G w s.0) e s.1, at, pos)

pub fault_line_is : (text : List ℕ) (ts : Words) (n l : ℕ) → ts ≡ tokens_of text → length text ≤ longest_text → stuck_before (text_at ts) ≡ Some n → l ≡ line_at text (drop (length ts - n) ts) → IsFaultLineIn InGrammar text l
fault_line_is text ts n l e le stuck is = fault_line_in InGrammar text ts n l e le (text_stuck ts n stuck) is

pub definition_line_is : (room : Room) (text : List ℕ) (ts : Words) (n l : ℕ) → ts ≡ tokens_of text → length text ≤ longest_text → stuck_before (definition_at room ts) ≡ Some n → l ≡ line_at text (drop (length ts - n) ts) → IsFaultLineIn (InDefinition room) text l
definition_line_is room text ts n l e le stuck is = fault_line_in (InDefinition room) text ts n l e le (definition_stuck room ts n stuck) is
