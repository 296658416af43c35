-- A program of texts, with a text's procedures put in, is one of texts.
use Rattle.std.proofs.Common.{◌≡◌, ℕ, zero, suc, ◌≤◌, Bool, List, [], ◌∷◌, ◌++◌, length, None, refl, sym, subst, ap, arith, inl, inr}
use Rattle.meaning.specs.Tree.{Name, Tree}
use Rattle.meaning.specs.Tree as plain
use Rattle.meaning.specs.TreeView.{Lined}
use Rattle.token_scanner.specs.Words.{Over, Words}
use Rattle.token_scanner.specs.Words as word
use Rattle.token_scanner.specs.Scanning.{tokens_of, longest_text}
use Rattle.source_tree.specs.Source.{Decl, Reduces, Defines, Source, stmts_of}
use Rattle.source_tree.specs.Lowering.{Lowered, lowered_decl, lower_decl, lowered, lowered_tree, lower_proc, body_lines}
use Rattle.program_edits.specs.Putting.{is_in, last_place, spot_of, put_at, put_all}
use Rattle.procedure_parser.specs.Grammar.{ReducerForm, reduces, ProcedureForm, defines, Declarations, no_declaration, a_reducer, a_procedure, reducer_over, procedure_over}
use Rattle.token_readers.specs.Rooms.{Room, room_of, turns_of}
use Rattle.procedure_parser.specs.Defining.{Procedures, no_procedure, one_procedure, no_room, behind_name}
use Rattle.procedure_parser.specs.Correct.{IsSource, IsDefinition}
use Rattle.procedure_parser.specs.Defined.{IsDefined}
use Rattle.procedure_parser.proofs.DefiningLaw.{less_room}
use Rattle.program_printer.specs.Printing.{printed}
use Rattle.printing_theory.specs.Again.{IsOfText, IsIn, IsOfSome, AllOfSome, IsOfTexts, PrintsAgain, reducer_count, procedure_count}
use Rattle.printing_theory.proofs.Read.{AllRead, tokens_read}
use Rattle.printing_theory.proofs.Declarations.{procedure_prints, word_left}
use Rattle.printing_theory.proofs.Round.{collected_prints}
use Rattle.printing_theory.proofs.Putting.{some_put, put_grows}
use Rattle.printing_theory.proofs.Known.{Fits, fits_behind, names_apart, names_stand, names_few, names_count}

-- ---- a text's tree

-- a source tree within such limits
abbrev Within : ℕ → ℕ → Source → Type 0
Within r p s = (reducer_count (lowered s) ≤ r) × (procedure_count (lowered s) ≤ p)

reducer_within : (l r p : ℕ) (d : Decl) (s : Source) (ts us : Words) → ReducerForm l d ts us → Within r p s → Within (suc r) p (d ∷ s)
reducer_within l r p _ s _ _ (reduces x kind xs i j m ts us vs f g) w = (omega (arith, w.0), w.1)

procedure_within : (l r p : ℕ) (m : Bool) (d : Decl) (s : Source) (ts us : Words) → ProcedureForm l m d ts us → Within r p s → Within r (suc p) (d ∷ s)
procedure_within l r p m _ s _ _ (defines f xs ss k ts us vs q b) w = (w.0, omega (arith, w.1))

within : (r p : ℕ) (s : Source) (ts us : Words) → Declarations r p s ts us → Within r p s
within _ _ _ _ _ (no_declaration r p ts) = (omega arith, omega arith)
within _ _ _ _ _ (a_reducer r p l d s ts us vs f rest) = reducer_within l r p d s ts us f (within r p s us vs rest)
within _ _ _ _ _ (a_procedure r p l m d s ts us vs ws w f rest) = procedure_within l r p m d s us vs f (within r p s vs ws rest)
within _ _ _ _ _ (reducer_over p k l us) = (omega arith, omega arith)
within _ _ _ _ _ (procedure_over r k l m ts us w) = (omega arith, omega arith)

-- the declarations of a text
module _ (text : List ℕ) (all : Source) (is : IsSource all text) where
  each_of_some : (t : Tree) (s : Source) → ((d : Decl) → IsIn d s → IsIn d all) → lowered_tree t ≡ lowered s → AllOfSome t
  each_of_some [] s among e = tt
  each_of_some (d ∷ t) [] among e = absurd (cc)
  each_of_some (d ∷ t) (x ∷ s) among e =
      let q : lowered_decl d ≡ lower_decl x = (cc) in
      let r : lowered_tree t ≡ lowered s = (cc) in
      ((text, all, x, is, among x (inl refl), q), each_of_some t s (λ y i. among y (inr i)) r)

pub text_of_texts : (t : Tree) → IsOfText t → IsOfTexts t
text_of_texts t (text, (l, (s, i, e, g))) =
    let w = within 16 256 s (tokens_of text) [] i.1 in
    (each_of_some text s i t s (λ d j. j) e, subst (λ (z : List Lowered). reducer_count z ≤ 16) (sym e) w.0, subst (λ (z : List Lowered). procedure_count z ≤ 256) (sym e) w.1)

-- ---- a text that defines procedures is a text

declared : (room : Room) (s : Source) (ts us : Words) → AllRead ts → Procedures room s ts us → (n : ℕ) → turns_of room ≤ n → Declarations 16 n s ts us
declared _ _ _ _ h (no_procedure room ts) n le = no_declaration 16 n ts
declared _ _ _ _ h (one_procedure room after l k m f d ds ts us vs ws w e (behind_name xs ss _ zs _ p b) q) zero le = absurd (let lt = less_room room after f e in omega (arith, lt, le))
declared _ _ _ _ h (one_procedure room after l k m f d ds ts us vs ws w e (behind_name xs ss _ zs _ p b) q) (suc n) le =
    let form = defines f xs ss k us zs vs p b in
    let left = procedure_prints l m (Defines l m f xs ss) ((word.Name f, k) ∷ us) vs (word_left m l ts ((word.Name f, k) ∷ us) h w) form in
    let lt = less_room room after f e in
    a_procedure 16 n l m (Defines l m f xs ss) ds ts ((word.Name f, k) ∷ us) vs ws w form (declared after ds vs ws left.left q n (omega (arith, lt, le)))
declared _ _ _ _ h (no_room known k l m ts us w) n le = absurd (let i : AllRead ((Over, l) ∷ us) = word_left m k ts ((Over, l) ∷ us) h w in i.0)

-- each procedure is of some text
abbrev Defined : Source → Type 0
Defined [] = Unit {0}
Defined (Reduces l x k vs ∷ s) = Defined s
Defined (Defines l m f xs ss ∷ s) = IsOfSome (plain.procedure (lower_proc m f xs ss)) × Defined s

module _ (text : List ℕ) (all : Source) (is : IsSource all text) where
  each_defined : (s : Source) → ((d : Decl) → IsIn d s → IsIn d all) → Defined s
  each_defined [] among = tt
  each_defined (Reduces l x k vs ∷ s) among = each_defined s (λ y i. among y (inr i))
  each_defined (Defines l m f xs ss ∷ s) among = ((text, all, Defines l m f xs ss, is, among (Defines l m f xs ss) (inl refl), refl), each_defined s (λ y i. among y (inr i)))

definition_defined : (t : Tree) (s : Source) (text : List ℕ) → procedure_count (lowered_tree t) ≤ 256 → IsDefinition t s text → Defined s
definition_defined t s text le i =
    let turns : turns_of (room_of t) ≤ 256 = omega (arith, names_few t, names_count t, le) in
    each_defined text s (i.0, declared (room_of t) s (tokens_of text) [] (tokens_read text) i.1.1 256 turns) s (λ d j. j)

-- ---- a text's procedures put in

put_all_of_some : (s : Source) (seen : List Name) (t : Tree) (l : List Lined) → Defined s → AllOfSome t → AllOfSome (put_all seen s (t, l)).0
put_all_of_some [] seen t l d a = a
put_all_of_some (Reduces k x kind vs ∷ s) seen t l d a = put_all_of_some s seen t l d a
put_all_of_some (Defines k m f xs ss ∷ s) seen t l d a =
    let p = lower_proc m f xs ss in
    let spot = spot_of (is_in f seen) (last_place 0 None f t) in
    put_all_of_some s (seen ++ f ∷ []) (put_at spot (plain.procedure p) t) (put_at spot (record { line = k; statements = body_lines (stmts_of ss) }) l) d.1 (some_put spot t (plain.procedure p) d.0 a)

put_all_reducers : (s : Source) (seen : List Name) (t : Tree) (l : List Lined) → reducer_count (lowered_tree t) ≤ 16 → reducer_count (lowered_tree (put_all seen s (t, l)).0) ≤ 16
put_all_reducers [] seen t l h = h
put_all_reducers (Reduces k x kind vs ∷ s) seen t l h = put_all_reducers s seen t l h
put_all_reducers (Defines k m f xs ss ∷ s) seen t l h =
    let p = lower_proc m f xs ss in
    let spot = spot_of (is_in f seen) (last_place 0 None f t) in
    let g = put_grows spot t p in
    put_all_reducers s (seen ++ f ∷ []) (put_at spot (plain.procedure p) t) (put_at spot (record { line = k; statements = body_lines (stmts_of ss) }) l) (omega (arith, g.0, h))

put_all_procedures : (room : Room) (s : Source) (ts us : Words) → Procedures room s ts us → (seen : List Name) (t : Tree) (l : List Lined) → Fits room seen t → procedure_count (lowered_tree (put_all seen s (t, l)).0) ≤ 256
put_all_procedures _ _ _ _ (no_procedure room ts) seen t l fits = omega (arith, fits.few)
put_all_procedures _ _ _ _ (one_procedure room after i k m f d s ts us vs ws w e (behind_name xs ss _ zs _ p b) q) seen t l fits =
    let proc = lower_proc m f xs ss in
    let spot = spot_of (is_in f seen) (last_place 0 None f t) in
    put_all_procedures after s vs ws q (seen ++ f ∷ []) (put_at spot (plain.procedure proc) t) (put_at spot (record { line = i; statements = body_lines (stmts_of ss) }) l) (fits_behind room.0 room.1 after proc seen t e fits)
put_all_procedures _ _ _ _ (no_room known k i m ts us w) seen t l fits = omega (arith, fits.few)

pub defined_of_texts : (t : Tree) (l : List Lined) (text : List ℕ) (after : Tree × List Lined) → IsOfTexts t → IsDefined (t, l) text after → IsOfTexts after.0
defined_of_texts t l text after (a, r, p) (s, i, e) =
    let q : after.0 ≡ (put_all [] s (t, l)).0 = ap (λ (z : Tree × List Lined). z.0) e in
    let fits : Fits (room_of t) [] t = record { apart = names_apart t; stand = names_stand t; few = omega (arith, names_count t, p) } in
    let h = put_all_procedures (room_of t) s (tokens_of text) [] i.1.1 [] t l fits in
    (subst (λ (z : Tree). AllOfSome z) (sym q) (put_all_of_some s [] t l (definition_defined t s text p i) a), subst (λ (z : Tree). reducer_count (lowered_tree z) ≤ 16) (sym q) (put_all_reducers s [] t l r), subst (λ (z : Tree). procedure_count (lowered_tree z) ≤ 256) (sym q) h)

pub defined_prints : (t : Tree) (l : List Lined) (text : List ℕ) (after : Tree × List Lined) → IsOfTexts t → IsDefined (t, l) text after → length (printed after.0) ≤ longest_text → PrintsAgain after.0
defined_prints t l text after i d h = collected_prints after.0 (defined_of_texts t l text after i d) h
