-- What begins with `else`: no statement does.
use Rattle.std.proofs.Common.{◌≡◌, List, [], ◌∷◌, ◌++◌, map, length, drop, slice_index_or, slice_get, ◌<◌, ◌+◌, ◌-◌, zero, suc, add-one, drop-cons, length-drop, ◌≤◌, arith, Some, None, true, false, eqb, ℕ, ◌∙◌, refl, sym, ap}
use Rattle.std.proofs.lemmas.List.{append-nil, nil_from_length}
use Rattle.meaning.specs.declared.tree.Declaration.{Declaration}
use Rattle.meaning.specs.declared.tree.Way.TheVariants as way
use Rattle.meaning.specs.declared.tree.Statement.{Statement}
use Rattle.meaning.specs.declared.tree.Block.{Block}
use Rattle.meaning.specs.TreeView.{deed, statements, statements_of, block, decl}
use Rattle.meaning.specs.Tree.{Name, Deed, bind, enter, read, sync, update, choose, loop, give, Body, end, step, Decl, reducer, procedure, Tree}
use Rattle.token_scanner.specs.declared.token.Mark.TheVariants as mark
use Rattle.token_scanner.specs.Words.{Word, Sign}
use Rattle.token_spelling.specs.Spelling.{written, starts_else, PutsBlock}
use Rattle.program_printer.specs.Printing.{deed_words, body_words, is_end, memo_words, proc_words, decl_words, printed_words}

pub deed_first : (names : List Name) (d : Deed) (us : List Word) → starts_else (deed_words names d us) ≡ false
deed_first names (bind x e) us = refl
deed_first names (enter None way.Call f es) us = refl
deed_first names (enter None way.Spawn f es) us = refl
deed_first names (enter (Some x) w f es) us = refl
deed_first names (read x r) us = refl
deed_first names sync us = refl
deed_first names (update r es) us = refl
deed_first names (choose e b c) us = refl
deed_first names (loop x low high grain f es) us = refl
deed_first names (give e) us = refl

pub body_first : (names : List Name) (b : Body) (us : List Word) → starts_else us ≡ false → starts_else (body_words names b us) ≡ false
body_first names end us h = h
body_first names (step n d rest) us h = deed_first names d (body_words names rest us)

-- one more statement of some
pub statement_put : (names : List Name) (inner : ℕ → Body) (body : List Statement) (i : ℕ) (s : Statement) (old mid new : List ℕ) → i < length body → s ≡ slice_index_or body i s
    → ((us : List Word) → starts_else us ≡ false → old ++ written (body_words names (statements inner body) us) ≡ mid ++ written (body_words names (statements inner (drop i body)) us))
    → PutsBlock mid new (deed_words names (deed inner s.action))
    → (us : List Word) → starts_else us ≡ false → old ++ written (body_words names (statements inner body) us) ≡ new ++ written (body_words names (statements inner (drop (i + 1) body)) us)
statement_put names inner body i s old mid new lt e so_far put us h =
    let d : drop i body ≡ s ∷ drop (suc i) body = drop-cons body i s lt ∙ ap (λ (x : Statement). x ∷ drop (suc i) body) (sym e) in
    let f = body_first names (statements inner (drop (suc i) body)) us h in
    rw add-one (so_far us h ∙ rw d (put (body_words names (statements inner (drop (suc i) body)) us) f))

-- the block of a number, where blocks may nest
pub block_at : (blocks : List Block) (levels n : ℕ) → (levels ≡ zero → ⊥) → block blocks levels n ≡ statements_of (block blocks (levels - 1)) (slice_get blocks n)
block_at blocks zero n h = absurd (h refl)
block_at blocks (suc levels) n h = let k : suc levels - 1 ≡ levels = omega arith in rw k refl

pub no_statements : (inner : ℕ → Body) (ss : List Statement) → is_end (statements inner ss) ≡ eqb (length ss) 0
no_statements inner [] = refl
no_statements inner (s ∷ ss) = grind arith

-- ---- declarations

pub decl_first : (d : Decl) (us : List Word) → starts_else (decl_words d us) ≡ false
decl_first (reducer r) us = refl
decl_first (procedure p) us = elim p.memo as (λ m. starts_else (memo_words m (Sign mark.Proc ∷ proc_words p us)) ≡ false) [ true ↦ refl | false ↦ refl ]

pub printed_first : (t : Tree) → starts_else (printed_words t) ≡ false
printed_first [] = refl
printed_first (d ∷ ds) = decl_first d (printed_words ds)

-- one more declaration of a program
pub declaration_put : (all : List ℕ) (ds : List Declaration) (i : ℕ) (d : Declaration) (mid new : List ℕ) → i < length ds → d ≡ slice_index_or ds i d
    → all ≡ mid ++ written (printed_words (map decl (drop i ds))) → PutsBlock mid new (decl_words (decl d)) → all ≡ new ++ written (printed_words (map decl (drop (i + 1) ds)))
declaration_put all ds i d mid new lt e so_far put =
    let q : drop i ds ≡ d ∷ drop (suc i) ds = drop-cons ds i d lt ∙ ap (λ (x : Declaration). x ∷ drop (suc i) ds) (sym e) in
    rw add-one (so_far ∙ rw q (put (printed_words (map decl (drop (suc i) ds))) (printed_first (map decl (drop (suc i) ds)))))

pub all_put : (all : List ℕ) (ds : List Declaration) (i : ℕ) (new : List ℕ) → length ds ≤ i → all ≡ new ++ written (printed_words (map decl (drop i ds))) → new ≡ all
unfolding written
all_put all ds i new le so_far =
    let q : drop i ds ≡ [] = nil_from_length (drop i ds) (omega (arith, length-drop i ds)) in
    sym (so_far ∙ rw q (append-nil new))
