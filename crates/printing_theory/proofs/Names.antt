-- A variable's number leads to its name again.
use Rattle.std.proofs.Common.{◌≡◌, ℕ, ℤ, pos, zero, suc, ◌+◌, Bool, true, false, List, [], ◌∷◌, ◌++◌, length, take, slice_get, Option, Some, None, refl, sym, ap, subst, ◌∙◌, append_assoc, inl, inr, ◌⊎◌}
use Rattle.std.specs.Prelude.{bytes_eq}
use Rattle.std.specs.Option.{option_map}
use Rattle.std.proofs.lemmas.List.{append-nil}
use Rattle.std.proofs.lemmas.Slice.Eq.{bytes_eq-Decides}
use Rattle.token_scanner.specs.declared.token.Mark.TheVariants as mark
use Rattle.token_scanner.specs.Words.{Word, Sign, Number, for_some}
use Rattle.token_scanner.specs.Words as word
use Rattle.meaning.specs.Tree.{Name, Term, number, name, cell, has, limit, sum, negate, binary, Deed, bind, enter, read, sync, update, choose, loop, give, Body, end, step, Proc, Tree}
use Rattle.meaning.specs.Tree as plain
use Rattle.monoid_laws.specs.declared.Kind.{Kind}
use Rattle.monoid_laws.specs.declared.Kind.TheVariants as k
use Rattle.source_tree.specs.Kinds.{WrittenKind, written}
use Rattle.source_tree.specs.Source.{Phrase, Num, Var, Cell, Has, Limit, Sum, Neg, Bin, Stmt, Binds, Enters, Reads, Syncs, Updates, Tests, Loops, Returns, Stmts, none, some, stmts_of, Decl, Reduces, Defines, Source}
use Rattle.source_tree.specs.Lowering.{found_index, numbered, lower_term, lower_terms, optional, Walk, lower_deed, lower_body, Lowered, lowered_decl, lowered_tree, lower_proc, lower_decl, lowered}
use Rattle.source_tree.specs.Lowering as l
use Rattle.program_printer.specs.Printing.{operator_mark, way_mark, names_words, memo_words, variable, term_words, more_terms, terms_words, bound_words, deed_words, body_words, else_words, kind_words, initial_words, decl_words, printed_words}
use Rattle.printing_theory.proofs.Said.{phrase_words, more_phrases, phrases_words, target_words, stmt_words, stmts_words, otherwise_words, written_words, decl_said, said}

-- a pool that goes on
pub Ext : List Name → List Name → Type 0
Ext a b = (more : List Name) × (b ≡ a ++ more)

ext_same : (a : List Name) → Ext a a
unfolding Ext
ext_same a = ([], sym (append-nil a))

ext_then : (a b c : List Name) → Ext a b → Ext b c → Ext a c
unfolding Ext
ext_then a b c (m, e) (n, f) = (m ++ n, f ∙ ap (λ (w : List Name). w ++ n) e ∙ append_assoc a m n)

-- the name of a number in a pool
pub Leads : List Name → ℕ → Name → Type 0
Leads a n x = slice_get a n ≡ Some x

on_bool : (b : Bool) → (b ≡ true) ⊎ (b ≡ false)
on_bool true = inl refl
on_bool false = inr refl

on_option : {A : Type 0} (o : Option A) → (o ≡ None) ⊎ ((x : A) × (o ≡ Some x))
on_option None = inl refl
on_option (Some x) = inr (x, refl)

last_leads : (a : List Name) (x : Name) → slice_get (a ++ x ∷ []) (length a) ≡ Some x
last_leads [] x = refl
last_leads (y ∷ a) x = last_leads a x

leads_on : (a more : List Name) (n : ℕ) (x : Name) → slice_get a n ≡ Some x → slice_get (a ++ more) n ≡ Some x
leads_on [] more n x h = absurd cc
leads_on (y ∷ a) more zero x h = h
leads_on (y ∷ a) more (suc n) x h = leads_on a more n x h

leads_ext : (a b : List Name) (n : ℕ) (x : Name) → Ext a b → Leads a n x → Leads b n x
unfolding Ext Leads
leads_ext a b n x (m, e) h = rw e (leads_on a m n x h)

variable_is : (a : List Name) (n : ℕ) (x : Name) → Leads a n x → variable a n ≡ x
unfolding Leads
variable_is a n x h = rw h refl

mapped : (o : Option ℕ) (n : ℕ) → option_map (λ n. suc n) o ≡ Some n → (m : ℕ) × (o ≡ Some m) × (n ≡ suc m)
mapped None n h = absurd cc
mapped (Some m) n h = let e : suc m ≡ n = cc in (m, refl, sym e)

place_leads : (a : List Name) (x : Name) (n : ℕ) → found_index x a ≡ Some n → slice_get a n ≡ Some x
place_leads [] x n h = absurd cc
place_leads (y ∷ a) x n h =
    elim (on_bool (bytes_eq x y)) [
      | inl t ↦ let g : Some 0 ≡ Some n = rw t at h in let e : n ≡ 0 = cc in rw e (ap Some (sym ((bytes_eq-Decides x y).0 t)))
      | inr f ↦ let g = rw f at h in let m = mapped (found_index x a) n g in rw m.2 (place_leads a x m.0 m.1)
    ]

pub number_leads : (a : List Name) (x : Name) → Ext a (numbered a x).0 × Leads (numbered a x).0 (numbered a x).1 x
unfolding Ext Leads
number_leads a x =
    elim (on_option (found_index x a)) [
      | inl e ↦ rw e (((x ∷ []), refl), last_leads a x)
      | inr (n, e) ↦ rw e (([], sym (append-nil a)), place_leads a x n e)
    ]

-- ---- expressions

term_says : (a : List Name) (e : Phrase) → Ext a (lower_term a e).0 × ((names : List Name) → Ext (lower_term a e).0 names → (us : List Word) → term_words names (lower_term a e).1 us ≡ phrase_words e us)
term_says a (Num n) = (ext_same a, λ names x us. refl)
term_says a (Var y) = let n = number_leads a y in (n.0, λ names x us. ap (λ (z : Name). word.Name z ∷ us) (variable_is names (numbered a y).1 y (leads_ext (numbered a y).0 names (numbered a y).1 y x n.1)))
term_says a (Cell t e c) = let s = term_says a e in (s.0, λ names x us. ap (λ (z : List Word). word.Name t ∷ Sign mark.OpenBracket ∷ z) (s.1 names x (Sign mark.CloseBracket ∷ Sign mark.Dot ∷ word.Name c ∷ us)))
term_says a (Has t e) = let s = term_says a e in (s.0, λ names x us. ap (λ (z : List Word). Sign mark.Has ∷ word.Name t ∷ Sign mark.OpenBracket ∷ z) (s.1 names x (Sign mark.CloseBracket ∷ us)))
term_says a (Limit t) = (ext_same a, λ names x us. refl)
term_says a (Sum t c) = (ext_same a, λ names x us. refl)
term_says a (Neg e) = let s = term_says a e in (s.0, λ names x us. ap (λ (z : List Word). Sign mark.OpenParen ∷ Sign mark.Minus ∷ z) (s.1 names x (Sign mark.CloseParen ∷ us)))
term_says a (Bin o e f) =
    let s = term_says a e in
    let t = term_says (lower_term a e).0 f in (
      ext_then a (lower_term a e).0 (lower_term (lower_term a e).0 f).0 s.0 t.0,
      λ names x us. ap (λ (z : List Word). Sign mark.OpenParen ∷ z)
          (s.1 names (ext_then (lower_term a e).0 (lower_term (lower_term a e).0 f).0 names t.0 x) (Sign (operator_mark o) ∷ term_words names (lower_term (lower_term a e).0 f).1 (Sign mark.CloseParen ∷ us))
          ∙ ap (λ (z : List Word). phrase_words e (Sign (operator_mark o) ∷ z)) (t.1 names x (Sign mark.CloseParen ∷ us))),
    )

AllSay : List Name → List Term → List Phrase → Type 0
AllSay names [] [] = Unit {0}
AllSay names (t ∷ ts) (e ∷ es) = ((us : List Word) → term_words names t us ≡ phrase_words e us) × AllSay names ts es
AllSay names ts es = ⊥

all_push : (names : List Name) (ts : List Term) (es : List Phrase) (t : Term) (e : Phrase) → AllSay names ts es → ((us : List Word) → term_words names t us ≡ phrase_words e us) → AllSay names (ts ++ t ∷ []) (es ++ e ∷ [])
unfolding AllSay
all_push names [] [] t e h s = (s, tt)
all_push names [] (f ∷ es) t e h s = absurd h
all_push names (u ∷ ts) [] t e h s = absurd h
all_push names (u ∷ ts) (f ∷ es) t e h s = (h.0, all_push names ts es t e h.1 s)

terms_say : (es : List Phrase) (done : List Name × List Term) → Ext done.0 (lower_terms done es).0
    × ((names : List Name) → Ext (lower_terms done es).0 names → (ds : List Phrase) → AllSay names done.1 ds → AllSay names (lower_terms done es).1 (ds ++ es))
terms_say [] done = (ext_same done.0, λ names x ds h. rw (append-nil ds) h)
terms_say (e ∷ es) done =
    let t = term_says done.0 e in
    let b = lower_term done.0 e in
    let next : List Name × List Term = (b.0, done.1 ++ b.1 ∷ []) in
    let r = terms_say es next in (
      ext_then done.0 b.0 (lower_terms next es).0 t.0 r.0,
      λ names x ds h.
          let q = r.1 names x (ds ++ e ∷ []) (all_push names done.1 ds b.1 e h (t.1 names (ext_then b.0 (lower_terms next es).0 names r.0 x))) in
          subst (λ (z : List Phrase). AllSay names (lower_terms next es).1 z) (append_assoc ds (e ∷ []) es) q,
    )

more_same : (names : List Name) (ts : List Term) (es : List Phrase) → AllSay names ts es → (us : List Word) → more_terms names ts us ≡ more_phrases es us
unfolding AllSay
more_same names [] [] h us = refl
more_same names [] (e ∷ es) h us = absurd h
more_same names (t ∷ ts) [] h us = absurd h
more_same names (t ∷ ts) (e ∷ es) h us = ap (λ (z : List Word). Sign mark.Comma ∷ z) (h.0 (more_terms names ts us) ∙ ap (λ (z : List Word). phrase_words e z) (more_same names ts es h.1 us))

terms_same : (names : List Name) (ts : List Term) (es : List Phrase) → AllSay names ts es → (us : List Word) → terms_words names ts us ≡ phrases_words es us
unfolding AllSay
terms_same names [] [] h us = refl
terms_same names [] (e ∷ es) h us = absurd h
terms_same names (t ∷ ts) [] h us = absurd h
terms_same names (t ∷ ts) (e ∷ es) h us = h.0 (more_terms names ts us) ∙ ap (λ (z : List Word). phrase_words e z) (more_same names ts es h.1 us)

none_say : (names : List Name) → AllSay names [] []
unfolding AllSay
none_say names = tt

-- the expressions of a statement
list_says : (a : List Name) (es : List Phrase) → Ext a (lower_terms (a, []) es).0 × ((names : List Name) → Ext (lower_terms (a, []) es).0 names → (us : List Word) → terms_words names (lower_terms (a, []) es).1 us ≡ phrases_words es us)
list_says a es = let r = terms_say es (a, []) in (r.0, λ names x us. terms_same names (lower_terms (a, []) es).1 es (r.1 names x [] (none_say names)) us)

optional_says : (a : List Name) (x : Option Name) → Ext a (optional a x).0 × ((names : List Name) → Ext (optional a x).0 names → (us : List Word) → bound_words names (optional a x).1 us ≡ target_words x us)
optional_says a None = (ext_same a, λ names x us. refl)
optional_says a (Some y) = let n = number_leads a y in (n.0, λ names x us. ap (λ (z : Name). word.Name z ∷ Sign mark.Assign ∷ us) (variable_is names (numbered a y).1 y (leads_ext (numbered a y).0 names (numbered a y).1 y x n.1)))

-- ---- statements

else_of : (w : Walk) (ss : Stmts) (names : List Name) → ((us : List Word) → body_words names (lower_body w ss).1 us ≡ stmts_words ss us) → (us : List Word) → else_words names (lower_body w ss).1 us ≡ otherwise_words ss us
else_of w none names h us = refl
else_of w (some s ss) names h us = ap (λ (z : List Word). Sign mark.Else ∷ Sign mark.OpenBrace ∷ z) (h (Sign mark.CloseBrace ∷ us))

mutual
  deed_says : (w : Walk) (s : Stmt) → Ext w.0 (lower_deed w s).0.0 × ((names : List Name) → Ext (lower_deed w s).0.0 names → (us : List Word) → deed_words names (lower_deed w s).1 us ≡ stmt_words s us)
  deed_says w (Binds l y e) =
      let n = number_leads w.0 y in
      let a = (numbered w.0 y).0 in
      let t = term_says a e in
      let b = (lower_term a e).0 in (
        ext_then w.0 a b n.0 t.0,
        λ names x us.
            ap (λ (z : Name). word.Name z ∷ Sign mark.Assign ∷ term_words names (lower_term a e).1 (Sign mark.Semicolon ∷ us)) (variable_is names (numbered w.0 y).1 y (leads_ext a names (numbered w.0 y).1 y (ext_then a b names t.0 x) n.1))
            ∙ ap (λ (z : List Word). word.Name y ∷ Sign mark.Assign ∷ z) (t.1 names x (Sign mark.Semicolon ∷ us)),
      )
  deed_says w (Enters l y h f es) =
      let n = optional_says w.0 y in
      let a = (optional w.0 y).0 in
      let r = list_says a es in
      let b = (lower_terms (a, []) es).0 in (
        ext_then w.0 a b n.0 r.0,
        λ names x us.
            n.1 names (ext_then a b names r.0 x) (Sign (way_mark h) ∷ word.Name f ∷ Sign mark.OpenParen ∷ terms_words names (lower_terms (a, []) es).1 (Sign mark.CloseParen ∷ Sign mark.Semicolon ∷ us))
            ∙ ap (λ (z : List Word). target_words y (Sign (way_mark h) ∷ word.Name f ∷ Sign mark.OpenParen ∷ z)) (r.1 names x (Sign mark.CloseParen ∷ Sign mark.Semicolon ∷ us)),
      )
  deed_says w (Reads l y r) =
      let n = number_leads w.0 y in
      (n.0, λ names x us. ap (λ (z : Name). word.Name z ∷ Sign mark.Assign ∷ Sign mark.Read ∷ word.Name r ∷ Sign mark.Semicolon ∷ us) (variable_is names (numbered w.0 y).1 y (leads_ext (numbered w.0 y).0 names (numbered w.0 y).1 y x n.1)))
  deed_says w (Syncs l) = (ext_same w.0, λ names x us. refl)
  deed_says w (Updates l r es) =
      let t = list_says w.0 es in
      (t.0, λ names x us. ap (λ (z : List Word). Sign mark.Update ∷ word.Name r ∷ z) (t.1 names x (Sign mark.Semicolon ∷ us)))
  deed_says w (Tests l e c d) =
      let t = term_says w.0 e in
      let a = (lower_term w.0 e).0 in
      let v : Walk = (a, w.1) in
      let f = body_says v c in
      let p = (lower_body v c).0 in
      let g = body_says p d in
      let q = (lower_body p d).0 in (
        ext_then w.0 a q.0 t.0 (ext_then a p.0 q.0 f.0 g.0),
        λ names x us.
            let xp = ext_then p.0 q.0 names g.0 x in
            let xa = ext_then a p.0 names f.0 xp in
            ap (λ (z : List Word). Sign mark.If ∷ z) (t.1 names xa (Sign mark.OpenBrace ∷ body_words names (lower_body v c).1 (Sign mark.CloseBrace ∷ else_words names (lower_body p d).1 us))
            ∙ ap (λ (z : List Word). phrase_words e (Sign mark.OpenBrace ∷ z)) (f.1 names xp (Sign mark.CloseBrace ∷ else_words names (lower_body p d).1 us)
            ∙ ap (λ (z : List Word). stmts_words c (Sign mark.CloseBrace ∷ z)) (else_of p d names (g.1 names x) us))),
      )
  deed_says w (Loops l y low high grain f es) =
      let n = number_leads w.0 y in
      let a = (numbered w.0 y).0 in
      let s = term_says a low in
      let b = (lower_term a low).0 in
      let t = term_says b high in
      let c = (lower_term b high).0 in
      let r = list_says c es in
      let d = (lower_terms (c, []) es).0 in (
        ext_then w.0 a d n.0 (ext_then a b d s.0 (ext_then b c d t.0 r.0)),
        λ names x us.
            let xc = ext_then c d names r.0 x in
            let xb = ext_then b c names t.0 xc in
            let xa = ext_then a b names s.0 xb in
            let tail : List Word = Sign mark.CloseParen ∷ Sign mark.Semicolon ∷ us in
            let behind : List Word → List Word = λ z. Sign mark.Grain ∷ Number (pos grain) ∷ Sign mark.Colon ∷ word.Name f ∷ Sign mark.OpenParen ∷ z in
            ap (λ (z : Name). Sign mark.CilkFor ∷ word.Name z ∷ Sign mark.In ∷ term_words names (lower_term a low).1 (Sign mark.Range ∷ term_words names (lower_term b high).1 (behind (terms_words names (lower_terms (c, []) es).1 tail))))
            (variable_is names (numbered w.0 y).1 y (leads_ext a names (numbered w.0 y).1 y xa n.1))
            ∙ ap (λ (z : List Word). Sign mark.CilkFor ∷ word.Name y ∷ Sign mark.In ∷ z)
            (s.1 names xb (Sign mark.Range ∷ term_words names (lower_term b high).1 (behind (terms_words names (lower_terms (c, []) es).1 tail)))
            ∙ ap (λ (z : List Word). phrase_words low (Sign mark.Range ∷ z)) (t.1 names xc (behind (terms_words names (lower_terms (c, []) es).1 tail))
            ∙ ap (λ (z : List Word). phrase_words high (behind z)) (r.1 names x tail))),
      )
  deed_says w (Returns l e) =
      let t = term_says w.0 e in
      (t.0, λ names x us. ap (λ (z : List Word). Sign mark.Return ∷ z) (t.1 names x (Sign mark.Semicolon ∷ us)))

  body_says : (w : Walk) (ss : Stmts) → Ext w.0 (lower_body w ss).0.0 × ((names : List Name) → Ext (lower_body w ss).0.0 names → (us : List Word) → body_words names (lower_body w ss).1 us ≡ stmts_words ss us)
  body_says w none = (ext_same w.0, λ names x us. refl)
  body_says w (some s ss) =
      let v : Walk = (w.0, w.1 + 1) in
      let d = deed_says v s in
      let p = (lower_deed v s).0 in
      let b = body_says p ss in
      let q = (lower_body p ss).0 in (
        ext_then w.0 p.0 q.0 d.0 b.0,
        λ names x us.
            d.1 names (ext_then p.0 q.0 names b.0 x) (body_words names (lower_body p ss).1 us) ∙ ap (λ (z : List Word). stmt_words s z) (b.1 names x us),
      )

-- ---- declarations

kind_said : (kind : Kind) (us : List Word) → kind_words kind us ≡ written_words (written kind) us
kind_said k.Add us = refl
kind_said (k.Table t) us = refl
kind_said kind us = refl

first_names : (a b : List Name) → Ext a b → take (length a) b ≡ a
unfolding Ext
first_names [] b (m, e) = refl
first_names (x ∷ a) b (m, e) = rw e (ap (λ (z : List Name). x ∷ z) (first_names a (a ++ m) (m, refl)))

reducer_parts : (x y : Name) (v w : WrittenKind) (ns ms : List ℤ) → l.reducer x v ns ≡ l.reducer y w ms → (x ≡ y) × (v ≡ w) × (ns ≡ ms)
reducer_parts x y v w ns ms h = (cc, cc, cc)

procedure_part : (p q : Proc) → l.procedure p ≡ l.procedure q → p ≡ q
procedure_part p q h = cc

decl_says : (d : plain.Decl) (e : Decl) → lowered_decl d ≡ lower_decl e → (us : List Word) → decl_words d us ≡ decl_said e us
decl_says (plain.reducer r) (Reduces i x kind vs) h us =
    let q = reducer_parts r.called x (written r.kind) kind r.initial vs h in
    let behind = initial_words r.initial (Sign mark.Semicolon ∷ us) in
    ap (λ (z : Name). Sign mark.Reducer ∷ word.Name z ∷ Sign mark.Colon ∷ kind_words r.kind behind) q.0
    ∙ ap (λ (z : List Word). Sign mark.Reducer ∷ word.Name x ∷ Sign mark.Colon ∷ z) (kind_said r.kind behind ∙ ap (λ (z : WrittenKind). written_words z behind) q.1 ∙ ap (λ (z : List ℤ). written_words kind (initial_words z (Sign mark.Semicolon ∷ us))) q.2)
decl_says (plain.reducer r) (Defines i m f xs ss) h us = absurd cc
decl_says (plain.procedure p) (Reduces i x kind vs) h us = absurd cc
decl_says (plain.procedure p) (Defines i m f xs ss) h us =
    let q = procedure_part p (lower_proc m f xs ss) h in
    let b = body_says (xs, 0) (stmts_of ss) in
    let names = (lower_body (xs, 0) (stmts_of ss)).0.0 in
    ap (λ (z : Proc). decl_words (plain.procedure z) us) q
    ∙ ap (λ (z : List Word). memo_words m (Sign mark.Proc ∷ word.Name f ∷ Sign mark.OpenParen ∷ z))
    (ap (λ (z : List Name). names_words z (Sign mark.CloseParen ∷ Sign mark.OpenBrace ∷ body_words names (lower_body (xs, 0) (stmts_of ss)).1 (Sign mark.CloseBrace ∷ us))) (first_names xs names b.0)
    ∙ ap (λ (z : List Word). names_words xs (Sign mark.CloseParen ∷ Sign mark.OpenBrace ∷ z)) (b.1 names (ext_same names) (Sign mark.CloseBrace ∷ us)))

-- the tokens of a printed tree are those of each source tree of it
pub said_of : (t : Tree) (s : Source) → lowered_tree t ≡ lowered s → printed_words t ≡ said s
said_of [] [] h = refl
said_of [] (e ∷ s) h = absurd cc
said_of (d ∷ t) [] h = absurd cc
said_of (d ∷ t) (e ∷ s) h =
    let p : lowered_decl d ≡ lower_decl e = cc in
    let q : lowered_tree t ≡ lowered s = cc in
    decl_says d e p (printed_words t) ∙ ap (λ (z : List Word). decl_said e z) (said_of t s q)
