-- A text has one first fault, and none where it is of the grammar.
use Rattle.std.proofs.Common.{◌≡◌, ℕ, suc, ◌-◌, cond, [], ◌∷◌, ◌++◌, length, drop, ◌⊎◌, inl, inr, Result, Ok, Err, refl, sym, ap, subst, ◌∙◌, arith, append_assoc}
use Rattle.std.proofs.lemmas.List.{append-nil}
use Rattle.token_scanner.specs.Words.{Word, Words, ended}
use Rattle.source_tree.specs.Source.{Source}
use Rattle.token_readers.specs.Reading.{◌>>=◌, Read, stuck_before}
use Rattle.token_readers.specs.Rooms.{Room}
use Rattle.procedure_parser.specs.Defining.{Defining, defining_at, definition_at}
use Rattle.procedure_parser.specs.Correct.{BeginsIn, NoneFollowsIn, FirstFaultIn, InDefinition}
use Rattle.procedure_parser.proofs.Law.{Reply}
use Rattle.procedure_parser.proofs.DefiningLaw.{defining_law}
use Rattle.procedure_parser.proofs.Whole.{length_both, definition_found, definition_stuck}

-- ---- one fault

-- these begin with those, and with the first token behind them
abbrev IsBefore : Words → Words → Words → Type 0
IsBefore front us more = (t : Word × ℕ) × (m r : Words) × (more ≡ front ++ t ∷ m) × (us ≡ t ∷ r)

-- of two beginnings of one list one is the other, or goes on
two_fronts : (a b us vs : Words) → a ++ us ≡ b ++ vs → (us ≡ vs) ⊎ (IsBefore a us b ⊎ IsBefore b vs a)
two_fronts [] [] us vs e = inl e
two_fronts [] (t ∷ b) us vs e = inr (inl (t, b, b ++ vs, refl, e))
two_fronts (t ∷ a) [] us vs e = inr (inr (t, a, a ++ us, refl, sym e))
two_fronts (t ∷ a) (u ∷ b) us vs e =
    let first : t ≡ u = cc in
    let rest : a ++ us ≡ b ++ vs = cc in
    elim (two_fronts a b us vs rest) [
      | inl h ↦ inl h
      | inr (inl (w, m, r, p, q)) ↦ inr (inl (w, m, r, cc, q))
      | inr (inr (w, m, r, p, q)) ↦ inr (inr (w, m, r, cc, q))
    ]

module _ (G : Source → Words → Type 0) where
  not_before : (a us b : Words) → IsBefore a us b → NoneFollowsIn G a us → BeginsIn G b → ⊥
  not_before a us b (t, m, r, p, q) none (more, s, g) =
      let is : b ++ more ≡ (a ++ t ∷ []) ++ (m ++ more) = ap (λ (w : Words). w ++ more) p ∙ append_assoc a (t ∷ m) more ∙ sym (append_assoc a (t ∷ []) (m ++ more)) in
      (subst (λ (w : Words). NoneFollowsIn G a w) q none) (m ++ more, s, subst (λ (w : Words). G s w) is g)

  pub one_fault : (ts us vs : Words) → FirstFaultIn G ts us → FirstFaultIn G ts vs → us ≡ vs
  one_fault ts us vs f g =
      elim (two_fronts f.front g.front us vs (sym f.parts ∙ g.parts)) [
        | inl h ↦ h
        | inr (inl h) ↦ absurd (not_before f.front us g.front h f.none g.begins)
        | inr (inr h) ↦ absurd (not_before g.front vs f.front h g.none f.begins)
      ]

  none_there : (s : Source) (ts front us : Words) → G s ts → ts ≡ front ++ us → NoneFollowsIn G front us → ⊥
  none_there s ts front [] g is none = none s (subst (λ (w : Words). G s w) (is ∙ append-nil front) g)
  none_there s ts front (t ∷ us) g is none = none (us, s, subst (λ (w : Words). G s w) (is ∙ sym (append_assoc front (t ∷ []) us)) g)

  pub no_fault : (s : Source) (ts us : Words) → G s ts → FirstFaultIn G ts us → ⊥
  no_fault s ts us g f = none_there s ts f.front us g f.parts f.none

-- ---- where the reader stops

abbrev whole : Read Source → Result Source Words
whole y = y >>= λ ds. cond (ended ds.1) (Ok ds.0) (Err ds.1)

-- it stops at an end of the text
stops : (room : Room) (ts us : Words) (y : Read Source) → Reply (defining_at room) (Defining room) ts y → whole y ≡ Err us → (front : Words) × (ts ≡ front ++ us)
stops room ts us (Ok (s, [])) r e = absurd cc
stops room ts us (Ok (s, t ∷ vs)) r e = let same : t ∷ vs ≡ us = cc in (r.front.pre, subst (λ (w : Words). ts ≡ r.front.pre ++ w) same (r.is ∙ r.front.is (t ∷ vs)))
stops room ts us (Err vs) r e = let same : vs ≡ us = cc in (r.front.pre, subst (λ (w : Words). ts ≡ r.front.pre ++ w) same (r.is ∙ r.front.is vs))

tail_of : (front us : Words) → drop (length (front ++ us) - length us) (front ++ us) ≡ us
tail_of [] us = let e : length us - length us ≡ 0 = omega arith in rw e refl
tail_of (t ∷ front) us =
    let n = length_both front us in
    let e : suc (length (front ++ us)) - length us ≡ suc (length (front ++ us) - length us) = omega (arith, n) in
    rw e (tail_of front us)

module _ (room : Room) where
  pub stopped_at : (ts us : Words) → definition_at room ts ≡ Err us → drop (length ts - length us) ts ≡ us
  unfolding definition_at
  stopped_at ts us e =
      let s = stops room ts us (defining_at room ts) (defining_law room ts) e in
      subst (λ (w : Words). drop (length w - length us) w ≡ us) (sym s.1) (tail_of s.0 us)

  definition_fault : (ts us : Words) → definition_at room ts ≡ Err us → FirstFaultIn (InDefinition room) ts us
  definition_fault ts us e =
      let s = definition_stuck room ts (length us) (ap (λ (y : Result Source Words). stuck_before y) e) in
      let same : s.0 ≡ us = sym s.2 ∙ stopped_at ts us e in
      subst (λ (w : Words). FirstFaultIn (InDefinition room) ts w) same s.1

  stopped_by : (ts us : Words) (y : Result Source Words) → definition_at room ts ≡ y → FirstFaultIn (InDefinition room) ts us → y ≡ Err us
  stopped_by ts us (Ok s) e f = absurd (no_fault (InDefinition room) s ts us (definition_found room ts s e) f)
  stopped_by ts us (Err vs) e f = ap (λ (w : Words). Err w) (one_fault (InDefinition room) ts vs us (definition_fault ts vs e) f)

  -- it stops at the first fault
  pub stops_at_fault : (ts us : Words) → FirstFaultIn (InDefinition room) ts us → definition_at room ts ≡ Err us
  stops_at_fault ts us f = stopped_by ts us (definition_at room ts) refl f
