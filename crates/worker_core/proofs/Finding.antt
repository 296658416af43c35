-- The strand that a worker holds, by its number.
use Rattle.std.proofs.Common.{arith, ◌≡◌, ℕ, suc, ◌+◌, ◌<◌, Bool, true, false, cond, not, ◌&&◌, List, [], ◌∷◌, ◌++◌, length, take, drop, get_or, Option, Some, None, Result, Ok, Err, refl, sym, ap, subst, ◌∙◌, append-nil, append_assoc}
use Rattle.std.proofs.lemmas.List.{set_split}
use Rattle.std.specs.Prelude.{slice_set as set, OnOk, IfErr}
use Rattle.std.specs.Option.{is_some}
use Rattle.meaning.specs.Strands.{BookStep}
use Rattle.stepped_runs.specs.Pieces.{PlainPiece, Change, alone, is_held_by}
use Rattle.stepped_runs.specs.Runs.{among, changed, is_idle}
use Rattle.numbered_runs.specs.declared.refusal.Refusal.{Refusal}
use Rattle.worker_core.specs.Moves.{RefusedAs}
use Rattle.worker_core.specs.Strands.{held_from, held_at}

-- the first strand that the worker holds, of those from the k-th on, and what a change on it is
pub record Found (w k i : ℕ) (ps : List PlainPiece) : Type 0 where
  pub place : ℕ
  pub is : i ≡ k + place
  pub within : place < length ps
  pub changes : (f : Refusal) (change : PlainPiece → Result Change Refusal) (before : List PlainPiece) (h : List BookStep) (d : PlainPiece)
      → changed f w change before ps h ≡ among (before ++ take place ps) (drop (suc place) ps) h (change (get_or ps place d))
  pub busy : is_idle w ps ≡ false

found_here : (w k i : ℕ) (p : PlainPiece) (ps : List PlainPiece) → is_held_by w p ≡ true → k ≡ i → Found w k i (p ∷ ps)
found_here w k i p ps h e = record {
  place = 0;
  is = (omega arith);
  within = (omega arith);
  changes = λ f change before hs d. ap (λ b. cond b (among before ps hs (change p)) (changed f w change (before ++ p ∷ []) ps hs)) h ∙ ap (λ bs. among bs ps hs (change p)) (sym (append-nil before));
  busy = ap (λ b. not b && is_idle w ps) h;
}

left_false : (b : Bool) → (b && false) ≡ false
left_false true = refl
left_false false = refl

found_later : (w k i : ℕ) (p : PlainPiece) (ps : List PlainPiece) → is_held_by w p ≡ false → Found w (suc k) i ps → Found w k i (p ∷ ps)
found_later w k i p ps h r = let e : i ≡ suc k + r.place = r.is in let less : r.place < length ps = r.within in record {
  place = suc r.place;
  is = (omega arith);
  within = (omega arith);
  changes = λ f change before hs d. ap (λ b. cond b (among before ps hs (change p)) (changed f w change (before ++ p ∷ []) ps hs)) h
      ∙ r.changes f change (before ++ p ∷ []) hs d ∙ ap (λ bs. among bs (drop (suc r.place) ps) hs (change (get_or ps r.place d))) (append_assoc before (p ∷ []) (take r.place ps));
  busy = ap (λ b. not (is_held_by w p) && b) r.busy ∙ left_false (not (is_held_by w p));
}

found_by : (w k i : ℕ) (p : PlainPiece) (ps : List PlainPiece) (b : Bool) → is_held_by w p ≡ b → (held_from w (suc k) ps ≡ Some i → Found w (suc k) i ps) → cond b (Some k) (held_from w (suc k) ps) ≡ Some i → Found w k i (p ∷ ps)
found_by w k i p ps true h later e = let q : k ≡ i = cc in found_here w k i p ps h q
found_by w k i p ps false h later e = found_later w k i p ps h (later e)

found : (w k i : ℕ) (ps : List PlainPiece) → held_from w k ps ≡ Some i → Found w k i ps
found w k i [] e = absurd cc
found w k i (p ∷ ps) e = found_by w k i p ps (is_held_by w p) refl (found w (suc k) i ps) e

place_is : (w i : ℕ) (ps : List PlainPiece) (r : Found w 0 i ps) → r.place ≡ i
place_is w i ps r = let e : i ≡ 0 + r.place = r.is in omega arith

pub held_within : (w i : ℕ) (ps : List PlainPiece) → held_at w ps ≡ Some i → i < length ps
held_within w i ps e = let r : Found w 0 i ps = found w 0 i ps e in subst (λ j. j < length ps) (place_is w i ps r) r.within

-- a change by a worker is that of its strand
pub held_changes : (w i : ℕ) (ps : List PlainPiece) (f : Refusal) (change : PlainPiece → Result Change Refusal) (h : List BookStep) (d : PlainPiece) → held_at w ps ≡ Some i
    → changed f w change [] ps h ≡ among (take i ps) (drop (suc i) ps) h (change (get_or ps i d))
held_changes w i ps f change h d e =
    let r : Found w 0 i ps = found w 0 i ps e in
    subst (λ j. changed f w change [] ps h ≡ among (take j ps) (drop (suc j) ps) h (change (get_or ps j d))) (place_is w i ps r) (r.changes f change [] h d)

pub held_busy : (w i : ℕ) (ps : List PlainPiece) → held_at w ps ≡ Some i → is_idle w ps ≡ false
held_busy w i ps e = let r : Found w 0 i ps = found w 0 i ps e in r.busy

none_by : (w k : ℕ) (p : PlainPiece) (ps : List PlainPiece) (b : Bool) → is_held_by w p ≡ b → cond b (Some k) (held_from w (suc k) ps) ≡ None → (is_held_by w p ≡ false) × (held_from w (suc k) ps ≡ None)
none_by w k p ps true h e = absurd cc
none_by w k p ps false h e = (h, e)

none_changes_from : (w k : ℕ) (ps before : List PlainPiece) (f : Refusal) (change : PlainPiece → Result Change Refusal) (h : List BookStep) → held_from w k ps ≡ None → changed f w change before ps h ≡ Err f
none_changes_from w k [] before f change h e = refl
none_changes_from w k (p ∷ ps) before f change h e =
    let both = none_by w k p ps (is_held_by w p) refl e in
    ap (λ b. cond b (among before ps h (change p)) (changed f w change (before ++ p ∷ []) ps h)) both.0 ∙ none_changes_from w (suc k) ps (before ++ p ∷ []) f change h both.1

pub none_changes : (w : ℕ) (ps : List PlainPiece) (f : Refusal) (change : PlainPiece → Result Change Refusal) (h : List BookStep) → held_at w ps ≡ None → changed f w change [] ps h ≡ Err f
none_changes w ps f change h e = none_changes_from w 0 ps [] f change h e

none_idle_from : (w k : ℕ) (ps : List PlainPiece) → held_from w k ps ≡ None → is_idle w ps ≡ true
none_idle_from w k [] e = refl
none_idle_from w k (p ∷ ps) e =
    let both = none_by w k p ps (is_held_by w p) refl e in
    ap (λ b. not b && is_idle w ps) both.0 ∙ none_idle_from w (suc k) ps both.1

pub none_idle : (w : ℕ) (ps : List PlainPiece) → held_at w ps ≡ None → is_idle w ps ≡ true
none_idle w ps e = none_idle_from w 0 ps e

pub none_held : (o : Option ℕ) → is_some o ≡ false → o ≡ None
none_held None h = refl
none_held (Some i) h = absurd cc

-- ---- a change that leaves one strand in its place

pub alone_taken : (w i kits : ℕ) (ps : List PlainPiece) (f : Refusal) (change : PlainPiece → Result Change Refusal) (h : List BookStep) (d q : PlainPiece) → held_at w ps ≡ Some i → change (get_or ps i d) ≡ alone kits q
    → changed f w change [] ps h ≡ Ok (record { pieces = set ps i q; kits = kits; history = h })
alone_taken w i kits ps f change h d q e c =
    held_changes w i ps f change h d e ∙ ap (among (take i ps) (drop (suc i) ps) h) c
    ∙ ap (λ hs. Ok (record { pieces = take i ps ++ q ∷ drop (suc i) ps; kits = kits; history = hs })) (append-nil h)
    ∙ ap (λ xs. Ok (record { pieces = xs; kits = kits; history = h })) (sym (set_split ps i q (held_within w i ps e)))

among_refused : (lacks : Bool) (before later : List PlainPiece) (h : List BookStep) (r : Result Change Refusal) (e : Refusal) → RefusedAs lacks r e → RefusedAs lacks (among before later h r) e
among_refused lacks before later h (Err f) e t = t
among_refused true before later h (Ok c) e t = t
among_refused false before later h (Ok c) e t = t

pub held_refused : (lacks : Bool) (w i : ℕ) (ps : List PlainPiece) (f : Refusal) (change : PlainPiece → Result Change Refusal) (h : List BookStep) (d : PlainPiece) (e : Refusal) → held_at w ps ≡ Some i
    → RefusedAs lacks (change (get_or ps i d)) e → RefusedAs lacks (changed f w change [] ps h) e
held_refused lacks w i ps f change h d e found t =
    subst (λ r. RefusedAs lacks r e) (sym (held_changes w i ps f change h d found)) (among_refused lacks (take i ps) (drop (suc i) ps) h (change (get_or ps i d)) e t)

pub none_refused : (lacks : Bool) (w : ℕ) (ps : List PlainPiece) (f : Refusal) (change : PlainPiece → Result Change Refusal) (h : List BookStep) → held_at w ps ≡ None → RefusedAs lacks (changed f w change [] ps h) f
none_refused lacks w ps f change h e = subst (λ r. RefusedAs lacks r f) (sym (none_changes w ps f change h e)) (let same : f ≡ f = refl in same)

-- ---- what a worker does with its strand

module _ {A : Type 0} (r : Result A Refusal) (w i : ℕ) (ps : List PlainPiece) (change : ℕ → PlainPiece → Result Change Refusal) (p q : PlainPiece) (found : held_at w ps ≡ Some i) (at : p ≡ get_or ps i p) where
  pub moves_taken : (f : Refusal) (kits left : ℕ) (h : List BookStep) → OnOk r (change kits p ≡ alone left q) → OnOk r (changed f w (change kits) [] ps h ≡ Ok (record { pieces = set ps i q; kits = left; history = h }))
  moves_taken = taken_by r
    where
      taken_by : (o : Result A Refusal) (f : Refusal) (kits left : ℕ) (h : List BookStep) → OnOk o (change kits p ≡ alone left q) → OnOk o (changed f w (change kits) [] ps h ≡ Ok (record { pieces = set ps i q; kits = left; history = h }))
      taken_by (Ok a) f kits left h t = alone_taken w i left ps f (change kits) h p q found (ap (change kits) (sym at) ∙ t)
      taken_by (Err e) f kits left h t = tt

  pub moves_refused : (lacks : Bool) (f : Refusal) (kits : ℕ) (h : List BookStep) → IfErr r (RefusedAs lacks (change kits p)) → IfErr r (RefusedAs lacks (changed f w (change kits) [] ps h))
  moves_refused = refused_by r
    where
      refused_by : (o : Result A Refusal) (lacks : Bool) (f : Refusal) (kits : ℕ) (h : List BookStep) → IfErr o (RefusedAs lacks (change kits p)) → IfErr o (RefusedAs lacks (changed f w (change kits) [] ps h))
      refused_by (Ok a) lacks f kits h t = tt
      refused_by (Err e) lacks f kits h t = held_refused lacks w i ps f (change kits) h p e found (subst (λ x. RefusedAs lacks (change kits x) e) at t)
