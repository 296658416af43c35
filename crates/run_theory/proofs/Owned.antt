-- The layers of a strand are those of the instances that it entered.
use Rattle.std.proofs.Common.{◌+◌, ◌≤◌, ◌<◌, ℕ, suc, List, [], ◌∷◌, ◌++◌, length, length-append, ◌≡◌, refl, sym, ap, ◌∙◌, subst, arith, true, false, Bool}
use Rattle.meaning.specs.Tree.{Tree}
use Rattle.meaning.specs.Outcome.{Log, Accumulators, Place}
use Rattle.meaning.specs.Tables.{Tables}
use Rattle.meaning.specs.SmallStep.{Start, Layers, noting, opening_one, closing_one, Lookup, Continuation}
use Rattle.meaning.specs.Layers.{Notes, noted_top, closed_top, ahead_of_entry, layers_by, take_top}
use Rattle.meaning.specs.RestOfRun.{lowest}
use Rattle.meaning.specs.Schedules.{Piece, place_of}
use Rattle.trail_theory.specs.Order.{Every}
use Rattle.run_theory.specs.RightRuns.{flags_of, under_flags, deque_flags, count, Links, IsPushed, IsWhole}
use Rattle.run_theory.proofs.Flags.{Moves, same, called, recorded, entered, closes, leaves, stacked_long, child_long}

abbrev pub Counted : Layers → ℕ → ℕ → Type 0
Counted noting n n' = n' ≡ n
Counted opening_one n n' = n' ≡ suc n
Counted closing_one n n' = n ≡ suc n'

abbrev pub NotEmpty : List Bool → Type 0
NotEmpty [] = ⊥
NotEmpty (b ∷ bs) = Unit {0}

pub not_empty : (bs : List Bool) → 0 < length bs → NotEmpty bs
not_empty [] h = absurd (omega (arith, h))
not_empty (b ∷ bs) h = tt

pub record OwnAfter (l : Layers) (own bs X found : List Bool) : Type 0 where
  pub after : List Bool
  pub flags : bs ++ X ≡ after ++ found
  pub counted : Counted l (count own) (count after)

pub own_after : {kit : Bool} {R : Type 0} {l : Layers} {bs bs' : List Bool} (own X found : List Bool) → Moves kit R l bs bs' → (R → NotEmpty own) → bs ++ X ≡ own ++ found → OwnAfter l own bs' X found
own_after own X found same r e = record { after = own; flags = e; counted = refl }
own_after own X found called r e = record { after = false ∷ own; flags = ap (λ w. false ∷ w) e; counted = refl }
own_after own X found (recorded q) r e = record { after = true ∷ own; flags = ap (λ w. true ∷ w) e; counted = refl }
own_after [] X found (entered h q) r e = absurd (r h)
own_after (o ∷ os) X found (entered {bs = bs} h q) r e =
    let p : false ≡ o = cc in
    let z : bs ++ X ≡ os ++ found = cc in
    record { after = true ∷ os; flags = ap (λ w. true ∷ w) z; counted = ap suc (subst (λ w. count os ≡ count (w ∷ os)) p refl) }
own_after [] X found (closes h) r e = absurd (r h)
own_after (o ∷ os) X found (closes {bs = bs} h) r e =
    let p : true ≡ o = cc in
    let z : bs ++ X ≡ os ++ found = cc in
    record { after = false ∷ os; flags = ap (λ w. false ∷ w) z; counted = subst (λ w. count (w ∷ os) ≡ suc (count os)) p refl }
own_after [] X found (leaves h) r e = absurd (r h)
own_after (o ∷ os) X found (leaves {bs = bs} h) r e =
    let p : false ≡ o = cc in
    let z : bs ++ X ≡ os ++ found = cc in
    record { after = os; flags = z; counted = subst (λ w. count os ≡ count (w ∷ os)) p refl }

-- the topmost instance leaves
pub own_tail : (own X found : List Bool) (b : Bool) → NotEmpty own → b ≡ false → b ∷ X ≡ own ++ found → OwnAfter noting own [] X found
own_tail [] X found b n e f = absurd n
own_tail (o ∷ os) X found b n e f =
    let q : false ≡ o = cc in
    let z : X ≡ os ++ found = cc in
    record { after = os; flags = z; counted = subst (λ u. count os ≡ count (u ∷ os)) q refl }

-- ---- layers

pub noted_length : (ls : List Notes) (es : Log) → length (noted_top ls es) ≡ length ls
noted_length [] es = refl
noted_length (l ∷ ls) es = refl

pub take_length : (program : Tree) (k : Notes) (ls : List Notes) → length (take_top program k ls) ≡ length ls
take_length program k [] = refl
take_length program k (l ∷ ls) = refl

closed_length : (program : Tree) (ls : List Notes) (es : Log) (n n' : ℕ) → length ls ≡ suc n → n ≡ suc n' → length (closed_top program (noted_top ls es)) ≡ suc n'
closed_length program [] es n n' e c = omega (arith, e)
closed_length program (l ∷ []) es n n' e c = omega (arith, e)
closed_length program (l ∷ k ∷ ls) es n n' e c = let q : suc (suc (length ls)) ≡ suc n = e in omega arith

pub layers_length : (program : Tree) (l : Layers) (ls : List Notes) (es : Log) (n n' : ℕ) → length ls ≡ suc n → Counted l n n' → length (layers_by program l ls es) ≡ suc n'
layers_length program noting ls es n n' e c = noted_length ls es ∙ e ∙ ap suc (sym c)
layers_length program opening_one ls es n n' e c = ap suc (noted_length ls (ahead_of_entry es) ∙ e ∙ sym c)
layers_length program closing_one ls es n n' e c = closed_length program ls es n n' e c

-- ---- how many instances a strand has entered

module _ (program : Tree) (tables : Tables) (sight : Accumulators) (lookup : Lookup) where
  pub links_long : (m : Start) (n : Place) (ks : List Continuation) (e : Place) → Links n ks e → Every (IsPushed program tables sight lookup m) ks → length (deque_flags ks) + length e ≡ length n
  links_long m n [] e h q = let p : length n ≡ length e = ap length h in omega arith
  links_long m n (k ∷ ks) e h q =
      let a : length (flags_of k.parent.frame k.under ++ deque_flags ks) ≡ suc (length (under_flags k.under)) + length (deque_flags ks) = length-append (flags_of k.parent.frame k.under) (deque_flags ks) in
      let b : length (deque_flags ks) + length e ≡ length (lowest k.parent.frame k.under) = links_long m (lowest k.parent.frame k.under) ks e h.1 q.1 in
      let c : length (under_flags k.under) + length (lowest k.parent.frame k.under) ≡ length k.parent.frame.instance = stacked_long k.parent.frame k.under q.0.1.stacked in
      let d : length n ≡ suc (length k.parent.frame.instance) = ap length h.0 ∙ child_long k.parent.frame.instance k.child in
      omega arith

  pub whole_long : (p : Piece) (found later : List Bool) (e : Place) (h : IsWhole program tables sight lookup p found later e) → Every (IsPushed program tables sight lookup p.strand.start) p.deque → length later ≡ length e → length h.own + length found ≡ suc (length p.strand.frame.instance)
  whole_long p found later e h q l =
      let fs = flags_of p.strand.frame p.strand.under in
      let ds = deque_flags p.deque in
      let a : length (fs ++ ds) ≡ length fs + length ds = length-append fs ds in
      let b : length ((fs ++ ds) ++ later) ≡ length (fs ++ ds) + length later = length-append (fs ++ ds) later in
      let c : length ((fs ++ ds) ++ later) ≡ length (h.own ++ found) = ap length h.flags in
      let d : length (h.own ++ found) ≡ length h.own + length found = length-append h.own found in
      let f : length (under_flags p.strand.under) + length (lowest p.strand.frame p.strand.under) ≡ length p.strand.frame.instance = stacked_long p.strand.frame p.strand.under h.right.task.stacked in
      let g : length ds + length e ≡ length (lowest p.strand.frame p.strand.under) = links_long p.strand.start (lowest p.strand.frame p.strand.under) p.deque e h.links q in
      let i : length fs ≡ suc (length (under_flags p.strand.under)) = refl in
      omega arith

  -- an instance no higher than the place was entered by the strand
  pub owns_one : (p : Piece) (found later : List Bool) (e : Place) (h : IsWhole program tables sight lookup p found later e) → Every (IsPushed program tables sight lookup p.strand.start) p.deque → length later ≡ length e → length found ≡ length (place_of p) → length (place_of p) ≤ length p.strand.frame.instance → NotEmpty h.own
  owns_one p found later e h q l f r =
      let a : length h.own + length found ≡ suc (length p.strand.frame.instance) = whole_long p found later e h q l in
      not_empty h.own (omega (arith, f, r))
