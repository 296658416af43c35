-- A layer of which one reducer after another is emptied.
use Rattle.std.specs.Prelude.{◌≡◌, ◌≢◌, ℕ, zero, suc, ◌<◌, ◌≤◌, ◌+◌, List, [], ◌∷◌, length, drop, All, Bool, true, false, ◌||◌, nat_eq, refl, Some}
use Rattle.std.specs.List.{list_any, slice_get, remove}
use Rattle.std.proofs.Common.{sym, ◌∙◌, ap, subst, arith, get_or, set, add-one}
use Rattle.std.proofs.lemmas.List.{get_or-set_other, get_or-set_same}
use Rattle.std.proofs.lemmas.List.Elements.{All-head, All-tail, All-nil}
use Rattle.std.proofs.lemmas.Grind.{common_steps}
use native.Mathlib.Decide.{dec_le}
use Prim.{yes, no}
use Rattle.monoid_laws.specs.Worth.{Worth}
use Rattle.monoid_laws.specs.Kinds.{identity_of, identities, AreWorths}
use Rattle.monoid_laws.specs.declared.Kind.{Kind}
use Rattle.monoid_laws.proofs.Laws.{identity_right}
use Rattle.monoid_laws.proofs.Rows.{AreWorths-set, cons_same}
use Rattle.hypermaps.specs.Layer.{IsLayer}

length-AreWorths : (cs : List Kind) (ws : List Worth) → AreWorths cs ws → length ws ≡ length cs
length-AreWorths [] [] a = refl
length-AreWorths [] (w ∷ ws) a = absurd a
length-AreWorths (c ∷ cs) [] a = absurd a
length-AreWorths (c ∷ cs) (w ∷ ws) a = ap suc (length-AreWorths cs ws (a.1))

same_kind_at : (cs : List Kind) (i : ℕ) (c d : Kind) → i < length cs → c ≡ get_or cs i c → d ≡ get_or cs i d → c ≡ d
same_kind_at [] i c d h e f = absurd (omega arith)
same_kind_at (k ∷ cs) zero c d h e f = (let p : c ≡ k = e in let q : d ≡ k = f in p ∙ sym q)
same_kind_at (k ∷ cs) (suc i) c d h e f = same_kind_at cs i c d (omega arith) e f

nat_eq_other : (j i : ℕ) → j ≢ i → nat_eq j i ≡ false
nat_eq_other j i h = grind (arith, common_steps)

either_way : {P : Type 0} (j i : ℕ) → (j ≡ i → P) → (j ≢ i → P) → P
either_way j i f g = elim (dec_le j i) [
  | yes h ↦ elim (dec_le i j) [ yes k ↦ f (omega arith) | no k ↦ g (λ e. k (omega arith)) ]
  | no h ↦ g (λ e. h (omega arith))
]

pub IsLayer-emptied : (cs : List Kind) (ws : List Worth) (used : List ℕ) (r : ℕ) (c : Kind) → IsLayer cs ws used → slice_get used 0 ≡ Some r
    → c ≡ get_or cs r c → IsLayer cs (set ws r (identity_of c)) (remove used 0)
IsLayer-emptied cs ws [] r c l e f = cc
IsLayer-emptied cs ws (u ∷ us) r c l e f =
    let same : u ≡ r = cc in
    let below : r < length cs = subst (λ n. n < length cs) same (All-head (λ n. n < length cs) u us l.below) in
    let size : length ws ≡ length cs = length-AreWorths cs ws l.right in
    let size' : r < length ws = omega arith in
    record {
      right = AreWorths-set cs ws r c (identity_of c) l.right f (identity_right c);
      shut = λ j d x g p q n. either_way j r
          (λ s. (let p' : d ≡ get_or cs r d = subst (λ m. d ≡ get_or cs m d) s p in
          let q' : x ≡ get_or (set ws r (identity_of c)) r x = subst (λ m. x ≡ get_or (set ws r (identity_of c)) m x) s q in
          q' ∙ get_or-set_same ws r (identity_of c) x size' ∙ ap identity_of (same_kind_at cs r c d below f p')))
          (λ s. l.shut j d x g p (q ∙ get_or-set_other ws r j (identity_of c) x s)
          (ap (λ b. b || list_any (nat_eq j) us) (nat_eq_other j u (λ t. s (t ∙ same))) ∙ n));
      below = All-tail (λ n. n < length cs) u us l.below;
    }

-- one reducer is at its identity again
pub IsLayer-back : (cs : List Kind) (ws : List Worth) (used : List ℕ) (r : ℕ) (c : Kind) → IsLayer cs ws used → r < length cs
    → c ≡ get_or cs r c → IsLayer cs (set ws r (identity_of c)) used
IsLayer-back cs ws used r c l below f =
    let size : length ws ≡ length cs = length-AreWorths cs ws l.right in
    let size' : r < length ws = omega arith in
    record {
      right = AreWorths-set cs ws r c (identity_of c) l.right f (identity_right c);
      shut = λ j d x g p q n. either_way j r
          (λ s. (let p' : d ≡ get_or cs r d = subst (λ m. d ≡ get_or cs m d) s p in
          let q' : x ≡ get_or (set ws r (identity_of c)) r x = subst (λ m. x ≡ get_or (set ws r (identity_of c)) m x) s q in
          q' ∙ get_or-set_same ws r (identity_of c) x size' ∙ ap identity_of (same_kind_at cs r c d below f p')))
          (λ s. l.shut j d x g p (q ∙ get_or-set_other ws r j (identity_of c) x s) n);
      below = l.below;
    }

pub IsLayer-none : (cs : List Kind) (ws : List Worth) → IsLayer cs ws [] → ws ≡ identities cs
IsLayer-none [] [] l = refl
IsLayer-none [] (w ∷ ws) l = absurd l.right
IsLayer-none (c ∷ cs) [] l = absurd l.right
IsLayer-none (c ∷ cs) (w ∷ ws) l =
    cons_same _ _ _ _ (l.shut 0 c w (omega arith) refl refl refl)
    (IsLayer-none cs ws (record {
      right = l.right.1;
      shut = λ i d x g p q n. l.shut (suc i) d x (omega arith) p q n;
      below = All-nil _;
    }))

-- the reducers that are left, with the first of them emptied
emptied_suc : (cs : List Kind) (ws : List Worth) (used : List ℕ) (i r : ℕ) (c : Kind) → IsLayer cs ws (drop i used) → i < length used → r ≡ get_or used i r
    → c ≡ get_or cs r c → IsLayer cs (set ws r (identity_of c)) (drop (suc i) used)
emptied_suc cs ws [] i r c l h e f = absurd (omega arith)
emptied_suc cs ws (u ∷ us) zero r c l h e f = IsLayer-emptied cs ws (u ∷ us) r c l (ap Some (sym e)) f
emptied_suc cs ws (u ∷ us) (suc i) r c l h e f = emptied_suc cs ws us i r c l (omega arith) e f

pub emptied_next : (cs : List Kind) (ws : List Worth) (used : List ℕ) (i r : ℕ) (c : Kind) → IsLayer cs ws (drop i used) → i < length used → r ≡ get_or used i r
    → c ≡ get_or cs r c → IsLayer cs (set ws r (identity_of c)) (drop (i + 1) used)
emptied_next cs ws used i r c l h e f = rw (add-one i) (emptied_suc cs ws used i r c l h e f)

pub same_read : (xs : List ℕ) (i d e : ℕ) → i < length xs → get_or xs i d ≡ get_or xs i e
same_read [] i d e h = absurd (omega arith)
same_read (x ∷ xs) zero d e h = refl
same_read (x ∷ xs) (suc i) d e h = same_read xs i d e (omega arith)

pub next_within : (cs : List Kind) (ws : List Worth) (used : List ℕ) (i r : ℕ) → IsLayer cs ws (drop i used) → i < length used → r ≡ get_or used i r → r < length cs
next_within cs ws [] i r l h e = absurd (omega arith)
next_within cs ws (u ∷ us) zero r l h e = subst (λ n. n < length cs) (sym e) (All-head (λ n. n < length cs) u us l.below)
next_within cs ws (u ∷ us) (suc i) r l h e = next_within cs ws us i r l (omega arith) e

or_right : (a b : Bool) → (a || b) ≡ false → b ≡ false
or_right true b h = cc
or_right false b h = h

none_dropped : (q : ℕ → Bool) (n : ℕ) (xs : List ℕ) → list_any q xs ≡ false → list_any q (drop n xs) ≡ false
none_dropped q zero xs h = h
none_dropped q (suc n) [] h = refl
none_dropped q (suc n) (x ∷ xs) h = none_dropped q n xs (or_right (q x) (list_any q xs) h)

-- where fewer are in use than noted
pub IsLayer-more : (cs : List Kind) (ws : List Worth) (used : List ℕ) (n : ℕ) → IsLayer cs ws (drop n used) → All (λ i. i < length cs) used → IsLayer cs ws used
IsLayer-more cs ws used n l below = record {
  right = l.right;
  shut = λ i c w h p q e. l.shut i c w h p q (none_dropped (nat_eq i) n used e);
  below = below;
}

all_dropped : (n : ℕ) (used : List ℕ) → length used ≤ n → drop n used ≡ []
all_dropped zero [] h = refl
all_dropped (suc n) [] h = refl
all_dropped zero (u ∷ us) h = absurd (omega arith)
all_dropped (suc n) (u ∷ us) h = all_dropped n us (omega arith)

pub IsLayer-over : (cs : List Kind) (ws : List Worth) (used : List ℕ) (n : ℕ) → IsLayer cs ws (drop n used) → length used ≤ n → IsLayer cs ws []
IsLayer-over cs ws used n l h = subst (IsLayer cs ws) (all_dropped n used h) l

pub exists_at : {X : Type 0} (xs : List X) (i : ℕ) → i < length xs → (x : X) × (x ≡ get_or xs i x)
exists_at [] i h = absurd (omega arith)
exists_at (y ∷ xs) zero h = (y, refl)
exists_at (y ∷ xs) (suc i) h = exists_at xs i (omega arith)
