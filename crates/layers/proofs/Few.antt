-- What one reducer or two have for a record.
use Rattle.std.proofs.Common.{◌≡◌, ℕ, List, [], ◌∷◌, ◌++◌, length, map, ap, ◌∙◌, sym, arith, get_or}
use Rattle.std.proofs.lemmas.List.{map-append}
use Rattle.monoid_laws.specs.Worth.{Worth}
use Rattle.monoid_laws.specs.Kinds.{AreWorths}
use Rattle.monoid_laws.specs.declared.Kind.{Kind}
use Rattle.record_theory.proofs.Absorbed.{each}
use Rattle.record_theory.specs.Record.{touched}
use Rattle.instance_records.specs.declared.gift.Gift.{Gift}
use Rattle.instance_records.specs.Gifts.{given_by}
use Rattle.positions.specs.Tallies.{touched_from, touched_at}
use Rattle.layers.proofs.Touches.{touched_step}

same_touched : (i : ℕ) (k l : Kind) (v w : Worth) → k ≡ l → v ≡ w → touched_at i k v ≡ touched_at i l w
same_touched i k l v w e f = ap (λ x. touched_at i x v) e ∙ ap (touched_at i l) f

pub one_touched : (ks : List Kind) (ws : List Worth) (k : Kind) (w : Worth) → length ks ≡ 1 → length ks ≡ length ws → k ≡ get_or ks 0 k → w ≡ get_or ws 0 w
    → touched_at 0 k w ≡ touched_from 0 ks ws
one_touched [] ws k w n l e f = absurd (omega (arith, n))
one_touched (x ∷ y ∷ ks) ws k w n l e f = absurd (omega (arith, n))
one_touched (x ∷ []) [] k w n l e f = absurd (omega (arith, l))
one_touched (x ∷ []) (u ∷ v ∷ ws) k w n l e f = absurd (omega (arith, l))
one_touched (x ∷ []) (u ∷ []) k w n l e f = same_touched 0 k x w u e f

pub two_touched : (ks : List Kind) (ws : List Worth) (j k : Kind) (v w : Worth) → length ks ≡ 2 → length ks ≡ length ws
    → j ≡ get_or ks 0 j → k ≡ get_or ks 1 k → v ≡ get_or ws 0 v → w ≡ get_or ws 1 w → touched_at 0 j v ++ touched_at 1 k w ≡ touched_from 0 ks ws
two_touched [] ws j k v w n l e f g h = absurd (omega (arith, n))
two_touched (x ∷ []) ws j k v w n l e f g h = absurd (omega (arith, n))
two_touched (x ∷ y ∷ z ∷ ks) ws j k v w n l e f g h = absurd (omega (arith, n))
two_touched (x ∷ y ∷ []) [] j k v w n l e f g h = absurd (omega (arith, l))
two_touched (x ∷ y ∷ []) (a ∷ []) j k v w n l e f g h = absurd (omega (arith, l))
two_touched (x ∷ y ∷ []) (a ∷ b ∷ c ∷ ws) j k v w n l e f g h = absurd (omega (arith, l))
two_touched (x ∷ y ∷ []) (a ∷ b ∷ []) j k v w n l e f g h =
    ap (λ es. es ++ touched_at 1 k w) (same_touched 0 j x v a e g) ∙ ap (λ es. touched_at 0 x a ++ es) (same_touched 1 k y w b f h)
    ∙ sym (touched_step 0 x (y ∷ []) a (b ∷ []))

-- the values of two reducers are these
two_items : (ws : List Worth) (v w : Worth) → length ws ≡ 2 → v ≡ get_or ws 0 v → w ≡ get_or ws 1 w → ws ≡ v ∷ w ∷ []
two_items [] v w n e f = absurd (omega (arith, n))
two_items (x ∷ []) v w n e f = absurd (omega (arith, n))
two_items (x ∷ y ∷ z ∷ ws) v w n e f = absurd (omega (arith, n))
two_items (x ∷ y ∷ []) v w n e f = ap (λ a. a ∷ y ∷ []) (sym e) ∙ ap (λ b. v ∷ b ∷ []) (sym f)

pub two_worths : (ks : List Kind) (ws : List Worth) (v w : Worth) → length ks ≡ 2 → AreWorths ks ws → v ≡ get_or ws 0 v → w ≡ get_or ws 1 w → ws ≡ v ∷ w ∷ []
two_worths ks ws v w n a = two_items ws v w (sym (each ks ws a) ∙ n)

-- the value of one reducer is that
one_item : (ws : List Worth) (v : Worth) → length ws ≡ 1 → v ≡ get_or ws 0 v → ws ≡ v ∷ []
one_item [] v n e = absurd (omega (arith, n))
one_item (x ∷ y ∷ ws) v n e = absurd (omega (arith, n))
one_item (x ∷ []) v n e = ap (λ a. a ∷ []) (sym e)

pub one_worth : (ks : List Kind) (ws : List Worth) (v : Worth) → length ks ≡ 1 → AreWorths ks ws → v ≡ get_or ws 0 v → ws ≡ v ∷ []
one_worth ks ws v n a = one_item ws v (sym (each ks ws a) ∙ n)

-- what is kept of one reducer's value, then of the other's
pub both_kept : (first second all : List Gift) {xs ys : List (ℕ × Worth)} → all ≡ first ++ second → map touched (map given_by first) ≡ xs → map touched (map given_by second) ≡ ys
    → map touched (map given_by all) ≡ xs ++ ys
both_kept first second all {xs} {ys} joined one two =
    ap (λ gs. map touched (map given_by gs)) joined
    ∙ ap (map touched) (map-append given_by first second)
    ∙ map-append touched (map given_by first) (map given_by second)
    ∙ ap (λ es. es ++ map touched (map given_by second)) one
    ∙ ap (λ es. xs ++ es) two
