-- One value for each reducer.
use Rattle.std.proofs.Common.{◌≡◌, ℕ, zero, suc, ◌+◌, ◌<◌, ◌≤◌, List, [], ◌∷◌, ◌++◌, take, length, Some, None, slice_get, refl, sym, ap, ◌∙◌, subst, arith}
use Rattle.std.proofs.lemmas.Option.{slice_get_read}
use Rattle.std.proofs.lemmas.List.{take_more}
use Rattle.std.proofs.Math.Seq.{take-length}
use Rattle.monoid_laws.specs.declared.Kind.{Kind}
use Rattle.monoid_laws.specs.Worth.{Worth}
use Rattle.monoid_laws.specs.Kinds.{AreWorths}
use Rattle.record_theory.proofs.Absorbed.{each}
use Rattle.hypermaps.specs.Layer.{IsAt}

pub read_in : (cs : List Kind) (ws : List Worth) (r : ℕ) (w : Worth) → AreWorths cs ws → r < length cs → IsAt ws r w → slice_get ws r ≡ Some w
read_in cs ws r w h l i = slice_get_read ws (length cs) r w (each cs ws h) l i

pub none_in : {A : Type 0} (xs : List A) (r : ℕ) → length xs ≤ r → slice_get xs r ≡ None
none_in [] r l = refl
none_in (x ∷ xs) zero l = absurd (omega arith)
none_in (x ∷ xs) (suc r) l = none_in xs r (omega arith)

pub read_out : (cs : List Kind) (ws : List Worth) (r : ℕ) → AreWorths cs ws → length cs ≤ r → slice_get ws r ≡ None
read_out cs ws r h l = none_in ws r (subst (λ n. n ≤ r) (each cs ws h) l)

-- copies of the first values, and one more
pub copied_next : (cs : List Kind) (ws ms : List Worth) (i : ℕ) (w : Worth) → AreWorths cs ws → i < length cs → ms ≡ take i ws → IsAt ws i w → ms ++ w ∷ [] ≡ take (i + 1) ws
copied_next cs ws ms i w h l e at =
    ap (λ zs. zs ++ w ∷ []) e ∙ ap (λ x. take i ws ++ x ∷ []) at ∙ sym (take_more ws i w (subst (λ n. i < n) (each cs ws h) l))

pub copied_all : (cs : List Kind) (ws : List Worth) (i : ℕ) → AreWorths cs ws → i ≡ length cs → take i ws ≡ ws
copied_all cs ws i h e = ap (λ n. take n ws) (e ∙ each cs ws h) ∙ take-length ws
