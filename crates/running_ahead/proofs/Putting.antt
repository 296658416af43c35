-- Instances that are put above one another.
use Rattle.std.proofs.Common.{◌≡◌, ◌∙◌, ◌++◌, ◌∷◌, [], ◌+◌, ◌-◌, ◌<◌, ◌≤◌, ℕ, zero, suc, min, List, Some, drop, length, slice_get, slice_set, refl, sym, ap, subst, arith, add-one}
use Rattle.positions.specs.declared.phase.Phase.TheVariants.{Running}
use Rattle.positions.specs.Activations.{PlainActivation}
use Rattle.positions.specs.Layers.{PlainLayer}
use Rattle.positions.specs.Strands.{PlainStrand}
use Rattle.own_statements.specs.Paths.{stacked, topped}
use Rattle.running_ahead.specs.Chains.{under}

pub stacked_under : (k : ℕ) (b : PlainActivation) (xs : List PlainActivation) (m : PlainLayer) (s : PlainStrand) (path : List ℕ) (below : List PlainActivation) → s.path ≡ path → s.below ≡ below → stacked k b xs m s ≡ stacked k b xs m (under path below s)
stacked_under k b xs m s path below e f =
    ap (λ (p : List ℕ). stacked k b xs m (under p s.below s)) e ∙ ap (λ (u : List PlainActivation). stacked k b xs m (under path u s)) f

-- where there are no more
pub stacked_none : (k : ℕ) (b : PlainActivation) (xs : List PlainActivation) (m : PlainLayer) (s : PlainStrand) → xs ≡ [] → stacked k b xs m s ≡ topped Running b m s
stacked_none zero b xs m s e = refl
stacked_none (suc k) b xs m s e = ap (λ ys. stacked (suc k) b ys m s) e

-- or none are put
stacked_all : (more place : ℕ) (b : PlainActivation) (xs : List PlainActivation) (m : PlainLayer) (s : PlainStrand) → more ≤ place → stacked (more - place) b xs m s ≡ topped Running b m s
stacked_all more place b xs m s all =
    let none : more - place ≡ 0 = omega (arith, all) in
    ap (λ k. stacked k b xs m s) none

drop_next : (xs : List PlainActivation) (i : ℕ) (x : PlainActivation) → slice_get xs i ≡ Some x → drop i xs ≡ x ∷ drop (suc i) xs
drop_next [] i x there = absurd cc
drop_next (y ∷ xs) zero x there =
    let same : y ≡ x = cc in
    ap (λ (z : PlainActivation). z ∷ xs) same
drop_next (y ∷ xs) (suc i) x there = drop_next xs i x there

pub drop_past : (xs : List PlainActivation) (i : ℕ) → length xs ≤ i → drop i xs ≡ []
drop_past [] zero h = refl
drop_past [] (suc i) h = refl
drop_past (x ∷ xs) zero h = absurd (let wrong : ⊥ = omega (arith, h) in wrong)
drop_past (x ∷ xs) (suc i) h = drop_past xs i (omega (arith, h))

-- or as many as there are
pub stacked_done : (more place : ℕ) (b : PlainActivation) (xs : List PlainActivation) (m : PlainLayer) (s : PlainStrand) → min more (length xs) ≤ place → stacked (more - place) b (drop place xs) m s ≡ topped Running b m s
stacked_done zero place b xs m s all = stacked_all zero place b (drop place xs) m s (omega arith)
stacked_done (suc more) place b [] m s all = stacked_none (suc more - place) b (drop place []) m s (drop_past [] place (omega arith))
stacked_done (suc more) zero b (x ∷ xs) m s all = absurd (let wrong : ⊥ = omega (arith, all) in wrong)
stacked_done (suc more) (suc place) b (x ∷ xs) m s all =
    let less : suc more - suc place ≡ more - place = omega arith in
    let few : min more (length xs) ≤ place = omega (arith, all) in
    ap (λ k. stacked k b (drop place xs) m s) less ∙ stacked_done more place b xs m s few

behind_one : (xs : List PlainActivation) (i : ℕ) → drop (suc i) xs ≡ drop 1 (drop i xs)
behind_one [] zero = refl
behind_one [] (suc i) = refl
behind_one (x ∷ xs) zero = refl
behind_one (x ∷ xs) (suc i) = behind_one xs i

behind_set : (xs : List PlainActivation) (i : ℕ) (y : PlainActivation) → drop (suc i) (slice_set xs i y) ≡ drop (suc i) xs
behind_set [] zero y = refl
behind_set [] (suc i) y = refl
behind_set (x ∷ xs) zero y = refl
behind_set (x ∷ xs) (suc i) y = behind_set xs i y

-- one more
pub stacked_next : (more place : ℕ) (b x : PlainActivation) (xs : List PlainActivation) (m : PlainLayer) (path : List ℕ) (below : List PlainActivation) (s : PlainStrand) → place < more → slice_get xs place ≡ Some x
    → stacked (more - place) b (drop place xs) m (under path below s) ≡ stacked (more - (place + 1)) x (drop (place + 1) xs) m (under (path ++ b.children ∷ []) (b ∷ below) s)
stacked_next more place b x xs m path below s less there =
    let count : more - place ≡ suc (more - (place + 1)) = omega (arith, less) in
    ap (λ k. stacked k b (drop place xs) m (under path below s)) count
    ∙ ap (λ ys. stacked (suc (more - (place + 1))) b ys m (under path below s)) (drop_next xs place x there)
    ∙ ap (λ k. stacked (more - (place + 1)) x (drop k xs) m (under (path ++ b.children ∷ []) (b ∷ below) s)) (sym (add-one place))

-- what stands behind a place stays where one there is put in place of another
pub drop_same : (xs ys : List PlainActivation) (i : ℕ) (x : PlainActivation) → drop i ys ≡ drop i xs → drop (i + 1) (slice_set ys i x) ≡ drop (i + 1) xs
drop_same xs ys i x e =
    ap (λ k. drop k (slice_set ys i x)) (add-one i) ∙ behind_set ys i x ∙ behind_one ys i ∙ ap (λ zs. drop 1 zs) e ∙ sym (behind_one xs i) ∙ sym (ap (λ k. drop k xs) (add-one i))

-- what stands at a place, where what stands from it on is the same
pub there_same : (xs ys : List PlainActivation) (i : ℕ) (x : PlainActivation) → drop i ys ≡ drop i xs → slice_get ys i ≡ Some x → slice_get xs i ≡ Some x
there_same xs ys zero x e there = subst (λ zs. slice_get zs 0 ≡ Some x) e there
there_same xs [] (suc i) x e there = absurd cc
there_same [] (y ∷ ys) (suc i) x e there = absurd (let none : slice_get [] i ≡ Some x = there_same [] ys i x (e ∙ sym (drop_past [] i (omega arith))) there in cc)
there_same (z ∷ xs) (y ∷ ys) (suc i) x e there = there_same xs ys i x e there
