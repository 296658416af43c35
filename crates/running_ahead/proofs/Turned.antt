-- A loop's instance that has called so many of its iterations, and calls one more.
use Rattle.std.proofs.Common.{◌≡◌, ◌∙◌, ℕ, zero, suc, ◌+◌, ◌-◌, ◌==◌, ◌<◌, false, None, refl, sym, ap, arith}
use Rattle.std.proofs.lemmas.Bool.Decides.{nat_tests}
use Rattle.positions.specs.declared.work.Loop.{Loop}
use Rattle.positions.specs.declared.work.Share.{Share}
use Rattle.positions.specs.declared.work.Work.{Work}
use Rattle.positions.specs.declared.work.Work.TheVariants.{Turns}
use Rattle.positions.specs.Activations.{PlainActivation, waiting}
use Rattle.positions.specs.Advance.{rest_of}
use Rattle.activations.specs.Turned.{behind, turned_by}

abbrev share_of : ℕ → ℕ → Share
share_of f c = record { first = f; count = c }

abbrev called : PlainActivation → ℕ → Work → PlainActivation
called a k w = record a { children = k; spawned = false; into = None; work = w }

none_behind : (h : Share) → behind 0 h ≡ h
none_behind h =
    let e : h.first + 0 ≡ h.first = omega arith in
    let d : h.count - 0 ≡ h.count = omega arith in
    ap (λ (f : ℕ). share_of f (h.count - 0)) e ∙ ap (λ (c : ℕ). share_of h.first c) d

one_behind : (n : ℕ) (h : Share) → rest_of (behind n h) ≡ behind (suc n) h
one_behind n h =
    let e : h.first + n + 1 ≡ h.first + suc n = omega arith in
    let d : h.count - n - 1 ≡ h.count - suc n = omega arith in
    ap (λ (f : ℕ). share_of f (h.count - n - 1)) e ∙ ap (λ (c : ℕ). share_of (h.first + suc n) c) d

-- one more iteration is called
pub next_turn : (n : ℕ) (l : Loop) (h : Share) (a : PlainActivation) → waiting false None (Turns l (rest_of (behind n h))) (turned_by n l h a) ≡ turned_by (suc n) l h a
next_turn zero l h a = ap (λ (r : Share). called a (a.children + 1) (Turns l r)) (one_behind zero h)
next_turn (suc m) l h a =
    let e : a.children + suc m + 1 ≡ a.children + suc (suc m) = omega arith in
    ap (λ (k : ℕ). called a k (Turns l (rest_of (behind (suc m) h)))) e ∙ ap (λ (r : Share). called a (a.children + suc (suc m)) (Turns l r)) (one_behind (suc m) h)

-- what it has left, and what stays
pub turns_there : (n : ℕ) (l : Loop) (h : Share) (a : PlainActivation) → a.work ≡ Turns l h → (turned_by n l h a).work ≡ Turns l (behind n h)
turns_there zero l h a there = there ∙ ap (λ (r : Share). Turns l r) (sym (none_behind h))
turns_there (suc n) l h a there = refl

pub turns_left : (n : ℕ) (l : Loop) (h : Share) (a : PlainActivation) → (turned_by n l h a).left ≡ a.left
turns_left zero l h a = refl
turns_left (suc n) l h a = refl

pub turns_procedure : (n : ℕ) (l : Loop) (h : Share) (a : PlainActivation) → (turned_by n l h a).procedure ≡ a.procedure
turns_procedure zero l h a = refl
turns_procedure (suc n) l h a = refl

pub turns_slots : (n : ℕ) (l : Loop) (h : Share) (a : PlainActivation) → (turned_by n l h a).slots ≡ a.slots
turns_slots zero l h a = refl
turns_slots (suc n) l h a = refl

pub more_behind : (n : ℕ) (h : Share) → n < h.count → ((behind n h).count == 0) ≡ false
more_behind n h less =
    let some : 0 < h.count - n = omega (arith, less) in
    grind (arith, nat_tests, some)
