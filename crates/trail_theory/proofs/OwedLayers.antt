-- Each move keeps the layers that strands owe each other; so the layer that an instance closes is its own, and a strand at its entry's sync has one layer.
use Rattle.std.proofs.Common.{ℕ, suc, ◌+◌, List, [], ◌∷◌, ◌++◌, ◌≡◌, refl, sym, ap, ◌∙◌, subst, arith, append_assoc, append-nil, length, length-append, true, false, Bool}
use Rattle.meaning.specs.Outcome.{Place}
use Rattle.meaning.specs.Trail.{child_of}
use Rattle.meaning.specs.SmallStep.{Start, root, behind, Frame, Phase, entering, running, spawning, returning, leaving, broken, Parent, Continuation}
use Rattle.meaning.specs.LayeredStrand.{LayeredStrand}
use Rattle.meaning.specs.RestOfRun.{lowest}
use Rattle.meaning.specs.Tallies.{Opened, Tally}
use Rattle.trail_theory.specs.Order.{Every}
use Rattle.trail_theory.specs.TaskFits.{Higher, Stacked}
use Rattle.trail_theory.specs.OpenLayers.{recorded_by, recorded_under, recorded_top, recorded_in, IsTopLayer, ClosesTop}
use Rattle.trail_theory.specs.OwedLayers.{parents_behind, opened_names, Unbroken, IsOver, Precede, OwesLayers}

-- ---- instances on the way to one

pub over_itself : (n : Place) → IsOver n n
over_itself n = record { path = []; is = sym (append-nil n) }

over_trans : (a b c : Place) → IsOver a b → IsOver b c → IsOver a c
over_trans a b c h k = record { path = k.path ++ h.path; is = h.is ∙ ap (λ w. w ++ h.path) k.is ∙ append_assoc c k.path h.path }

pub over_parent : (n p : Place) (j : ℕ) → n ≡ child_of p j → IsOver n p
over_parent n p j e = record { path = j ∷ []; is = e }

-- an instance on the way to m doesn't stand above m's children
no_longer : (m : Place) (c : ℕ) (p q : Place) → m ≡ (m ++ c ∷ p) ++ q → ⊥
no_longer m c p q e =
    let l : length m ≡ length ((m ++ c ∷ p) ++ q) = ap length e in
    let a : length ((m ++ c ∷ p) ++ q) ≡ length (m ++ c ∷ p) + length q = length-append (m ++ c ∷ p) q in
    let b : length (m ++ c ∷ p) ≡ length m + length (c ∷ p) = length-append m (c ∷ p) in
    let d : length (c ∷ p) ≡ suc (length p) = refl in
    absurd (omega (arith, l, a, b, d))

pub over_not_above : (m n : Place) (k : ℕ) → IsOver m n → Higher (behind m k) n → ⊥
over_not_above m n k o h = no_longer m h.child h.path o.path (o.is ∙ ap (λ w. w ++ o.path) h.is)

pub every_join : {A : Type 0} (Q : A → Type 0) (a b : List A) → Every Q a → Every Q b → Every Q (a ++ b)
every_join Q [] b h k = k
every_join Q (x ∷ a) b h k = (h.0, every_join Q a b h.1 k)

pub every_over : (a b : Place) (ns : List Place) → IsOver a b → Every (IsOver b) ns → Every (IsOver a) ns
every_over a b [] o h = tt
every_over a b (n ∷ ns) o h = (over_trans a b n o h.0, every_over a b ns o h.1)

pub recorded_over : (m n : Place) (b : Bool) (ns : List Place) → IsOver m n → Every (IsOver m) ns → Every (IsOver m) (recorded_by b n ns)
recorded_over m n true ns o h = (o, h)
recorded_over m n false ns o h = h

pub under_over : (n : Place) (t : List Parent) → Stacked n t → Every (IsOver n) (recorded_under t)
under_over n [] h = tt
under_over n (p ∷ t) h =
    let o = over_parent n p.frame.instance h.0.number h.0.is in
    recorded_over n p.frame.instance p.frame.recorded (recorded_under t) o (every_over n p.frame.instance (recorded_under t) o (under_over p.frame.instance t h.1))

pub lowest_over : (fr : Frame) (t : List Parent) → Stacked fr.instance t → IsOver fr.instance (lowest fr t)
lowest_over fr [] h = over_itself fr.instance
lowest_over fr (p ∷ t) h = over_trans fr.instance p.frame.instance (lowest p.frame t) (over_parent fr.instance p.frame.instance h.0.number h.0.is) (lowest_over p.frame t h.1)

-- ---- lists of them

recorded_append : (b : Bool) (n : Place) (ns ms : List Place) → recorded_by b n ns ++ ms ≡ recorded_by b n (ns ++ ms)
recorded_append true n ns ms = refl
recorded_append false n ns ms = refl

recorded_under_append : (t u : List Parent) → recorded_under (t ++ u) ≡ recorded_under t ++ recorded_under u
recorded_under_append [] u = refl
recorded_under_append (p ∷ t) u = ap (recorded_by p.frame.recorded p.frame.instance) (recorded_under_append t u) ∙ sym (recorded_append p.frame.recorded p.frame.instance (recorded_under t) (recorded_under u))

top_append : (fr : Frame) (ph : Phase) (ns ms : List Place) → recorded_top fr ph (ns ++ ms) ≡ recorded_top fr ph ns ++ ms
top_append fr (entering child) ns ms = refl
top_append fr (running todo) ns ms = sym (recorded_append fr.recorded fr.instance ns ms)
top_append fr (spawning d x child todo) ns ms = sym (recorded_append fr.recorded fr.instance ns ms)
top_append fr (returning v) ns ms = sym (recorded_append fr.recorded fr.instance ns ms)
top_append fr (leaving v) ns ms = refl
top_append fr (broken k) ns ms = sym (recorded_append fr.recorded fr.instance ns ms)

pub recorded_in_append : (fr : Frame) (ph : Phase) (t u : List Parent) → recorded_in fr ph (t ++ u) ≡ recorded_in fr ph t ++ recorded_under u
recorded_in_append fr ph t u = ap (recorded_top fr ph) (recorded_under_append t u) ∙ top_append fr ph (recorded_under t) (recorded_under u)

pub parents_append : (a b : List Continuation) → parents_behind (a ++ b) ≡ parents_behind a ++ parents_behind b
parents_append [] b = refl
parents_append (k ∷ a) b = ap (λ w. k.parent ∷ (k.under ++ w)) (parents_append a b) ∙ ap (λ w. k.parent ∷ w) (sym (append_assoc k.under (parents_behind a) (parents_behind b)))

pub any_unbroken : (ph : Phase) (A : Type 0) → A → Unbroken ph A
any_unbroken (entering child) A h = h
any_unbroken (running todo) A h = h
any_unbroken (spawning d x child todo) A h = h
any_unbroken (returning v) A h = h
any_unbroken (leaving v) A h = h
any_unbroken (broken k) A h = tt

-- ---- a closing instance has the top layer

top_of_balance : (m : Start) (n : Place) (ns right left : List Place) (os : List Opened) → (n ∷ ns) ++ right ≡ opened_names os ++ left → Precede m left → Higher m n → IsTopLayer os n
top_of_balance root n ns right [] [] e p h = cc
top_of_balance root n ns right (a ∷ left) [] e p h = absurd cc
top_of_balance (behind m k) n ns right [] [] e p h = absurd cc
top_of_balance (behind m k) n ns right (a ∷ left) [] e p h = let q : n ≡ a = cc in over_not_above m n k (rw q p.0) h
top_of_balance root n ns right left (o ∷ os) e p h = sym (let q : n ≡ o.instance = cc in q)
top_of_balance (behind m k) n ns right left (o ∷ os) e p h = sym (let q : n ≡ o.instance = cc in q)

closes_own : (m : Start) (fr : Frame) (t u : List Parent) (right left : List Place) (os : List Opened) (b : Bool) → fr.recorded ≡ b → recorded_by fr.recorded fr.instance (recorded_under (t ++ u)) ++ right ≡ opened_names os ++ left → Precede m left → fr.recorded ≡ true → Higher m fr.instance → IsTopLayer os fr.instance
closes_own m fr t u right left os true q e p r h = top_of_balance m fr.instance (recorded_under (t ++ u)) right left os (subst (λ b. recorded_by b fr.instance (recorded_under (t ++ u)) ++ right ≡ opened_names os ++ left) q e) p h
closes_own m fr t u right left os false q e p r h = absurd (let z : false ≡ true = sym q ∙ r in cc)

closes_at : (m : Start) (fr : Frame) (ph : Phase) (t u : List Parent) (right left : List Place) (os : List Opened) → Unbroken ph (recorded_in fr ph (t ++ u) ++ right ≡ opened_names os ++ left) → Precede m left → ClosesTop m fr ph os
closes_at m fr (entering child) t u right left os e p = tt
closes_at m fr (running todo) t u right left os e p = tt
closes_at m fr (spawning d x child todo) t u right left os e p = tt
closes_at m fr (returning v) t u right left os e p = closes_own m fr t u right left os fr.recorded refl e p
closes_at m fr (leaving v) t u right left os e p = tt
closes_at m fr (broken k) t u right left os e p = tt

pub closes_top : (s : LayeredStrand) (ks : List Continuation) (t : Tally) (left right : List Place) → OwesLayers s ks t left right → ClosesTop s.start s.frame s.phase t.opened
closes_top s ks t left right h = closes_at s.start s.frame s.phase s.under (parents_behind ks) right left t.opened h.balance h.precede
