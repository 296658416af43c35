-- Lists and places.
use Rattle.std.proofs.Common.{ℕ, ◌<◌, List, [], ◌∷◌, ◌++◌, ◌≡◌, ◌⊎◌, inl, inr, ⊎_elim, refl, sym, ap, ap₂, ◌∙◌, arith, append_assoc, true, false, Bool, eq-eqb}
use Rattle.meaning.specs.Outcome.{Log, Place, Outcome, Leaves}
use Rattle.meaning.specs.Trail.{child_of}
use Rattle.meaning.specs.SmallStep.{Start, root, behind, same_name, is_entry}
use Rattle.trail_theory.specs.Order.{In, Every, LeavesBefore}
use Rattle.trail_theory.specs.TaskFits.{IsAbove, Higher, Spot}

pub in_append : {A : Type 0} (x : A) (a b : List A) → In x (a ++ b) → In x a ⊎ In x b
in_append x [] b h = inr h
in_append x (y ∷ a) b (inl e) = inl (inl e)
in_append x (y ∷ a) b (inr h) = ⊎_elim (λ i. inl (inr i)) (λ i. inr i) (in_append x a b h)

pub in_left : {A : Type 0} (x : A) (a b : List A) → In x a → In x (a ++ b)
in_left x [] b h = absurd h
in_left x (y ∷ a) b (inl e) = inl e
in_left x (y ∷ a) b (inr h) = inr (in_left x a b h)

pub in_right : {A : Type 0} (x : A) (a b : List A) → In x b → In x (a ++ b)
in_right x [] b h = h
in_right x (y ∷ a) b h = inr (in_right x a b h)

pub every_append : {A : Type 0} (Q : A → Type 0) (a b : List A) → Every Q a → Every Q b → Every Q (a ++ b)
every_append Q [] b h k = k
every_append Q (x ∷ a) b h k = (h.0, every_append Q a b h.1 k)

pub every_in : {A : Type 0} (Q : A → Type 0) (x : A) (a : List A) → Every Q a → In x a → Q x
every_in Q x [] h i = absurd i
every_in Q x (y ∷ a) h (inl e) = rw e h.0
every_in Q x (y ∷ a) h (inr i) = every_in Q x a h.1 i

-- the order of names
pub order_strict : (n : Place) → LeavesBefore n n → ⊥
order_strict [] h = h
order_strict (a ∷ n) (inl l) = omega arith
order_strict (a ∷ n) (inr h) = order_strict n h.1

pub order_one_way : (p c : Place) → LeavesBefore p c → LeavesBefore c p → ⊥
order_one_way [] c h k = h
order_one_way (a ∷ p) [] h k = k
order_one_way (a ∷ p) (b ∷ c) (inl l) (inl l') = omega arith
order_one_way (a ∷ p) (b ∷ c) (inl l) (inr k) = omega (arith, k.0)
order_one_way (a ∷ p) (b ∷ c) (inr h) (inl l') = omega (arith, h.0)
order_one_way (a ∷ p) (b ∷ c) (inr h) (inr k) = order_one_way p c h.1 k.1

pub order_later : (m : Place) (k k' : ℕ) (r r' : Place) → k < k' → LeavesBefore (m ++ k ∷ r) (m ++ k' ∷ r')
order_later [] k k' r r' l = inl l
order_later (a ∷ m) k k' r r' l = inr (refl, order_later m k k' r r' l)

pub order_inner : (m : Place) (k : ℕ) (r : Place) → LeavesBefore (m ++ k ∷ r) m
order_inner [] k r = tt
order_inner (a ∷ m) k r = inr (refl, order_inner m k r)

pub above_child : (m : Place) (k : ℕ) (n : Place) (j : ℕ) → IsAbove m k n → IsAbove m k (child_of n j)
above_child m k n j a = record { child = a.child; path = a.path ++ j ∷ []; later = a.later; is = ap (λ l. l ++ j ∷ []) a.is ∙ append_assoc m (a.child ∷ a.path) (j ∷ []) }

pub same_name_refl : (n : Place) → same_name n n ≡ true
same_name_refl [] = refl
same_name_refl (a ∷ n) = rw (eq-eqb a a refl) (same_name_refl n)

pub both_ways : (b : Bool) → b ≡ true → b ≡ false → ⊥
both_ways b t f = cc

-- a spot that isn't the entry is above it
pub spot_above : (m : Start) (n : Place) (c : ℕ) → Spot m n c → is_entry m n ≡ false → Higher m n
spot_above root n c h e = tt
spot_above (behind m k) n c (inl h) e = absurd (both_ways (same_name m m) (same_name_refl m) (rw h.0 at e))
spot_above (behind m k) n c (inr h) e = h

-- a child of a spot is above the entry
pub child_above : (m : Start) (n : Place) (c : ℕ) → Spot m n c → Higher m (child_of n c)
child_above root n c h = tt
child_above (behind m k) n c (inl h) = record { child = c; path = []; later = h.1; is = ap (λ l. l ++ c ∷ []) h.0 }
child_above (behind m k) n c (inr h) = above_child m k n c h

pub above_spot : (m : Start) (n : Place) (c : ℕ) → Higher m n → Spot m n c
above_spot root n c h = tt
above_spot (behind m k) n c h = inr h

pub higher_child : (m : Start) (n : Place) (c : ℕ) → Higher m n → Higher m (child_of n c)
higher_child root n c h = tt
higher_child (behind m k) n c h = above_child m k n c h

-- no instance that left among B leaves after the strand's place
abbrev pub IsEarly : Start → Log → Type 0
IsEarly root B = (c : Place) (v : Outcome) → In (Leaves c v) B → ⊥
IsEarly (behind m k) B = (c : Place) (v : Outcome) → In (Leaves c v) B → LeavesBefore (child_of m k) c → ⊥

-- no child of an instance above the entry left before the strand
pub no_child_before : (m : Start) (n : Place) (B : Log) → IsEarly m B → Higher m n → (j : ℕ) (o : Outcome) → In (Leaves (child_of n j) o) B → ⊥
no_child_before root n B early h j o i = early (child_of n j) o i
no_child_before (behind m k) n B early h j o i =
    early (child_of n j) o i (let a = above_child m k n j h in rw a.is (order_later m k a.child [] a.path a.later))

-- where two names meet
pub no_end : (m : Place) (k : ℕ) (r : Place) → [] ≡ m ++ k ∷ r → ⊥
no_end [] k r e = cc
no_end (a ∷ m) k r e = cc

pub last_split : (p m : Place) (j k : ℕ) (r : Place) → p ++ j ∷ [] ≡ m ++ k ∷ r → (p ≡ m) × (j ≡ k) ⊎ ((r' : Place) × (p ≡ m ++ k ∷ r'))
last_split [] [] j k r e = inl (refl, cc)
last_split (a ∷ p) [] j k r e = inr (p, cc)
last_split [] (b ∷ m) j k r e = absurd (no_end m k r cc)
last_split (a ∷ p) (b ∷ m) j k r e =
    let h : a ≡ b = cc in
    let t : p ++ j ∷ [] ≡ m ++ k ∷ r = cc in
    elim (last_split p m j k r t) [
      | inl q ↦ inl (ap₂ ◌∷◌ h q.0, q.1)
      | inr q ↦ inr (q.0, ap₂ ◌∷◌ h q.1)
    ]

-- a child above the entry was entered by a spot
pub parent_spot : (m : Start) (n p : Place) (j c : ℕ) → n ≡ p ++ j ∷ [] → j < c → Higher m n → Spot m p c
parent_spot root n p j c e l h = tt
parent_spot (behind m k) n p j c e l h =
    elim (last_split p m j h.child h.path (sym e ∙ h.is)) [
      | inl q ↦ inl (q.0, let a : k < h.child = h.later in let b : j ≡ h.child = q.1 in omega arith)
      | inr q ↦ inr (record { child = h.child; path = q.0; later = h.later; is = q.1 })
    ]
