-- What is known of one variable, from statement to statement.
use Rattle.std.proofs.Common.{◌≡◌, ℕ, zero, suc, ◌+◌, ◌≤◌, Bool, true, false, cond, ◌||◌, ◌==◌, List, [], ◌∷◌, Option, Some, None, slice_get, slice_set, refl, ap, sym, ◌∙◌, subst, inl, inr, ◌⊎◌, arith}
use Rattle.std.proofs.lemmas.Bool.{eqb-true, eqb-false, ne_eqb, eq-eqb}
use Rattle.meaning.specs.declared.tree.Way.TheVariants.{Call, Spawn}
use Rattle.meaning.specs.Tree.{Deed, bind, enter, read, sync, update, choose, loop, give, Body, end, step}
use Rattle.linked_program.specs.declared.knowledge.Moment.{Moment}
use Rattle.linked_program.specs.declared.knowledge.Knowledge.{Knowledge}
use Rattle.linked_program.specs.declared.knowledge.Knowledge.TheVariants.{Unbound, Ended, Known}
use Rattle.linked_program.specs.Scope.{Scope, moment, is_known, told, bound, looped, after_spawn, is_of, forgotten, closed_deed, closed, returned, after_deed, after_body, after_block}

abbrev pub look : Scope → ℕ → Option Knowledge
look scope x = slice_get scope.names x

-- the place of another name, or that of this one
pub record IsTold (ks : List Knowledge) (x y : ℕ) (k : Knowledge) : Type 0 where
  pub same : y ≡ x
  pub now : slice_get (slice_set ks x k) y ≡ Some k
  pub was : Knowledge
  pub was_is : slice_get ks y ≡ Some was

pub told_at : (ks : List Knowledge) (x y : ℕ) (k : Knowledge) → (slice_get (slice_set ks x k) y ≡ slice_get ks y) ⊎ IsTold ks x y k
told_at [] x y k = inl refl
told_at (q ∷ ks) zero zero k = inr (record { same = refl; now = refl; was = q; was_is = refl })
told_at (q ∷ ks) zero (suc y) k = inl refl
told_at (q ∷ ks) (suc x) zero k = inl refl
told_at (q ∷ ks) (suc x) (suc y) k = elim (told_at ks x y k) [
  | inl e ↦ inl e
  | inr h ↦ inr (record { same = ap suc h.same; now = h.now; was = h.was; was_is = h.was_is })
]

-- a scope that is one of two
pub either : (k : Bool) (s t : Scope) (P : Scope → Type 0) → P s → P t → P (cond k s t)
either true s t P p q = p
either false s t P p q = q

-- ---- the same as it was, or ended

abbrev pub Moves : Option Knowledge → Option Knowledge → Type 0
Moves was now = (now ≡ was) ⊎ (now ≡ Some Ended)

pub moves_on : (a b c : Option Knowledge) → Moves a b → Moves b c → Moves a c
moves_on a b c (inl e) (inl f) = inl (f ∙ e)
moves_on a b c (inl e) (inr f) = inr f
moves_on a b c (inr e) (inl f) = inr (f ∙ e)
moves_on a b c (inr e) (inr f) = inr f

ended_moves : (scope : Scope) (x y : ℕ) → Moves (look scope y) (look (told scope x Ended) y)
ended_moves scope x y = elim (told_at scope.names x y Ended) [
  | inl e ↦ inl e
  | inr h ↦ inr h.now
]

pub looped_moves : (scope : Scope) (x y : ℕ) → Moves (look scope y) (look (looped scope x) y)
looped_moves scope x y = either (is_known (look scope x)) scope (told scope x Ended) (λ t. Moves (look scope y) (look t y)) (inl refl) (ended_moves scope x y)

forgotten_moves : (depth : ℕ) (scope : Scope) (x y : ℕ) → Moves (look scope y) (look (forgotten depth scope x) y)
forgotten_moves depth scope x y = either (is_of depth (look scope x)) (told scope x Ended) scope (λ t. Moves (look scope y) (look t y)) (ended_moves scope x y) (inl refl)

closed_deed_moves : (depth : ℕ) (scope : Scope) (d : Deed) (y : ℕ) → Moves (look scope y) (look (closed_deed depth scope d) y)
closed_deed_moves depth scope (bind x e) y = forgotten_moves depth scope x y
closed_deed_moves depth scope (enter None way f es) y = inl refl
closed_deed_moves depth scope (enter (Some x) way f es) y = forgotten_moves depth scope x y
closed_deed_moves depth scope (read x r) y = forgotten_moves depth scope x y
closed_deed_moves depth scope sync y = inl refl
closed_deed_moves depth scope (update r es) y = inl refl
closed_deed_moves depth scope (choose e a b) y = inl refl
closed_deed_moves depth scope (loop x e f grain g es) y = inl refl
closed_deed_moves depth scope (give e) y = inl refl

pub closed_moves : (depth : ℕ) (scope : Scope) (b : Body) (y : ℕ) → Moves (look scope y) (look (closed depth scope b) y)
closed_moves depth scope end y = inl refl
closed_moves depth scope (step n d rest) y =
    moves_on (look scope y) (look (closed_deed depth scope d) y) (look (closed depth (closed_deed depth scope d) rest) y) (closed_deed_moves depth scope d y) (closed_moves depth (closed_deed depth scope d) rest y)

-- ---- bound in the block of a depth

pub still_not_of : (depth : ℕ) (a b : Option Knowledge) → Moves a b → is_of depth a ≡ false → is_of depth b ≡ false
still_not_of depth a b (inl e) h = ap (is_of depth) e ∙ h
still_not_of depth a b (inr e) h = ap (is_of depth) e

abbrev binds_target : Option ℕ → ℕ → Bool
binds_target None x = false
binds_target (Some y) x = y == x

abbrev binds_deed : Deed → ℕ → Bool
binds_deed (bind y e) x = y == x
binds_deed (enter y way f es) x = binds_target y x
binds_deed (read y r) x = y == x
binds_deed _ x = false

abbrev binds_body : Body → ℕ → Bool
binds_body end x = false
binds_body (step n d rest) x = binds_deed d x || binds_body rest x

pub told_there : (ks : List Knowledge) (x : ℕ) (q k : Knowledge) → slice_get ks x ≡ Some q → slice_get (slice_set ks x k) x ≡ Some k
told_there [] x q k e = cc
told_there (p ∷ ks) zero q k e = refl
told_there (p ∷ ks) (suc x) q k e = told_there ks x q k e

known_of : (depth : ℕ) (o : Option Knowledge) → is_of depth o ≡ true → (q : Knowledge) × (o ≡ Some q)
known_of depth None e = cc
known_of depth (Some q) e = (q, refl)

forgotten_at : (depth : ℕ) (scope : Scope) (x : ℕ) (b : Bool) → is_of depth (look scope x) ≡ b → is_of depth (look (cond b (told scope x Ended) scope) x) ≡ false
forgotten_at depth scope x true e = let q = known_of depth (look scope x) e in ap (is_of depth) (told_there scope.names x q.0 Ended q.1)
forgotten_at depth scope x false e = e

forgotten_name : (depth : ℕ) (scope : Scope) (y x : ℕ) → (y == x) ≡ true → is_of depth (look (forgotten depth scope y) x) ≡ false
forgotten_name depth scope y x e = rw (eqb-true y x e) (forgotten_at depth scope x (is_of depth (look scope x)) refl)

closed_deed_binds : (depth : ℕ) (scope : Scope) (d : Deed) (x : ℕ) → binds_deed d x ≡ true → is_of depth (look (closed_deed depth scope d) x) ≡ false
closed_deed_binds depth scope (bind y e) x h = forgotten_name depth scope y x h
closed_deed_binds depth scope (enter None way f es) x h = cc
closed_deed_binds depth scope (enter (Some y) way f es) x h = forgotten_name depth scope y x h
closed_deed_binds depth scope (read y r) x h = forgotten_name depth scope y x h
closed_deed_binds depth scope sync x h = cc
closed_deed_binds depth scope (update r es) x h = cc
closed_deed_binds depth scope (choose e a b) x h = cc
closed_deed_binds depth scope (loop y e f grain g es) x h = cc
closed_deed_binds depth scope (give e) x h = cc

one_of : (b c : Bool) → (b || c) ≡ true → (b ≡ true) ⊎ (c ≡ true)
one_of true c e = inl refl
one_of false c e = inr e

neither_first : (b c : Bool) → (b || c) ≡ false → b ≡ false
neither_first true c e = cc
neither_first false c e = refl

neither_second : (b c : Bool) → (b || c) ≡ false → c ≡ false
neither_second true c e = cc
neither_second false c e = e

closed_binds : (depth : ℕ) (scope : Scope) (b : Body) (x : ℕ) → binds_body b x ≡ true → is_of depth (look (closed depth scope b) x) ≡ false
closed_binds depth scope end x h = cc
closed_binds depth scope (step n d rest) x h = elim (one_of (binds_deed d x) (binds_body rest x) h) [
  | inl q ↦ still_not_of depth (look (closed_deed depth scope d) x) (look (closed depth (closed_deed depth scope d) rest) x) (closed_moves depth (closed_deed depth scope d) rest x) (closed_deed_binds depth scope d x q)
  | inr q ↦ closed_binds depth (closed_deed depth scope d) rest x q
]

-- ---- what a statement doesn't bind at a depth

bound_not_of : (e : ℕ) (now : Moment) (b : Bool) (scope : Scope) (y x : ℕ) → ((now.depth == e) ≡ false) ⊎ ((y == x) ≡ false) → is_of e (look scope x) ≡ false → is_of e (look (bound now b scope y) x) ≡ false
bound_not_of e now b scope y x other h =
    either (is_known (look scope y)) scope (told scope y (Known now b)) (λ t. is_of e (look t x) ≡ false) h (elim (told_at scope.names y x (Known now b)) [
      | inl q ↦ ap (is_of e) q ∙ h
      | inr q ↦ elim other [
        | inl r ↦ ap (is_of e) q.now ∙ r
        | inr r ↦ let t : (y == x) ≡ true = eq-eqb y x (sym q.same) in absurd cc
      ]
    ])

not_at : (e depth : ℕ) → e ≤ depth → (depth + 1 == e) ≡ false
not_at e depth h = ne_eqb (depth + 1) e (λ q. absurd (omega (arith, h, q)))

mutual
  not_of_deed : (e : ℕ) (now : Moment) (scope : Scope) (d : Deed) (x : ℕ) → e ≤ now.depth → ((now.depth == e) ≡ false) ⊎ (binds_deed d x ≡ false) → is_of e (look scope x) ≡ false → is_of e (look (after_deed now scope d) x) ≡ false
  not_of_deed e now scope (bind y v) x l other h = bound_not_of e now false scope y x other h
  not_of_deed e now scope (enter None Call f es) x l other h = h
  not_of_deed e now scope (enter (Some y) Call f es) x l other h = bound_not_of e now false scope y x other h
  not_of_deed e now scope (enter None Spawn f es) x l other h = h
  not_of_deed e now scope (enter (Some y) Spawn f es) x l other h = bound_not_of e now true (after_spawn scope) y x other h
  not_of_deed e now scope (read y r) x l other h = bound_not_of e now false scope y x other h
  not_of_deed e now scope sync x l other h = h
  not_of_deed e now scope (update r es) x l other h = h
  not_of_deed e now scope (choose v a b) x l other h =
      let deep = now.depth + 1 in
      let between = returned scope.synced (after_block deep scope a) in
      let far = not_at e now.depth l in
      let one = still_not_of e (look (after_body deep 1 scope a) x) (look (after_block deep scope a) x) (closed_moves deep (after_body deep 1 scope a) a x) (not_of_body e deep 1 scope a x (omega (arith, l)) (inl far) h) in
      still_not_of e (look (after_body deep 1 between b) x) (look (after_block deep between b) x) (closed_moves deep (after_body deep 1 between b) b x) (not_of_body e deep 1 between b x (omega (arith, l)) (inl far) one)
  not_of_deed e now scope (loop y v w grain g es) x l other h = still_not_of e (look scope x) (look (looped scope y) x) (looped_moves scope y x) h
  not_of_deed e now scope (give v) x l other h = h

  not_of_body : (e depth place : ℕ) (scope : Scope) (b : Body) (x : ℕ) → e ≤ depth → ((depth == e) ≡ false) ⊎ (binds_body b x ≡ false) → is_of e (look scope x) ≡ false → is_of e (look (after_body depth place scope b) x) ≡ false
  not_of_body e depth place scope end x l other h = h
  not_of_body e depth place scope (step n d rest) x l (inl q) h =
      not_of_body e depth (place + 1) (after_deed (moment depth place) scope d) rest x l (inl q) (not_of_deed e (moment depth place) scope d x l (inl q) h)
  not_of_body e depth place scope (step n d rest) x l (inr q) h =
      not_of_body e depth (place + 1) (after_deed (moment depth place) scope d) rest x l (inr (neither_second (binds_deed d x) (binds_body rest x) q))
      (not_of_deed e (moment depth place) scope d x l (inr (neither_first (binds_deed d x) (binds_body rest x) q)) h)

-- at the end of a block nothing is known that was bound at its depth
gone_by : (depth place : ℕ) (scope : Scope) (b : Body) (x : ℕ) (c : Bool) → binds_body b x ≡ c → is_of depth (look scope x) ≡ false → is_of depth (look (closed depth (after_body depth place scope b) b) x) ≡ false
gone_by depth place scope b x true e h = closed_binds depth (after_body depth place scope b) b x e
gone_by depth place scope b x false e h =
    still_not_of depth (look (after_body depth place scope b) x) (look (closed depth (after_body depth place scope b) b) x) (closed_moves depth (after_body depth place scope b) b x) (not_of_body depth depth place scope b x (omega arith) (inr e) h)

-- ---- known of blocks that still go on

abbrev pub Shallow : ℕ → Option Knowledge → Type 0
Shallow depth (Some (Known since spawned)) = since.depth ≤ depth
Shallow depth _ = Unit {0}

pub shallow_moves : (depth : ℕ) (a b : Option Knowledge) → Moves a b → Shallow depth a → Shallow depth b
shallow_moves depth a b (inl e) h = subst (Shallow depth) (sym e) h
shallow_moves depth a b (inr e) h = subst (Shallow depth) (sym e) tt

pub deeper_too : (depth : ℕ) (a : Option Knowledge) → Shallow depth a → Shallow (depth + 1) a
deeper_too depth None h = tt
deeper_too depth (Some Unbound) h = tt
deeper_too depth (Some Ended) h = tt
deeper_too depth (Some (Known since spawned)) h = omega (arith, h)

shallow_not_of : (depth : ℕ) (a : Option Knowledge) → Shallow depth a → is_of (depth + 1) a ≡ false
shallow_not_of depth None h = refl
shallow_not_of depth (Some Unbound) h = refl
shallow_not_of depth (Some Ended) h = refl
shallow_not_of depth (Some (Known since spawned)) h = ne_eqb since.depth (depth + 1) (λ e. absurd (omega (arith, h, e)))

shallow_from : (depth : ℕ) (a : Option Knowledge) → Shallow (depth + 1) a → is_of (depth + 1) a ≡ false → Shallow depth a
shallow_from depth None h e = tt
shallow_from depth (Some Unbound) h e = tt
shallow_from depth (Some Ended) h e = tt
shallow_from depth (Some (Known since spawned)) h e = let other = eqb-false since.depth (depth + 1) e in below since.depth depth h other
  where
    below : (m n : ℕ) → m ≤ n + 1 → (m ≡ n + 1 → ⊥) → m ≤ n
    below m n l o = omega (arith, l, o)

shallow_bound : (now : Moment) (b : Bool) (scope : Scope) (y x : ℕ) → Shallow now.depth (look scope x) → Shallow now.depth (look (bound now b scope y) x)
shallow_bound now b scope y x h =
    either (is_known (look scope y)) scope (told scope y (Known now b)) (λ t. Shallow now.depth (look t x)) h (elim (told_at scope.names y x (Known now b)) [
      | inl q ↦ subst (Shallow now.depth) (sym q) h
      | inr q ↦ subst (Shallow now.depth) (sym q.now) (omega arith)
    ])

-- a block's end, where it was so before its last statement
ended_block : (depth : ℕ) (scope : Scope) (b : Body) (x : ℕ) → Shallow depth (look scope x) → Shallow (depth + 1) (look (after_body (depth + 1) 1 scope b) x) → Shallow depth (look (after_block (depth + 1) scope b) x)
ended_block depth scope b x before after =
    let deep = depth + 1 in
    shallow_from depth (look (after_block deep scope b) x)
    (shallow_moves deep (look (after_body deep 1 scope b) x) (look (after_block deep scope b) x) (closed_moves deep (after_body deep 1 scope b) b x) after)
    (gone_by deep 1 scope b x (binds_body b x) refl (shallow_not_of depth (look scope x) before))

mutual
  pub shallow_deed : (now : Moment) (scope : Scope) (d : Deed) (x : ℕ) → Shallow now.depth (look scope x) → Shallow now.depth (look (after_deed now scope d) x)
  shallow_deed now scope (bind y e) x h = shallow_bound now false scope y x h
  shallow_deed now scope (enter None Call f es) x h = h
  shallow_deed now scope (enter (Some y) Call f es) x h = shallow_bound now false scope y x h
  shallow_deed now scope (enter None Spawn f es) x h = h
  shallow_deed now scope (enter (Some y) Spawn f es) x h = shallow_bound now true (after_spawn scope) y x h
  shallow_deed now scope (read y r) x h = shallow_bound now false scope y x h
  shallow_deed now scope sync x h = h
  shallow_deed now scope (update r es) x h = h
  shallow_deed now scope (choose e a b) x h =
      let deep = now.depth + 1 in
      let between = returned scope.synced (after_block deep scope a) in
      let one = ended_block now.depth scope a x h (shallow_body deep 1 scope a x (deeper_too now.depth (look scope x) h)) in
      ended_block now.depth between b x one (shallow_body deep 1 between b x (deeper_too now.depth (look between x) one))
  shallow_deed now scope (loop y e f grain g es) x h = shallow_moves now.depth (look scope x) (look (looped scope y) x) (looped_moves scope y x) h
  shallow_deed now scope (give e) x h = h

  pub shallow_body : (depth place : ℕ) (scope : Scope) (b : Body) (x : ℕ) → Shallow depth (look scope x) → Shallow depth (look (after_body depth place scope b) x)
  shallow_body depth place scope end x h = h
  shallow_body depth place scope (step n d rest) x h = shallow_body depth (place + 1) (after_deed (moment depth place) scope d) rest x (shallow_deed (moment depth place) scope d x h)

pub shallow_block : (depth : ℕ) (scope : Scope) (b : Body) (x : ℕ) → Shallow depth (look scope x) → Shallow depth (look (after_block (depth + 1) scope b) x)
shallow_block depth scope b x h = ended_block depth scope b x h (shallow_body (depth + 1) 1 scope b x (deeper_too depth (look scope x) h))
