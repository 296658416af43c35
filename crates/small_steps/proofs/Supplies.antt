-- Steps with a free kit and without, and the kits that they take and give back.
use Rattle.std.proofs.Common.{◌≡◌, ℕ, suc, ◌<◌, ◌≤◌, Bool, true, false, List, [], ◌∷◌, length, Result, Ok, Err, OnOk, refl, ap, sym, ◌∙◌, ◌+◌, ◌⊎◌, inl, inr, arith}
use Rattle.monoid_laws.specs.declared.Kind.{Kind}
use Rattle.positions.specs.Layers.{PlainLayer, below_top}
use Rattle.positions.specs.Tallies.{PlainOpened, is_own}
use Rattle.small_steps.specs.Steps.{HoldsBy, KeepsKits}

module _ (lacks none : Type 0) where
  -- a step that asks for no kit
  pub either_way : (P : Bool → Type 0) → ((kit : Bool) → P kit) → HoldsBy lacks none P
  either_way P h = record { kit = true; done = h true; with_kit = λ l. h true; without_kit = λ n. h false }

  pub holds_as : (P Q : Bool → Type 0) → ((kit : Bool) → P kit → Q kit) → HoldsBy lacks none P → HoldsBy lacks none Q
  holds_as P Q f h = record { kit = h.kit; done = f h.kit h.done; with_kit = λ l. f true (h.with_kit l); without_kit = λ n. f false (h.without_kit n) }

  pub holds_on : {A E : Type 0} (P Q : Bool → Type 0) → ((kit : Bool) → P kit → Q kit) → (r : Result A E) → OnOk r (HoldsBy lacks none P) → OnOk r (HoldsBy lacks none Q)
  holds_on P Q f (Ok a) h = holds_as P Q f h
  holds_on P Q f (Err e) h = h

  pub either_on : {A E : Type 0} (P : Type 0) (Q : Bool → Type 0) → (P → (kit : Bool) → Q kit) → (r : Result A E) → OnOk r P → OnOk r (HoldsBy lacks none Q)
  either_on P Q f (Ok a) h = either_way Q (f h)
  either_on P Q f (Err e) h = h

module _ {S : Type 0} (fits gives : List Kind → S → Type 0) (free total : S → ℕ) (kinds : List Kind) (kits : S) where
  -- no kit was taken or given back
  pub kits_stay : (before after : List PlainLayer) → ((k : List Kind) → gives k kits → k ≡ kinds) → after ≡ before → KeepsKits fits gives free total kinds kits kits before after
  kits_stay before after given e = record { count = λ room. ap (λ ls. length ls + free kits) e; all = refl; fitting = λ k h. h; given = given }

-- the layer of an open instance lies on another
pub owned_lies : (opened : List PlainOpened) (lower : List PlainLayer) (n : ℕ) → is_own opened n ≡ true → length opened ≡ length lower → 0 < length lower
owned_lies [] lower n h e = absurd cc
owned_lies (o ∷ os) lower n h e = omega arith

gives_or : (Now Before : Type 0) (home kinds k : List Kind) → home ≡ kinds → (Before → k ≡ kinds) → (Now → Before ⊎ home ≡ k) → Now → k ≡ kinds
gives_or Now Before home kinds k e b f now = from (f now)
  where
    from : Before ⊎ home ≡ k → k ≡ kinds
    from (inl h) = b h
    from (inr h) = sym h ∙ e

module _ {S : Type 0} (fits gives : List Kind → S → Type 0) (free total : S → ℕ) (kinds home : List Kind) (old new : S) where
  count_home : (before : List PlainLayer) → 0 < length before → suc (length before) + free old ≤ total old → (free old < total old → free new ≡ suc (free old))
      → length (below_top before) + free new ≡ length before + free old
  count_home [] h room sent = absurd (omega arith)
  count_home (l ∷ ls) h room sent = let e : free new ≡ suc (free old) = sent (omega arith) in omega arith

  -- the topmost layer's kit came home
  pub one_home : (before after : List PlainLayer) → 0 < length before → after ≡ below_top before → home ≡ kinds
      → ((k : List Kind) → fits k old → fits k new) → ((k : List Kind) → gives k new → gives k old ⊎ home ≡ k) → (free old < total old → free new ≡ suc (free old)) → total new ≡ total old
      → ((k : List Kind) → gives k old → k ≡ kinds) → KeepsKits fits gives free total kinds old new before after
  one_home before after some low e fitting kept sent all given = record {
    count = λ room. rw low (count_home before some room sent);
    all = all;
    fitting = fitting;
    given = λ k. gives_or (gives k new) (gives k old) home kinds k e (given k) (kept k);
  }
