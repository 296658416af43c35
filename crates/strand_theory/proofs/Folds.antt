-- What a fold of two strands asks, by comparison: of the names that wait, and of the names of the two.
use Rattle.std.proofs.Common.{◌&&◌, not, cond, lt-ltb, eq-eqb, nat_eq, ℕ, ℤ, List, [], ◌∷◌, Some, None, ◌≡◌, inl, inr, refl, sym, subst, true, false, Bool, nat_lt}
use Rattle.meaning.specs.Tables.{Tables}
use Rattle.meaning.specs.Outcome.{Fault, Place}
use Rattle.meaning.specs.Records.{Revised}
use Rattle.meaning.specs.Trail.{child_of}
use Rattle.meaning.specs.SmallStep.{Slot, unset, waits, has, Start, root, behind, same_name, Frame, Phase, entering, running, spawning, returning, leaving, broken, Parent}
use Rattle.meaning.specs.LayeredStrand.{joined, LayeredStrand}
use Rattle.meaning.specs.Schedules.{Memory, place_of_start, leaves_before, ends_after, would_wait, none_waits, none_waits_under, may_join, joined_pair}
use Rattle.meaning.specs.Every.{every}
use Rattle.trail_theory.specs.Order.{LeavesBefore, Every}
use Rattle.trail_theory.specs.Right.{EndsAfter, NoneWaits, NoneWaitsUnder, MayJoin}
use Rattle.strand_theory.proofs.Names.{both_are, or_right, or_left, both_true}

-- ---- what a fold asks of the names that wait

every_true : {A : Type 0} (test : A → Bool) (P : A → Type 0) → ((x : A) → test x ≡ true → P x) → (xs : List A) → every test xs ≡ true → Every P xs
every_true test P k [] e = tt
every_true test P k (x ∷ xs) e = let h = both_are (test x) (every test xs) e in (k x h.0, every_true test P k xs h.1)

module _ (program : Revised) (tables : Tables) (memory : Memory) where
  leaves_true : (p c : Place) → LeavesBefore p c → leaves_before program tables memory p c ≡ true
  leaves_true [] c h = absurd h
  leaves_true (a ∷ p) [] h = refl
  leaves_true (a ∷ p) (b ∷ c) (inl l) = or_left (nat_lt a b) (nat_eq a b && leaves_before program tables memory p c) (lt-ltb a b l)
  leaves_true (a ∷ p) (b ∷ c) (inr h) =
      or_right (nat_lt a b) (nat_eq a b && leaves_before program tables memory p c) (both_true (nat_eq a b) (leaves_before program tables memory p c) (eq-eqb a b h.0) (leaves_true p c h.1))

  ends_true : (m : Start) (c : Place) → EndsAfter m c → ends_after program tables memory m c ≡ true
  ends_true root c h = refl
  ends_true (behind m k) c h = leaves_true (child_of m k) c h

  none_ends : (b : Bool) → not b ≡ true → b ≡ true → ⊥
  none_ends true e f = cc
  none_ends false e f = cc

  slot_none : (m : Start) (n : Place) (s : Slot) → not (would_wait program tables memory m n s) ≡ true → (j : ℕ) → s ≡ waits j → EndsAfter m (child_of n j) → ⊥
  slot_none m n unset e j q h = cc
  slot_none m n (has v) e j q h = cc
  slot_none m n (waits i) e j q h =
      let r : i ≡ j = cc in
      none_ends (ends_after program tables memory m (child_of n i)) e (subst (λ z. ends_after program tables memory m (child_of n z) ≡ true) (sym r) (ends_true m (child_of n j) h))

  frame_none : (m : Start) (fr : Frame) → none_waits program tables memory m fr ≡ true → NoneWaits m fr
  frame_none m fr e = every_true (λ s. not (would_wait program tables memory m fr.instance s)) (λ s. (j : ℕ) → s ≡ waits j → EndsAfter m (child_of fr.instance j) → ⊥) (λ s f. slot_none m fr.instance s f) fr.env e

  under_none : (m : Start) (t : List Parent) → none_waits_under program tables memory m t ≡ true → NoneWaitsUnder m t
  under_none m [] e = tt
  under_none m (p ∷ t) e = let h = both_are (none_waits program tables memory m p.frame) (none_waits_under program tables memory m t) e in (frame_none m p.frame h.0, under_none m t h.1)

  pub may_join_true : (l r : LayeredStrand) → may_join program tables memory l r ≡ true → MayJoin l r
  may_join_true l r e =
      let h = both_are (none_waits program tables memory l.start r.frame) (none_waits_under program tables memory l.start r.under) e in
      (frame_none l.start r.frame h.0, under_none l.start r.under h.1)

  pub pair_sound : (l r : LayeredStrand) (v : ℤ) (q : Phase) → ((k : Fault) → q ≡ broken k → ⊥)
      → joined_pair program tables memory l (leaving v) r q ≡ cond (same_name l.frame.instance (place_of_start r.start) && may_join program tables memory l (joined program.tree l v r)) (Some (joined program.tree l v r)) None
  pair_sound l r v (entering child) n = refl
  pair_sound l r v (running todo) n = refl
  pair_sound l r v (spawning d x child todo) n = refl
  pair_sound l r v (returning u) n = refl
  pair_sound l r v (leaving u) n = refl
  pair_sound l r v (broken k) n = absurd (n k refl)
