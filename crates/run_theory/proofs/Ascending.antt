-- The places of a run's pieces ascend, and each place that was split off lies in one piece.
use Rattle.std.proofs.Common.{List, [], ◌∷◌, ◌++◌, map, ◌≡◌, ◌⊎◌, inl, inr, refl, sym, ap, ◌∙◌, subst, true, false, Bool}
use Rattle.meaning.specs.Outcome.{Fault, Place}
use Rattle.meaning.specs.SmallStep.{Start, root, behind, broken}
use Rattle.meaning.specs.Schedules.{Piece, place_of, place_of_start, line_of}
use Rattle.trail_theory.specs.Order.{LeavesBefore}
use Rattle.trail_theory.proofs.Places.{order_strict, no_end}
use Rattle.run_theory.specs.RightRuns.{front, Begins}
use Rattle.run_theory.proofs.Lefts.{LeftOf, point, before_trans}
use Rattle.strand_theory.proofs.Books.{NoneAt, other_bytes}

-- the first piece begins before every name
abbrev pub Order : Bool → Place → Place → Type 0
Order true n e = Unit {0}
Order false n e = LeavesBefore n e

abbrev pub Asc : Bool → List Piece → Type 0
Asc first [] = Unit {0}
Asc first (p ∷ ps) = Begins first p.strand.start × Order first (place_of p) (front ps) × Asc false ps

-- a strand with a fault that has given up its deque
abbrev pub Gone : Piece → Type 0
Gone p = (p.deque ≡ []) × ((k : Fault) × (p.strand.phase ≡ broken k))

abbrev pub Since : Bool → Place → Place → Type 0
Since true n u = Unit {0}
Since false n u = (u ≡ n) ⊎ LeavesBefore n u

-- the instance of that name was left in the strand
pub record UsedIn (first : Bool) (p : Piece) (e u : Place) : Type 0 where
  pub since : Since first (place_of p) u
  pub until : LeavesBefore u e
  pub left : Gone p ⊎ LeftOf u (point p.strand.frame)

abbrev pub Covered : Bool → List Piece → Place → Type 0
Covered first [] u = ⊥
Covered first (p ∷ ps) u = UsedIn first p (front ps) u ⊎ Covered false ps u

-- ---- no two pieces begin at one place

pub not_root : (m : Start) → Begins false m → place_of_start m ≡ [] → ⊥
not_root root b e = b
not_root (behind m k) b e = no_end m k [] (sym e)

is_root_place : (m : Start) → Begins true m → place_of_start m ≡ []
is_root_place root b = refl
is_root_place (behind m k) b = absurd b

pub reaches : (before : List Piece) (q p : Piece) (ps : List Piece) → Asc false (q ∷ (before ++ p ∷ ps)) → LeavesBefore (place_of q) (place_of p)
reaches [] q p ps h = h.1
reaches (r ∷ before) q p ps h = before_trans (place_of q) (place_of r) (place_of p) h.1 (reaches before r p ps h.2)

pub begins_later : (before : List Piece) (p : Piece) (ps : List Piece) → Asc false (before ++ p ∷ ps) → Begins false p.strand.start
begins_later [] p ps h = h.0
begins_later (q ∷ before) p ps h = begins_later before p ps h.2

differs : (first : Bool) (before : List Piece) (q p : Piece) (ps : List Piece) → Asc first (q ∷ (before ++ p ∷ ps)) → place_of q ≡ place_of p → ⊥
differs true before q p ps h e = not_root p.strand.start (begins_later before p ps h.2) (sym e ∙ is_root_place q.strand.start h.0)
differs false before q p ps h e = order_strict (place_of p) (subst (λ u. LeavesBefore u (place_of p)) e (reaches before q p ps h))

pub none_before : (first : Bool) (before : List Piece) (p : Piece) (ps : List Piece) → Asc first (before ++ p ∷ ps) → NoneAt (place_of p) (map line_of before)
none_before first [] p ps h = tt
none_before first (q ∷ before) p ps h = (other_bytes (place_of q) (place_of p) (differs first before q p ps h), none_before false before p ps h.2)

pub none_later : (first : Bool) (p : Piece) (before ps : List Piece) → Asc first (p ∷ (before ++ ps)) → NoneAt (place_of p) (map line_of ps)
none_later first p before [] h = tt
none_later first p before (q ∷ ps) h =
    (other_bytes (place_of q) (place_of p) (λ e. differs first before p q ps h (sym e)), none_later first p (before ++ q ∷ []) ps (subst (λ l. Asc first (p ∷ l)) (sym (shift before q ps)) h))
  where
    shift : (a : List Piece) (q : Piece) (b : List Piece) → (a ++ q ∷ []) ++ b ≡ a ++ q ∷ b
    shift [] q b = refl
    shift (x ∷ a) q b = ap (λ l. x ∷ l) (shift a q b)

-- ---- other pieces in place of some

pub same_front : (before old new : List Piece) → front new ≡ front old → front (before ++ new) ≡ front (before ++ old)
same_front [] old new e = e
same_front (q ∷ before) old new e = refl

pub asc_replaced : (before old new : List Piece) → front new ≡ front old → ((first : Bool) → Asc first old → Asc first new) → (first : Bool) → Asc first (before ++ old) → Asc first (before ++ new)
asc_replaced [] old new e k first h = k first h
asc_replaced (q ∷ before) old new e k first h = (h.0, subst (λ n. Order first (place_of q) n) (sym (same_front before old new e)) h.1, asc_replaced before old new e k false h.2)

pub covered_replaced : (before old new : List Piece) (u : Place) → front new ≡ front old → ((first : Bool) → Asc first old → Covered first old u → Covered first new u) → (first : Bool) → Asc first (before ++ old) → Covered first (before ++ old) u → Covered first (before ++ new) u
covered_replaced [] old new u e k first a h = k first a h
covered_replaced (q ∷ before) old new u e k first a (inl h) = inl (subst (λ n. UsedIn first q n u) (sym (same_front before old new e)) h)
covered_replaced (q ∷ before) old new u e k first a (inr h) = inr (covered_replaced before old new u e k false a.2 h)

-- ---- a new place

later_than : (ps : List Piece) (n u : Place) → LeavesBefore n (front ps) → Asc false ps → Covered false ps u → LeavesBefore n u
later_than [] n u l a h = absurd h
later_than (q ∷ ps) n u l a (inl h) = from h.since
  where
    from : (u ≡ place_of q) ⊎ LeavesBefore (place_of q) u → LeavesBefore n u
    from (inl e) = subst (λ w. LeavesBefore n w) (sym e) l
    from (inr b) = before_trans n (place_of q) u l b
later_than (q ∷ ps) n u l a (inr h) = later_than ps n u (before_trans n (place_of q) (front ps) l a.1) a.2 h

sooner_than : (before : List Piece) (p : Piece) (ps : List Piece) (u : Place) → LeavesBefore u (front (before ++ p ∷ ps)) → Asc false (before ++ p ∷ ps) → LeavesBefore u (place_of p)
sooner_than [] p ps u l a = l
sooner_than (r ∷ before) p ps u l a = before_trans u (place_of r) (place_of p) l (reaches before r p ps a)

not_same : (u n : Place) → LeavesBefore u n → u ≡ n → ⊥
not_same u n l e = order_strict n (subst (λ w. LeavesBefore w n) e l)

pub is_fresh : (before : List Piece) (p : Piece) (ps : List Piece) (n u : Place) → ((first : Bool) → UsedIn first p (front ps) u → u ≡ n → ⊥) → ((first : Bool) → Begins first p.strand.start → Order first (place_of p) n) → LeavesBefore n (front ps)
    → (first : Bool) → Asc first (before ++ p ∷ ps) → Covered first (before ++ p ∷ ps) u → u ≡ n → ⊥
is_fresh [] p ps n u local order l first a (inl h) e = local first h e
is_fresh [] p ps n u local order l first a (inr h) e = not_same n u (later_than ps n u l a.2 h) (sym e)
is_fresh (q ∷ before) p ps n u local order l first a (inl h) e =
    not_same u n (before_trans u (place_of p) n (sooner_than before p ps u h.until a.2) (order false (begins_later before p ps a.2))) e
is_fresh (q ∷ before) p ps n u local order l first a (inr h) e = is_fresh before p ps n u local order l false a.2 h e
