-- A step changes one piece, or two neighbours, and leaves the others as they are.
use Rattle.std.proofs.Common.{ℕ, List, [], ◌∷◌, ◌++◌, length, append_assoc, Option, Some, None, ◌≡◌, refl, sym, ap, subst, true, false, Bool, cond}
use Rattle.meaning.specs.Tree.{Tree}
use Rattle.meaning.specs.Tables.{Tables}
use Rattle.meaning.specs.Outcome.{Accumulators}
use Rattle.meaning.specs.SmallStep.{Lookup, Continuation}
use Rattle.meaning.specs.LayeredStrand.{LayeredStrand}
use Rattle.meaning.specs.Strands.{State, Held, Ended, Stalled, holds_by, BookStep}
use Rattle.meaning.specs.Strands as strands
use Rattle.meaning.specs.Schedules.{Piece, RunState, Change, place_of, is_held_by, among, changed}
use Rattle.run_theory.specs.RightRuns.{front, IsLaid, IsPiece, PiecesFit}

-- where there is one
abbrev pub ForSome : {A : Type 0} → (A → Type 0) → Option A → Type 0
ForSome P None = Unit {0}
ForSome P (Some a) = P a

pub some_is : {A : Type 0} (P : A → Type 0) (o : Option A) (a : A) → ForSome P o → o ≡ Some a → P a
some_is P o a h e = subst (ForSome P) e h

pub either : {A : Type 0} (P : A → Type 0) (b : Bool) (x y : Option A) → (b ≡ true → ForSome P x) → ForSome P y → ForSome P (cond b x y)
either P true x y h k = h refl
either P false x y h k = k

-- nothing is claimed of a strand that is held
pub held_any : (w : ℕ) (st : State) (s : LayeredStrand) (ks : List Continuation) → holds_by w st ≡ true → IsLaid st s ks
held_any w (Held v) s ks e = tt
held_any w Ended s ks e = absurd cc
held_any w Stalled s ks e = absurd cc
held_any w strands.Faulted s ks e = absurd cc
held_any w strands.Finished s ks e = absurd cc

module _ (program : Tree) (tables : Tables) (sight : Accumulators) (lookup : Lookup) where
  abbrev pub Fit : Bool → List Piece → List Bool → Type 0
  Fit = PiecesFit program tables sight lookup

  pub behind_long : (first : Bool) (ps : List Piece) (found : List Bool) → Fit first ps found → length found ≡ length (front ps)
  behind_long first [] found h = ap length h
  behind_long first (p ∷ ps) found h = h.1.as_long

  pub replaced : (before old new : List Piece) → ((first : Bool) (found : List Bool) → Fit first old found → (front new ≡ front old) × Fit first new found)
      → (first : Bool) (found : List Bool) → Fit first (before ++ old) found → (front (before ++ new) ≡ front (before ++ old)) × Fit first (before ++ new) found
  replaced [] old new k first found h = k first found h
  replaced (q ∷ before) old new k first found h =
      let r = replaced before old new k false h.0 h.2 in
      (refl, (h.0, subst (λ e. IsPiece program tables sight lookup first q found h.0 e) (sym r.0) h.1, r.1))

  -- what a change makes of a piece fits in its place
  abbrev pub Replaces : Bool → List Bool → Piece → List Piece → Change → Type 0
  Replaces first found p ps c = (front (c.pieces ++ ps) ≡ place_of p) × Fit first (c.pieces ++ ps) found

  abbrev pub KeepsFit : ℕ → (Piece → Option Change) → Type 0
  KeepsFit w change = (first : Bool) (found later : List Bool) (p : Piece) (ps : List Piece) → is_held_by w p ≡ true → IsPiece program tables sight lookup first p found later (front ps) → Fit false ps later → ForSome (Replaces first found p ps) (change p)

  abbrev pub FitAfter : Bool → List Bool → RunState → Type 0
  FitAfter first found t = Fit first t.pieces found

  among_fits : (before : List Piece) (p : Piece) (ps : List Piece) (history : List BookStep) (o : Option Change)
      → ((first : Bool) (found later : List Bool) → IsPiece program tables sight lookup first p found later (front ps) → Fit false ps later → ForSome (Replaces first found p ps) o)
      → (first : Bool) (found : List Bool) → Fit first (before ++ p ∷ ps) found → ForSome (FitAfter first found) (among before ps history o)
  among_fits before p ps history None k first found h = tt
  among_fits before p ps history (Some c) k first found h = (replaced before (p ∷ ps) (c.pieces ++ ps) (λ first found h. k first found h.0 h.1 h.2) first found h).1

  pub changed_fits : (w : ℕ) (change : Piece → Option Change) → KeepsFit w change → (before ps : List Piece) (history : List BookStep) (first : Bool) (found : List Bool) → Fit first (before ++ ps) found → ForSome (FitAfter first found) (changed w change before ps history)
  changed_fits w change k before [] history first found h = tt
  changed_fits w change k before (p ∷ ps) history first found h =
      either (FitAfter first found) (is_held_by w p) (among before ps history (change p)) (changed w change (before ++ p ∷ []) ps history)
      (λ e. among_fits before p ps history (change p) (λ first found later i r. k first found later p ps e i r) first found h)
      (changed_fits w change k (before ++ p ∷ []) ps history first found (subst (λ l. Fit first l found) (sym (append_assoc before (p ∷ []) ps)) h))
