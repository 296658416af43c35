-- A stall keeps a run right.
use Rattle.std.proofs.Common.{◌&&◌, ◌+◌, ◌≤◌, ℕ, suc, ℤ, List, [], ◌∷◌, length, ◌≡◌, inl, inr, refl, sym, ap, ◌∙◌, subst, arith, true, false, Bool, nat_lt}
use Rattle.meaning.specs.Tables.{Tables}
use Rattle.meaning.specs.Outcome.{Fault, Place}
use Rattle.meaning.specs.Records.{Revised}
use Rattle.meaning.specs.SmallStep.{Start, root, behind, is_entry, Frame, Phase, entering, running, spawning, returning, leaving, broken, Parent, at_spawn, at_sync, returned, faulted, Step, moved, taken, paused, Continuation}
use Rattle.meaning.specs.Layers.{Notes}
use Rattle.meaning.specs.Strands.{State}
use Rattle.meaning.specs.Tallies.{Tally}
use Rattle.meaning.specs.Schedules.{Memory, Piece, place_of, place_of_start, step_of, bottom_alone, left_by, stalled_by, stalled_at, stalled}
use Rattle.run_theory.specs.RightRuns.{front, count}
use Rattle.strand_theory.specs.Faults.{BrokenAt}
use Rattle.run_theory.proofs.Flags.{child_long, Shifts}
use Rattle.run_theory.proofs.Owned.{whole_long}
use Rattle.run_theory.proofs.Pieces.{ForSome, behind_long}
use Rattle.strand_theory.proofs.Broken.{right_broken}
use Rattle.strand_theory.proofs.Names.{same_name_true}
use Rattle.run_theory.proofs.Steps.{piece_of, FitPiece, FitAll, Whole, Put, Keeps, shifts_of}
use Rattle.strand_theory.proofs.Laws.{S, L}

-- a strand that stands at its entry is a step above its place
entry_long : (m : Start) (n : Place) → is_entry m n ≡ true → length (place_of_start m) ≡ suc (length n)
entry_long root n e = absurd cc
entry_long (behind m k) n e = child_long m k ∙ ap (λ l. suc (length l)) (same_name_true m n e)

none_own : (own : List Bool) → length own ≡ 0 → own ≡ []
none_own [] e = refl
none_own (b ∷ own) e = cc

cut_fault : (k j : Fault) → broken k ≡ broken j → k ≡ j
cut_fault k j e = cc

module _ (program : Revised) (tables : Tables) (memory : Memory) where
  pub bottom_one : (ls : List Notes) (n : ℕ) → length ls ≡ suc n → length (bottom_alone program tables memory ls) ≡ 1
  bottom_one [] n e = omega (arith, e)
  bottom_one (l ∷ []) n e = refl
  bottom_one (l ∷ k ∷ ls) n e = bottom_one (k ∷ ls) (length ls) refl

  -- the fault of a strand that has one, and that it has a layer
  pub broken_of : (first : Bool) (m : Start) (ls : List Notes) (fr : Frame) (k : Fault) (t : List Parent) (ks : List Continuation) (st : State) (ta : Tally) (found later : List Bool) (e : Place)
      → FitPiece program tables memory first (piece_of m ls fr (broken k) t ks st ta) found later e → BrokenAt program.tree tables (S program tables memory) (L program tables memory) m k × ((n : ℕ) × (length ls ≡ suc n))
  broken_of first m ls fr k t ks st ta found later e i =
      elim i.fits [
        | inl h ↦ (right_broken program.tree tables (S program tables memory) (L program tables memory) m ls fr k t h.right, (count h.own, h.layers))
        | inr c ↦ (let q : k ≡ c.fault = cut_fault k c.fault c.phase in subst (λ j. BrokenAt program.tree tables (S program tables memory) (L program tables memory) m j) (sym q) c.first, (c.upper, c.layers))
      ]

  -- at its entry a strand has one layer
  pub entry_none : (first : Bool) (p : Piece) (found later : List Bool) (e : Place) → FitPiece program tables memory first p found later e → (h : Whole program tables memory p found later e) → length later ≡ length e → is_entry p.strand.start p.strand.frame.instance ≡ true → h.own ≡ []
  entry_none first p found later e i h l q =
      let a : length h.own + length found ≡ suc (length p.strand.frame.instance) = whole_long program.tree tables (S program tables memory) (L program tables memory) p found later e h i.deque l in
      let b : length (place_of p) ≡ suc (length p.strand.frame.instance) = entry_long p.strand.start p.strand.frame.instance q in
      let c : length found ≡ length (place_of p) = i.as_long in
      none_own h.own (omega arith)

  module _ (kits w : ℕ) where
    left_to : (first : Bool) (found later : List Bool) (ps : List Piece) (m : Start) (ls : List Notes) (fr : Frame) (v : ℤ) (st : State) (ta : Tally)
        → FitPiece program tables memory first (piece_of m ls fr (leaving v) [] [] st ta) found later (front ps) → Whole program tables memory (piece_of m ls fr (leaving v) [] [] st ta) found later (front ps) → FitAll program tables memory false ps later → (n : Place) → fr.instance ≡ n
        → ForSome (Put program tables memory first found (piece_of m ls fr (leaving v) [] [] st ta) ps) (left_by program tables memory kits (piece_of m ls fr (leaving v) [] [] st ta) n)
    left_to first found later ps m ls fr v st ta i h rest [] e = (
      refl,
      (
        later,
        record {
          begins = i.begins;
          as_long = i.as_long;
          fits = inl (record { right = h.right; links = h.links; own = h.own; flags = h.flags; layers = h.layers; closed = h.closed });
          deque = tt;
          laid = record { under = refl; main = e; deque = refl };
        },
        rest,
      ),
    )
    left_to first found later ps m ls fr v st ta i h rest (a ∷ n) e = (
      refl,
      (
        later,
        record {
          begins = i.begins;
          as_long = i.as_long;
          fits = inl (record { right = h.right; links = h.links; own = h.own; flags = h.flags; layers = h.layers; closed = h.closed });
          deque = tt;
          laid = record { value = v; phase = refl; under = refl; deque = refl };
        },
        rest,
      ),
    )

    -- a strand with a fault is laid down
    fault_to : (first : Bool) (found later : List Bool) (ps : List Piece) (m : Start) (ls : List Notes) (fr : Frame) (k : Fault) (t : List Parent) (ks : List Continuation) (st : State) (ta : Tally)
        → FitPiece program tables memory first (piece_of m ls fr (broken k) t ks st ta) found later (front ps) → FitAll program tables memory false ps later → BrokenAt program.tree tables (S program tables memory) (L program tables memory) m k → (n : ℕ) → length ls ≡ suc n
        → ForSome (Put program tables memory first found (piece_of m ls fr (broken k) t ks st ta) ps) (stalled_at program tables memory kits (piece_of m ls fr (broken k) t ks st ta) (broken k) t ks)
    fault_to first found later ps m ls fr k t ks st ta i rest b n e = (
      refl,
      (
        later,
        record {
          begins = i.begins;
          as_long = i.as_long;
          fits = inr (record { fault = k; phase = refl; first = b; deque = refl; upper = 0; layers = bottom_one ls n e });
          deque = tt;
          laid = record { fault = k; phase = refl; one_layer = bottom_one ls n e; deque = refl };
        },
        rest,
      ),
    )

    sync_to : (first : Bool) (found later : List Bool) (ps : List Piece) (m : Start) (ls : List Notes) (fr : Frame) (ph : Phase) (t : List Parent) (st : State) (ta : Tally)
        → FitPiece program tables memory first (piece_of m ls fr ph t [] st ta) found later (front ps) → Whole program tables memory (piece_of m ls fr ph t [] st ta) found later (front ps) → FitAll program tables memory false ps later
        → (s : Step) → (R : Type 0) → Shifts m (memory.recording && nat_lt 0 kits) R fr t s
        → ForSome (Put program tables memory first found (piece_of m ls fr ph t [] st ta) ps) (stalled_by program tables memory kits (piece_of m ls fr ph t [] st ta) s)
    sync_to first found later ps m ls fr ph t st ta i h rest (moved l evs fr' ph' t') R s = tt
    sync_to first found later ps m ls fr ph t st ta i h rest (taken evs k fr' ph' t') R s = tt
    sync_to first found later ps m ls fr ph t st ta i h rest (paused at_spawn) R s = tt
    sync_to first found later ps m ls fr ph t st ta i h rest (paused returned) R s = tt
    sync_to first found later ps m ls fr ph t st ta i h rest (paused faulted) R s = tt
    sync_to first found later ps m ls fr ph t st ta i h rest (paused at_sync) R s =
        let p = piece_of m ls fr ph t [] st ta in
        let none = entry_none first p found later (front ps) i h (behind_long program.tree tables (S program tables memory) (L program tables memory) false ps later rest) s in (
          refl,
          (
            later,
            record {
              begins = i.begins;
              as_long = i.as_long;
              fits = inl (record { right = h.right; links = h.links; own = h.own; flags = h.flags; layers = h.layers; closed = h.closed });
              deque = tt;
              laid = record { one_layer = h.layers ∙ ap (λ own. suc (count own)) none; entry = s; deque = refl };
            },
            rest,
          ),
        )

    sync_or : (first : Bool) (found later : List Bool) (ps : List Piece) (m : Start) (ls : List Notes) (fr : Frame) (ph : Phase) (t : List Parent) (st : State) (ta : Tally)
        → ((k : Fault) → ph ≡ broken k → ⊥) → FitPiece program tables memory first (piece_of m ls fr ph t [] st ta) found later (front ps) → FitAll program tables memory false ps later
        → ForSome (Put program tables memory first found (piece_of m ls fr ph t [] st ta) ps) (stalled_by program tables memory kits (piece_of m ls fr ph t [] st ta) (step_of program tables memory kits (piece_of m ls fr ph t [] st ta).strand))
    sync_or first found later ps m ls fr ph t st ta sound i rest =
        let p = piece_of m ls fr ph t [] st ta in
        elim i.fits [
          | inl h ↦ sync_to first found later ps m ls fr ph t st ta i h rest (step_of program tables memory kits p.strand) (length (place_of p) ≤ length fr.instance) (shifts_of program tables memory kits p found later (front ps) h)
          | inr c ↦ absurd (sound c.fault c.phase)
        ]

    stall_at : (first : Bool) (found later : List Bool) (ps : List Piece) (m : Start) (ls : List Notes) (fr : Frame) (ph : Phase) (t : List Parent) (ks : List Continuation) (st : State) (ta : Tally)
        → FitPiece program tables memory first (piece_of m ls fr ph t ks st ta) found later (front ps) → FitAll program tables memory false ps later
        → ForSome (Put program tables memory first found (piece_of m ls fr ph t ks st ta) ps) (stalled_at program tables memory kits (piece_of m ls fr ph t ks st ta) ph t ks)
    stall_at first found later ps m ls fr (broken k) t ks st ta i rest =
        let b = broken_of first m ls fr k t ks st ta found later (front ps) i in
        fault_to first found later ps m ls fr k t ks st ta i rest b.0 b.1.0 b.1.1
    stall_at first found later ps m ls fr (leaving v) [] [] st ta i rest =
        elim i.fits [ inl h ↦ left_to first found later ps m ls fr v st ta i h rest fr.instance refl | inr c ↦ absurd (let e : leaving v ≡ broken c.fault = c.phase in cc) ]
    stall_at first found later ps m ls fr (leaving v) [] (k ∷ ks) st ta i rest = tt
    stall_at first found later ps m ls fr (leaving v) (p ∷ t) [] st ta i rest = sync_or first found later ps m ls fr (leaving v) (p ∷ t) st ta (λ k e. cc) i rest
    stall_at first found later ps m ls fr (leaving v) (p ∷ t) (k ∷ ks) st ta i rest = tt
    stall_at first found later ps m ls fr (entering child) t [] st ta i rest = sync_or first found later ps m ls fr (entering child) t st ta (λ k e. cc) i rest
    stall_at first found later ps m ls fr (entering child) t (k ∷ ks) st ta i rest = tt
    stall_at first found later ps m ls fr (running todo) t [] st ta i rest = sync_or first found later ps m ls fr (running todo) t st ta (λ k e. cc) i rest
    stall_at first found later ps m ls fr (running todo) t (k ∷ ks) st ta i rest = tt
    stall_at first found later ps m ls fr (spawning d x child todo) t [] st ta i rest = sync_or first found later ps m ls fr (spawning d x child todo) t st ta (λ k e. cc) i rest
    stall_at first found later ps m ls fr (spawning d x child todo) t (k ∷ ks) st ta i rest = tt
    stall_at first found later ps m ls fr (returning v) t [] st ta i rest = sync_or first found later ps m ls fr (returning v) t st ta (λ k e. cc) i rest
    stall_at first found later ps m ls fr (returning v) t (k ∷ ks) st ta i rest = tt

    pub stalls_fit : Keeps program tables memory w (stalled program tables memory kits)
    stalls_fit first found later p ps held i rest =
        stall_at first found later ps p.strand.start p.strand.layers p.strand.frame p.strand.phase p.strand.under p.deque p.state p.tally i rest
