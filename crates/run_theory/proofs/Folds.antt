-- A fold keeps a run right.
use Rattle.std.proofs.Common.{◌&&◌, cond, ℕ, suc, ℤ, List, [], ◌∷◌, ◌++◌, length, append_assoc, Option, Some, None, ◌≡◌, inl, inr, refl, sym, ap, ◌∙◌, subst, true, false, Bool}
use Rattle.meaning.specs.Tables.{Tables}
use Rattle.meaning.specs.Outcome.{Fault, Place}
use Rattle.meaning.specs.Records.{Revised}
use Rattle.meaning.specs.Trail.{child_of}
use Rattle.meaning.specs.SmallStep.{waits, has, Start, root, behind, same_name, is_entry, Frame, Phase, entering, running, spawning, returning, leaving, broken, Parent, Continuation}
use Rattle.meaning.specs.Layers.{Notes}
use Rattle.meaning.specs.LayeredStrand.{settled_frame, settled_under, joined, LayeredStrand}
use Rattle.meaning.specs.RestOfRun.{lowest}
use Rattle.meaning.specs.Strands.{State, Held, Ended, Stalled, BookStep, Fold}
use Rattle.meaning.specs.Strands as strands
use Rattle.meaning.specs.Tallies.{Tally}
use Rattle.meaning.specs.Schedules.{Memory, Piece, place_of, place_of_start, may_join, broken_pair, joined_pair, folded_by, folded, folded_among, folded_at}
use Rattle.trail_theory.specs.Right.{MayJoin, StretchesMultiply}
use Rattle.trail_theory.proofs.Theorems.{joins}
use Rattle.run_theory.specs.RightRuns.{front, under_flags, flags_of, count, IsStalled, IsLaid}
use Rattle.strand_theory.specs.Faults.{BrokenAt}
use Rattle.run_theory.proofs.Flags.{higher_long}
use Rattle.run_theory.proofs.Owned.{take_length, own_tail, owns_one}
use Rattle.run_theory.proofs.Pieces.{ForSome, either, replaced, FitAfter, behind_long}
use Rattle.strand_theory.proofs.Broken.{broken_behind}
use Rattle.strand_theory.proofs.Names.{both_are, same_name_true}
use Rattle.run_theory.proofs.Steps.{piece_of, FitPiece, FitAll, Whole}
use Rattle.strand_theory.proofs.Laws.{S, L}
use Rattle.strand_theory.proofs.Folds.{may_join_true, pair_sound}
use Rattle.run_theory.proofs.Stalls.{broken_of, entry_none}

-- ---- what a fold settles

under_settled : (e : Place) (v : ℤ) (t : List Parent) → under_flags (settled_under e v t) ≡ under_flags t
under_settled e v [] = refl
under_settled e v (p ∷ t) = ap (λ u. p.frame.recorded ∷ u) (under_settled e v t)

lowest_settled : (e : Place) (v : ℤ) (fr : Frame) (t : List Parent) → lowest (settled_frame e v fr) (settled_under e v t) ≡ lowest fr t
lowest_settled e v fr [] = refl
lowest_settled e v fr (p ∷ t) = lowest_settled e v p.frame t

module _ (program : Revised) (tables : Tables) (memory : Memory) where
  -- ---- two neighbours become one

  abbrev pub Joined : Bool → List Bool → List Bool → Piece → Place → Piece → Type 0
  Joined first found later l e q = (place_of q ≡ place_of l) × FitPiece program tables memory first q found later e

  -- where one has a fault
  broken_to : (w : ℕ) (first : Bool) (found mid later : List Bool) (l r : Piece) (e e' : Place) (k : Fault) → FitPiece program tables memory first l found mid e → BrokenAt program.tree tables (S program tables memory) (L program tables memory) l.strand.start k → (n : ℕ) → length l.strand.layers ≡ suc n
      → ForSome (Joined first found later l e') (folded_by program tables memory w l r (Some (broken_pair program tables memory l.strand r.strand k)))
  broken_to w first found mid later l r e e' k i b n q = (
    refl,
    record {
      begins = i.begins;
      as_long = i.as_long;
      fits = inr (record { fault = k; phase = refl; first = b; deque = refl; upper = n; layers = q });
      deque = tt;
      laid = tt;
    },
  )

  pub over_of : (st : State) (s : LayeredStrand) (ks : List Continuation) (v : ℤ) → strands.done st ≡ true → s.phase ≡ leaving v → IsLaid st s ks → (s.under ≡ []) × (ks ≡ [])
  over_of (Held w) s ks v d e h = absurd cc
  over_of Ended s ks v d e h = (h.under, h.deque)
  over_of Stalled s ks v d e h = absurd cc
  over_of strands.Faulted s ks v d e h = absurd (let q : leaving v ≡ broken h.fault = sym e ∙ h.phase in cc)
  over_of strands.Finished s ks v d e h = absurd cc

  pub stalled_of : (st : State) (s : LayeredStrand) (ks : List Continuation) → strands.waits st ≡ true → ((k : Fault) → s.phase ≡ broken k → ⊥) → IsLaid st s ks → IsStalled s ks
  stalled_of (Held w) s ks d n h = absurd cc
  stalled_of Ended s ks d n h = absurd cc
  stalled_of Stalled s ks d n h = h
  stalled_of strands.Faulted s ks d n h = absurd (n h.fault h.phase)
  stalled_of strands.Finished s ks d n h = absurd cc

  module _ (law : StretchesMultiply program.tree tables (S program tables memory) (L program tables memory)) (w : ℕ) where
    -- a strand that is over, and a sound one that begins there
    join_to : (first : Bool) (found mid later : List Bool) (ps : List Piece) (m : Start) (ls : List Notes) (fr : Frame) (v : ℤ) (st : State) (ta : Tally) (n : Place) (c : ℕ) (noted : Notes) (rfr : Frame) (rph : Phase) (rt : List Parent) (rst : State) (rta : Tally)
        → let l = piece_of m ls fr (leaving v) [] [] st ta in
        let r = piece_of (behind n c) (noted ∷ []) rfr rph rt [] rst rta in
        FitPiece program tables memory first l found mid (child_of n c) → Whole program tables memory l found mid (child_of n c) → FitPiece program tables memory false r mid later (front ps) → Whole program tables memory r mid later (front ps) → FitAll program tables memory false ps later
        → is_entry (behind n c) rfr.instance ≡ true → fr.instance ≡ child_of n c → MayJoin l.strand (joined program.tree l.strand v r.strand)
        → ForSome (Joined first found later l (front ps)) (folded_by program tables memory w l r (Some (joined program.tree l.strand v r.strand)))
    join_to first found mid later ps m ls fr v st ta n c noted rfr rph rt rst rta i h j g rest entry named may =
        let l = piece_of m ls fr (leaving v) [] [] st ta in
        let r = piece_of (behind n c) (noted ∷ []) rfr rph rt [] rst rta in
        let long = j.as_long in
        let one = owns_one program.tree tables (S program tables memory) (L program tables memory) l found mid (child_of n c) h i.deque long i.as_long (higher_long m fr.instance h.right.task.fringe) in
        let o = own_tail h.own mid found fr.recorded one h.closed h.flags in
        let none = entry_none program tables memory false r mid later (front ps) j g (behind_long program.tree tables (S program tables memory) (L program tables memory) false ps later rest) entry in
        let across : (flags_of rfr rt ++ []) ++ later ≡ mid = g.flags ∙ ap (λ u. u ++ mid) none in (
          refl,
          record {
            begins = i.begins;
            as_long = i.as_long;
            fits = inl (record {
              right = joins program.tree tables (S program tables memory) (L program tables memory) law l.strand r.strand v n c noted refl refl refl named refl may h.right g.right;
              links = lowest_settled fr.instance v rfr rt ∙ g.links;
              own = o.after;
              flags = ap (λ u. ((rfr.recorded ∷ u) ++ []) ++ later) (under_settled fr.instance v rt) ∙ across ∙ o.flags;
              layers = take_length program.tree noted ls ∙ h.layers ∙ ap suc (sym o.counted);
              closed = g.closed;
            });
            deque = tt;
            laid = tt;
          },
        )

    join_over : (first : Bool) (found mid later : List Bool) (ps : List Piece) (m : Start) (ls : List Notes) (fr : Frame) (v : ℤ) (t : List Parent) (ks : List Continuation) (st : State) (ta : Tally) (rm : Start) (rls : List Notes) (rfr : Frame) (rph : Phase) (rt : List Parent) (rks : List Continuation) (rst : State) (rta : Tally)
        → let l = piece_of m ls fr (leaving v) t ks st ta in
        let r = piece_of rm rls rfr rph rt rks rst rta in
        FitPiece program tables memory first l found mid (place_of r) → Whole program tables memory l found mid (place_of r) → FitPiece program tables memory false r mid later (front ps) → Whole program tables memory r mid later (front ps) → FitAll program tables memory false ps later
        → t ≡ [] → ks ≡ [] → rks ≡ [] → length rls ≡ 1 → is_entry rm rfr.instance ≡ true → fr.instance ≡ place_of_start rm → MayJoin l.strand (joined program.tree l.strand v r.strand)
        → ForSome (Joined first found later l (front ps)) (folded_by program tables memory w l r (Some (joined program.tree l.strand v r.strand)))
    join_over first found mid later ps m ls fr v [] [] st ta (behind n c) (noted ∷ []) rfr rph rt [] rst rta i h j g rest a b d e entry named may =
        join_to first found mid later ps m ls fr v st ta n c noted rfr rph rt rst rta i h j g rest entry named may
    join_over first found mid later ps m ls fr v [] [] st ta root (noted ∷ []) rfr rph rt [] rst rta i h j g rest a b d e entry named may = absurd j.begins
    join_over first found mid later ps m ls fr v [] [] st ta rm [] rfr rph rt [] rst rta i h j g rest a b d e entry named may = absurd cc
    join_over first found mid later ps m ls fr v [] [] st ta rm (x ∷ y ∷ rls) rfr rph rt [] rst rta i h j g rest a b d e entry named may = absurd cc
    join_over first found mid later ps m ls fr v [] [] st ta rm rls rfr rph rt (k ∷ rks) rst rta i h j g rest a b d e entry named may = absurd cc
    join_over first found mid later ps m ls fr v [] (k ∷ ks) st ta rm rls rfr rph rt rks rst rta i h j g rest a b d e entry named may = absurd cc
    join_over first found mid later ps m ls fr v (p ∷ t) ks st ta rm rls rfr rph rt rks rst rta i h j g rest a b d e entry named may = absurd cc

    join_where : (first : Bool) (found mid later : List Bool) (ps : List Piece) (m : Start) (ls : List Notes) (fr : Frame) (v : ℤ) (t : List Parent) (ks : List Continuation) (st : State) (ta : Tally) (r : Piece)
        → let l = piece_of m ls fr (leaving v) t ks st ta in
        FitPiece program tables memory first l found mid (place_of r) → Whole program tables memory l found mid (place_of r) → FitPiece program tables memory false r mid later (front ps) → Whole program tables memory r mid later (front ps) → FitAll program tables memory false ps later
        → strands.done st ≡ true → strands.waits r.state ≡ true → ((k : Fault) → r.strand.phase ≡ broken k → ⊥)
        → (b : Bool) → same_name fr.instance (place_of r) && may_join program tables memory l.strand (joined program.tree l.strand v r.strand) ≡ b
        → ForSome (Joined first found later l (front ps)) (folded_by program tables memory w l r (cond b (Some (joined program.tree l.strand v r.strand)) None))
    join_where first found mid later ps m ls fr v t ks st ta r i h j g rest d wt n false e = tt
    join_where first found mid later ps m ls fr v t ks st ta r i h j g rest d wt n true e =
        let l = piece_of m ls fr (leaving v) t ks st ta in
        let x = both_are (same_name fr.instance (place_of r)) (may_join program tables memory l.strand (joined program.tree l.strand v r.strand)) e in
        let o = over_of st l.strand ks v d refl i.laid in
        let s = stalled_of r.state r.strand r.deque wt n j.laid in
        join_over first found mid later ps m ls fr v t ks st ta r.strand.start r.strand.layers r.strand.frame r.strand.phase r.strand.under r.deque r.state r.tally i h j g rest
        o.0 o.1 s.deque s.one_layer s.entry (same_name_true fr.instance (place_of r) x.0) (may_join_true program tables memory l.strand (joined program.tree l.strand v r.strand) x.1)

    join_sound : (first : Bool) (found mid later : List Bool) (ps : List Piece) (m : Start) (ls : List Notes) (fr : Frame) (v : ℤ) (t : List Parent) (ks : List Continuation) (st : State) (ta : Tally) (r : Piece)
        → let l = piece_of m ls fr (leaving v) t ks st ta in
        FitPiece program tables memory first l found mid (place_of r) → FitPiece program tables memory false r mid later (front ps) → FitAll program tables memory false ps later
        → strands.done st ≡ true → strands.waits r.state ≡ true → ((k : Fault) → r.strand.phase ≡ broken k → ⊥)
        → ForSome (Joined first found later l (front ps)) (folded_by program tables memory w l r (joined_pair program tables memory l.strand (leaving v) r.strand r.strand.phase))
    join_sound first found mid later ps m ls fr v t ks st ta r i j rest d wt n =
        let l = piece_of m ls fr (leaving v) t ks st ta in
        subst (λ o. ForSome (Joined first found later l (front ps)) (folded_by program tables memory w l r o)) (sym (pair_sound program tables memory l.strand r.strand v r.strand.phase n))
        (elim i.fits [
          | inr c ↦ absurd (let q : leaving v ≡ broken c.fault = c.phase in cc)
          | inl h ↦ elim j.fits [
            | inr c ↦ absurd (n c.fault c.phase)
            | inl g ↦ join_where first found mid later ps m ls fr v t ks st ta r i h j g rest d wt n (same_name fr.instance (place_of r) && may_join program tables memory l.strand (joined program.tree l.strand v r.strand)) refl
          ]
        ])

    -- the right one has a fault
    fault_over : (first : Bool) (found mid later : List Bool) (e : Place) (m : Start) (ls : List Notes) (fr : Frame) (v : ℤ) (t : List Parent) (ks : List Continuation) (st : State) (ta : Tally) (rm : Start) (rls : List Notes) (rfr : Frame) (k : Fault) (rt : List Parent) (rks : List Continuation) (rst : State) (rta : Tally)
        → let l = piece_of m ls fr (leaving v) t ks st ta in
        let r = piece_of rm rls rfr (broken k) rt rks rst rta in
        FitPiece program tables memory first l found mid (place_of r) → Whole program tables memory l found mid (place_of r) → FitPiece program tables memory false r mid later e → t ≡ [] → fr.instance ≡ place_of_start rm
        → ForSome (Joined first found later l e) (folded_by program tables memory w l r (Some (broken_pair program tables memory l.strand r.strand k)))
    fault_over first found mid later e m ls fr v (p ∷ t) ks st ta rm rls rfr k rt rks rst rta i h j a named = absurd cc
    fault_over first found mid later e m ls fr v [] ks st ta root rls rfr k rt rks rst rta i h j a named = absurd j.begins
    fault_over first found mid later e m ls fr v [] ks st ta (behind n c) rls rfr k rt rks rst rta i h j a named =
        let l = piece_of m ls fr (leaving v) [] ks st ta in
        let r = piece_of (behind n c) rls rfr (broken k) rt rks rst rta in
        let b = broken_of program tables memory false (behind n c) rls rfr k rt rks rst rta mid later e j in
        broken_to w first found mid later l r (child_of n c) e k i (broken_behind program.tree tables (S program tables memory) (L program tables memory) m ls fr v n c k h.right named b.0) (count h.own) h.layers

    fault_where : (first : Bool) (found mid later : List Bool) (e : Place) (m : Start) (ls : List Notes) (fr : Frame) (v : ℤ) (t : List Parent) (ks : List Continuation) (st : State) (ta : Tally) (rm : Start) (rls : List Notes) (rfr : Frame) (k : Fault) (rt : List Parent) (rks : List Continuation) (rst : State) (rta : Tally)
        → let l = piece_of m ls fr (leaving v) t ks st ta in
        let r = piece_of rm rls rfr (broken k) rt rks rst rta in
        FitPiece program tables memory first l found mid (place_of r) → FitPiece program tables memory false r mid later e → strands.done st ≡ true → (b : Bool) → same_name fr.instance (place_of_start rm) ≡ b
        → ForSome (Joined first found later l e) (folded_by program tables memory w l r (cond b (Some (broken_pair program tables memory l.strand r.strand k)) None))
    fault_where first found mid later e m ls fr v t ks st ta rm rls rfr k rt rks rst rta i j d false q = tt
    fault_where first found mid later e m ls fr v t ks st ta rm rls rfr k rt rks rst rta i j d true q =
        let l = piece_of m ls fr (leaving v) t ks st ta in
        let o = over_of st l.strand ks v d refl i.laid in
        elim i.fits [
          | inr c ↦ absurd (let z : leaving v ≡ broken c.fault = c.phase in cc)
          | inl h ↦ fault_over first found mid later e m ls fr v t ks st ta rm rls rfr k rt rks rst rta i h j o.0 (same_name_true fr.instance (place_of_start rm) q)
        ]

    pair_to : (first : Bool) (found mid later : List Bool) (ps : List Piece) (m : Start) (ls : List Notes) (fr : Frame) (ph : Phase) (t : List Parent) (ks : List Continuation) (st : State) (ta : Tally) (rm : Start) (rls : List Notes) (rfr : Frame) (rph : Phase) (rt : List Parent) (rks : List Continuation) (rst : State) (rta : Tally)
        → let l = piece_of m ls fr ph t ks st ta in
        let r = piece_of rm rls rfr rph rt rks rst rta in
        FitPiece program tables memory first l found mid (place_of r) → FitPiece program tables memory false r mid later (front ps) → FitAll program tables memory false ps later → strands.done st ≡ true → strands.waits rst ≡ true
        → ForSome (Joined first found later l (front ps)) (folded_by program tables memory w l r (joined_pair program tables memory l.strand ph r.strand rph))
    pair_to first found mid later ps m ls fr (broken k) t ks st ta rm rls rfr rph rt rks rst rta i j rest d wt =
        let b = broken_of program tables memory first m ls fr k t ks st ta found mid (place_of_start rm) i in
        broken_to w first found mid later (piece_of m ls fr (broken k) t ks st ta) (piece_of rm rls rfr rph rt rks rst rta) (place_of_start rm) (front ps) k i b.0 b.1.0 b.1.1
    pair_to first found mid later ps m ls fr (leaving v) t ks st ta rm rls rfr (broken k) rt rks rst rta i j rest d wt =
        fault_where first found mid later (front ps) m ls fr v t ks st ta rm rls rfr k rt rks rst rta i j d (same_name fr.instance (place_of_start rm)) refl
    pair_to first found mid later ps m ls fr (leaving v) t ks st ta rm rls rfr (entering child) rt rks rst rta i j rest d wt = join_sound first found mid later ps m ls fr v t ks st ta (piece_of rm rls rfr (entering child) rt rks rst rta) i j rest d wt (λ k e. cc)
    pair_to first found mid later ps m ls fr (leaving v) t ks st ta rm rls rfr (running todo) rt rks rst rta i j rest d wt = join_sound first found mid later ps m ls fr v t ks st ta (piece_of rm rls rfr (running todo) rt rks rst rta) i j rest d wt (λ k e. cc)
    pair_to first found mid later ps m ls fr (leaving v) t ks st ta rm rls rfr (spawning x y z u) rt rks rst rta i j rest d wt = join_sound first found mid later ps m ls fr v t ks st ta (piece_of rm rls rfr (spawning x y z u) rt rks rst rta) i j rest d wt (λ k e. cc)
    pair_to first found mid later ps m ls fr (leaving v) t ks st ta rm rls rfr (returning u) rt rks rst rta i j rest d wt = join_sound first found mid later ps m ls fr v t ks st ta (piece_of rm rls rfr (returning u) rt rks rst rta) i j rest d wt (λ k e. cc)
    pair_to first found mid later ps m ls fr (leaving v) t ks st ta rm rls rfr (leaving u) rt rks rst rta i j rest d wt = join_sound first found mid later ps m ls fr v t ks st ta (piece_of rm rls rfr (leaving u) rt rks rst rta) i j rest d wt (λ k e. cc)
    pair_to first found mid later ps m ls fr (entering child) t ks st ta rm rls rfr rph rt rks rst rta i j rest d wt = tt
    pair_to first found mid later ps m ls fr (running todo) t ks st ta rm rls rfr rph rt rks rst rta i j rest d wt = tt
    pair_to first found mid later ps m ls fr (spawning x y z u) t ks st ta rm rls rfr rph rt rks rst rta i j rest d wt = tt
    pair_to first found mid later ps m ls fr (returning u) t ks st ta rm rls rfr rph rt rks rst rta i j rest d wt = tt

    fold_pair : (first : Bool) (found mid later : List Bool) (ps : List Piece) (l r : Piece) → FitPiece program tables memory first l found mid (place_of r) → FitPiece program tables memory false r mid later (front ps) → FitAll program tables memory false ps later
        → ForSome (Joined first found later l (front ps)) (folded program tables memory w l r)
    fold_pair first found mid later ps l r i j rest =
        either (Joined first found later l (front ps)) (strands.done l.state && strands.waits r.state) (folded_by program tables memory w l r (joined_pair program tables memory l.strand l.strand.phase r.strand r.strand.phase)) None
        (λ e.
        let x = both_are (strands.done l.state) (strands.waits r.state) e in
        pair_to first found mid later ps l.strand.start l.strand.layers l.strand.frame l.strand.phase l.strand.under l.deque l.state l.tally r.strand.start r.strand.layers r.strand.frame r.strand.phase r.strand.under r.deque r.state r.tally i j rest x.0 x.1)
        tt

    fold_among : (kits : ℕ) (before : List Piece) (l r : Piece) (ps : List Piece) (history : List BookStep) (step : BookStep) (o : Option Piece)
        → ((first : Bool) (found mid later : List Bool) → FitPiece program tables memory first l found mid (place_of r) → FitPiece program tables memory false r mid later (front ps) → FitAll program tables memory false ps later → ForSome (Joined first found later l (front ps)) o)
        → (first : Bool) (found : List Bool) → FitAll program tables memory first (before ++ l ∷ r ∷ ps) found → ForSome (FitAfter program.tree tables (S program tables memory) (L program tables memory) first found) (folded_among program tables memory w kits before ps history step o)
    fold_among kits before l r ps history step None k first found h = tt
    fold_among kits before l r ps history step (Some p) k first found h =
        (replaced program.tree tables (S program tables memory) (L program tables memory) before (l ∷ r ∷ ps) (p ∷ ps) (λ first found h. let x = k first found h.0 h.2.0 h.1 h.2.1 h.2.2 in (x.0, (h.2.0, x.1, h.2.2))) first found h).1

    pub folds_fit : (q : Place) (kits : ℕ) (before ps : List Piece) (history : List BookStep) (first : Bool) (found : List Bool) → FitAll program tables memory first (before ++ ps) found
        → ForSome (FitAfter program.tree tables (S program tables memory) (L program tables memory) first found) (folded_at program tables memory w q kits before ps history)
    folds_fit q kits before [] history first found h = tt
    folds_fit q kits before (l ∷ []) history first found h = tt
    folds_fit q kits before (l ∷ r ∷ ps) history first found h =
        either (FitAfter program.tree tables (S program tables memory) (L program tables memory) first found) (same_name (place_of r) q)
        (folded_among program tables memory w kits before ps history (Fold (place_of l) (place_of r) w) (folded program tables memory w l r))
        (folded_at program tables memory w q kits (before ++ l ∷ []) (r ∷ ps) history)
        (λ e. fold_among kits before l r ps history (Fold (place_of l) (place_of r) w) (folded program tables memory w l r) (λ first found mid later i j rest. fold_pair first found mid later ps l r i j rest) first found h)
        (folds_fit q kits (before ++ l ∷ []) (r ∷ ps) history first found (subst (λ u. FitAll program tables memory first u found) (sym (append_assoc before (l ∷ []) (r ∷ ps))) h))
