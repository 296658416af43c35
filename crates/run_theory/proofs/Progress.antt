-- A run that has not come to its end goes on: where no strand is held, two neighbours may be folded.
use Rattle.std.proofs.Common.{◌⊎◌, ◌++◌, append-nil, inl, inr, ℕ, suc, ℤ, List, [], ◌∷◌, length, Some, ◌≡◌, refl, sym, ap, ◌∙◌, subst, true, false, Bool, not, ◌&&◌, eq-eqb}
use Rattle.meaning.specs.Tables.{Tables}
use Rattle.meaning.specs.Outcome.{Fault, Place}
use Rattle.meaning.specs.Elision.{Answer, Finished, Faulted}
use Rattle.meaning.specs.Records.{Revised}
use Rattle.meaning.specs.SmallStep.{root, is_entry, Frame, leaving, broken, Parent, Continuation}
use Rattle.meaning.specs.Layers.{Notes}
use Rattle.meaning.specs.Strands.{State, Held, Ended, Stalled, is_held, holds_by, done, waits}
use Rattle.meaning.specs.Strands as strands
use Rattle.meaning.specs.Schedules.{Memory, Piece, first_state, path, place_of, is_idle, answer_by, answer_of_pieces}
use Rattle.trail_theory.specs.Order.{Every}
use Rattle.trail_theory.specs.TaskFits.{Fringe, Higher}
use Rattle.run_theory.specs.RightRuns.{front, IsLaid, flags_of, deque_flags, count, LayerIsClosed}
use Rattle.strand_theory.specs.Ready.{IsReady}
use Rattle.run_theory.specs.Progress.{LaidRunsGoOn, SomeStepIsThere}
use Rattle.strand_theory.proofs.Names.{both_true}
use Rattle.run_theory.proofs.Steps.{FitPiece, FitAll}
use Rattle.run_theory.proofs.Paths.{begins_root, paths_right}
use Rattle.run_theory.proofs.Ascending.{not_root}
use Rattle.run_theory.proofs.Telling.{at_root, is_last}
use Rattle.run_theory.proofs.Neighbours.{over_named, neighbours}
use Rattle.run_theory.proofs.LaidDown.{LaidFits, Laid, Filled, paths_laid}
use Rattle.run_theory.proofs.Holders.{holders_go_on}

abbrev NotHeld : Piece → Type 0
NotHeld p = is_held p.state ≡ false

-- two neighbours that may be folded by their states
record Pair (ps : List Piece) : Type 0 where
  before : List Piece
  later : List Piece
  left : Piece
  right : Piece
  is : ps ≡ before ++ left ∷ right ∷ later
  ended : done left.state ≡ true
  waiting : waits right.state ≡ true

behind_first : (p : Piece) (ps : List Piece) → Pair ps → Pair (p ∷ ps)
behind_first p ps h = record { before = p ∷ h.before; later = h.later; left = h.left; right = h.right; is = ap (λ l. p ∷ l) h.is; ended = h.ended; waiting = h.waiting }

at_first : (l r : Piece) (ps : List Piece) → done l.state ≡ true → waits r.state ≡ true → Pair (l ∷ r ∷ ps)
at_first l r ps d w = record { before = []; later = ps; left = l; right = r; is = refl; ended = d; waiting = w }

module _ (program : Revised) (tables : Tables) (memory : Memory) where
  -- the last strand has not ended as a child
  no_last : (first : Bool) (p : Piece) (found later : List Bool) → FitPiece program tables memory first p found later [] → Laid p → p.state ≡ Ended → ⊥
  no_last first p found later i l e =
      let over = subst (λ st. IsLaid st p.strand p.deque) e i.laid in
      let named = over_named program tables memory first p found later [] i (λ k q. let z : leaving over.value ≡ broken k = sym over.phase ∙ q in cc) over.under over.deque in
      subst (λ st. LaidFits st p.strand) e l named

  -- only the first strand finishes
  not_finished : (p : Piece) (found later : List Bool) (e : Place) → FitPiece program tables memory false p found later e → Laid p → p.state ≡ strands.Finished → ⊥
  not_finished p found later e i l q =
      let over = subst (λ st. IsLaid st p.strand p.deque) q i.laid in
      let v = subst (λ st. LaidFits st p.strand) q l in
      elim i.fits [
        | inr c ↦ let z : leaving v.0 ≡ broken c.fault = sym v.1 ∙ c.phase in absurd cc
        | inl h ↦
            let higher : Higher p.strand.start p.strand.frame.instance = subst (Fringe p.strand.start p.strand.frame.instance p.strand.frame.next) v.1 h.right.task.fringe in
            not_root p.strand.start i.begins (at_root program tables memory p.strand.start p.strand.frame.instance higher over.main)
      ]

  pair_by : (l q : Piece) (ps : List Piece) (found later : List Bool) (e : Place) → done l.state ≡ true → FitPiece program tables memory false q found later e → Laid q → is_held q.state ≡ false → (q.state ≡ Ended → Pair (l ∷ q ∷ ps))
      → (st : State) → q.state ≡ st → Pair (l ∷ q ∷ ps)
  pair_by l q ps found later e d i a n next (Held w) s = let z : is_held q.state ≡ true = ap is_held s in absurd cc
  pair_by l q ps found later e d i a n next Ended s = next s
  pair_by l q ps found later e d i a n next Stalled s = at_first l q ps d (ap waits s)
  pair_by l q ps found later e d i a n next strands.Faulted s = at_first l q ps d (ap waits s)
  pair_by l q ps found later e d i a n next strands.Finished s = absurd (not_finished q found later e i a s)

  pair_from : (l q : Piece) (ps : List Piece) (found : List Bool) → done l.state ≡ true → FitAll program tables memory false (q ∷ ps) found → Every Laid (q ∷ ps) → Every NotHeld (q ∷ ps) → Pair (l ∷ q ∷ ps)
  pair_from l q [] found d h a n = pair_by l q [] found h.0 [] d h.1 a.0 n.0 (λ s. absurd (no_last false q found h.0 h.1 a.0 s)) q.state refl
  pair_from l q (r ∷ ps) found d h a n =
      pair_by l q (r ∷ ps) found h.0 (place_of r) d h.1 a.0 n.0 (λ s. behind_first l (q ∷ r ∷ ps) (pair_from q r ps h.0 (ap done s) h.2 a.1 n.1)) q.state refl

  -- ---- the first strand

  one_layer : (ls : List Notes) → length ls ≡ 1 → (l : Notes) × (ls ≡ l ∷ [])
  one_layer [] e = absurd cc
  one_layer (l ∷ []) e = (l, refl)
  one_layer (l ∷ m ∷ ls) e = absurd cc

  abbrev Ends : List Piece → Type 0
  Ends ps = (a : Answer) × (answer_of_pieces ps ≡ Some a)

  faulted_ends : (p : Piece) → p.state ≡ strands.Faulted → (k : Fault) → p.strand.phase ≡ broken k → Ends (p ∷ [])
  faulted_ends p s k q = (Faulted k, ap (λ st. answer_by st p.strand.phase p.strand.layers) s ∙ ap (λ ph. answer_by strands.Faulted ph p.strand.layers) q)

  finished_ends : (p : Piece) → p.state ≡ strands.Finished → (v : ℤ) → p.strand.phase ≡ leaving v → (l : Notes) → p.strand.layers ≡ l ∷ [] → Ends (p ∷ [])
  finished_ends p s v q l e =
      (Finished v l.worth, ap (λ st. answer_by st p.strand.phase p.strand.layers) s ∙ ap (λ ph. answer_by strands.Finished ph p.strand.layers) q ∙ ap (answer_by strands.Finished (leaving v)) e)

  abbrev EndsOrFolds : List Piece → Type 0
  EndsOrFolds ps = Ends ps ⊎ Pair ps

  done_first : (p : Piece) (ps : List Piece) (found : List Bool) → FitAll program tables memory true (p ∷ ps) found → Every Laid (p ∷ ps) → Every NotHeld (p ∷ ps) → done p.state ≡ true → (ps ≡ [] → EndsOrFolds (p ∷ [])) → EndsOrFolds (p ∷ ps)
  done_first p [] found h a n d alone = alone refl
  done_first p (q ∷ ps) found h a n d alone = inr (pair_from p q ps h.0 d h.2 a.1 n.1)

  -- a strand that has left main has one layer
  one_flag : (fr : Frame) (t : List Parent) (ks : List Continuation) (later own : List Bool) → t ≡ [] → ks ≡ [] → later ≡ [] → fr.recorded ≡ false → (flags_of fr t ++ deque_flags ks) ++ later ≡ own ++ [] → count own ≡ 0
  one_flag fr [] [] [] own a b c r e = let z : own ≡ false ∷ [] = sym (append-nil own) ∙ sym e ∙ ap (λ w. w ∷ []) r in ap count z
  one_flag fr (p ∷ t) ks later own a b c r e = absurd cc
  one_flag fr [] (k ∷ ks) later own a b c r e = absurd cc
  one_flag fr [] [] (f ∷ later) own a b c r e = absurd cc

  finished_goes : (p : Piece) (ps : List Piece) → FitAll program tables memory true (p ∷ ps) [] → Laid p → p.state ≡ strands.Finished → EndsOrFolds (p ∷ ps)
  finished_goes p ps h a s =
      let over = subst (λ st. IsLaid st p.strand p.deque) s h.1.laid in
      let v = subst (λ st. LaidFits st p.strand) s a in
      let named = over_named program tables memory true p [] h.0 (front ps) h.1 (λ k q. let z : leaving v.0 ≡ broken k = sym v.1 ∙ q in cc) over.under over.deque in
      let last = is_last program tables memory h.0 ps h.2 (sym named ∙ over.main) in
      elim h.1.fits [
        | inr c ↦ let z : leaving v.0 ≡ broken c.fault = sym v.1 ∙ c.phase in absurd cc
        | inl w ↦
            let none : h.0 ≡ [] = subst (λ qs. FitAll program tables memory false qs h.0) last h.2 in
            let closed : p.strand.frame.recorded ≡ false = subst (λ ph. LayerIsClosed ph p.strand.frame.recorded) v.1 w.closed in
            let none_own = one_flag p.strand.frame p.strand.under p.deque h.0 w.own over.under over.deque none closed w.flags in
            let l = one_layer p.strand.layers (w.layers ∙ ap suc none_own) in
            subst (λ qs. EndsOrFolds (p ∷ qs)) (sym last) (inl (finished_ends p s v.0 v.1 l.0 l.1))
      ]

  first_goes : (p : Piece) (ps : List Piece) → FitAll program tables memory true (p ∷ ps) [] → Every Laid (p ∷ ps) → Every NotHeld (p ∷ ps) → (st : State) → p.state ≡ st → EndsOrFolds (p ∷ ps)
  first_goes p ps h a n (Held w) s = let z : is_held p.state ≡ true = ap is_held s in let y = n.0 in absurd cc
  first_goes p ps h a n Stalled s =
      let stalled = subst (λ st. IsLaid st p.strand p.deque) s h.1.laid in
      let z : is_entry root p.strand.frame.instance ≡ true = subst (λ m. is_entry m p.strand.frame.instance ≡ true) (begins_root p.strand.start h.1.begins) stalled.entry in
      absurd cc
  first_goes p ps h a n Ended s =
      done_first p ps [] h a n (ap done s) (λ e. absurd (no_last true p [] h.0 (subst (λ qs. FitPiece program tables memory true p [] h.0 (front qs)) e h.1) a.0 s))
  first_goes p ps h a n strands.Faulted s =
      done_first p ps [] h a n (ap done s) (λ e. let f = subst (λ st. IsLaid st p.strand p.deque) s h.1.laid in inl (faulted_ends p s f.fault f.phase))
  first_goes p ps h a n strands.Finished s = finished_goes p ps h a.0 s

  pieces_go : (ps : List Piece) → Filled ps → FitAll program tables memory true ps [] → Every Laid ps → Every NotHeld ps → EndsOrFolds ps
  pieces_go [] f h a n = absurd f
  pieces_go (p ∷ ps) f h a n = first_goes p ps h a n p.state refl

  -- ---- whole runs

  not_idle_by : (w : ℕ) (st : State) → is_held st ≡ false → not (holds_by w st) ≡ true
  not_idle_by w (Held v) e = absurd cc
  not_idle_by w Ended e = refl
  not_idle_by w Stalled e = refl
  not_idle_by w strands.Faulted e = refl
  not_idle_by w strands.Finished e = refl

  all_idle : (w : ℕ) (ps : List Piece) → Every NotHeld ps → is_idle w ps ≡ true
  all_idle w [] n = refl
  all_idle w (p ∷ ps) n = both_true (not (holds_by w p.state)) (is_idle w ps) (not_idle_by w p.state n.0) (all_idle w ps n.1)

  -- some strand is held, or none
  abbrev HeldOrNot : List Piece → Type 0
  HeldOrNot ps = ((v : ℕ) × (is_idle v ps ≡ false)) ⊎ Every NotHeld ps

  never_both : (a b : Bool) → b ≡ false → a && b ≡ false
  never_both true b e = e
  never_both false b e = refl

  held_there : (v : ℕ) (st : State) (b : Bool) → st ≡ Held v → not (holds_by v st) && b ≡ false
  held_there v st b e = ap (λ s. not (holds_by v s) && b) e ∙ ap (λ c. not c && b) (eq-eqb v v refl)

  held_first : (p : Piece) (ps : List Piece) → HeldOrNot ps → (st : State) → p.state ≡ st → HeldOrNot (p ∷ ps)
  held_first p ps (inl h) st s = inl (h.0, never_both (not (holds_by h.0 p.state)) (is_idle h.0 ps) h.1)
  held_first p ps (inr h) (Held v) s = inl (v, held_there v p.state (is_idle v ps) s)
  held_first p ps (inr h) Ended s = inr (ap is_held s, h)
  held_first p ps (inr h) Stalled s = inr (ap is_held s, h)
  held_first p ps (inr h) strands.Faulted s = inr (ap is_held s, h)
  held_first p ps (inr h) strands.Finished s = inr (ap is_held s, h)

  held_or_not : (ps : List Piece) → HeldOrNot ps
  held_or_not [] = inr tt
  held_or_not (p ∷ ps) = held_first p ps (held_or_not ps) p.state refl

  module _ (ready : IsReady program tables memory) where
    pub laid_runs_go_on : LaidRunsGoOn program tables memory
    laid_runs_go_on kits es w n =
        let s = path program tables memory (first_state program.tree kits) es in
        let laid = paths_laid program tables memory kits es in
        elim (pieces_go s.pieces laid.0 (paths_right program tables memory ready kits es) laid.1 n) [
          | inl e ↦ inl e
          | inr h ↦
              let idle = all_idle w s.pieces n in
              inr (record { idle = idle; place = place_of h.right; taken = neighbours program tables memory ready kits es h.before h.later h.left h.right w h.is h.ended h.waiting idle })
        ]

    pub some_step_is_there : SomeStepIsThere program tables memory
    some_step_is_there kits es w =
        let s = path program tables memory (first_state program.tree kits) es in
        elim (held_or_not s.pieces) [
          | inl h ↦ inr (inl (h.0, h.1, holders_go_on program tables memory ready kits es h.0 h.1))
          | inr n ↦ elim (laid_runs_go_on kits es w n) [ inl e ↦ inl e | inr f ↦ inr (inr f) ]
        ]
