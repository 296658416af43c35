-- Neighbours that may be folded by their states are: no name that waits stands against it.
use Rattle.std.proofs.Common.{◌+◌, ◌⊎◌, ◌++◌, append_assoc, ℕ, ℤ, List, [], ◌∷◌, map, Option, Some, None, ◌≡◌, inl, inr, refl, sym, ap, ◌∙◌, subst, true, false, Bool, cond, not, ◌&&◌, ◌||◌, nat_lt, nat_eq, ltb-true, eqb-true, bytes_eq}
use Rattle.meaning.specs.Tables.{Tables}
use Rattle.meaning.specs.Every.{every}
use Rattle.meaning.specs.Outcome.{Fault, Place}
use Rattle.meaning.specs.Trail.{child_of}
use Rattle.meaning.specs.Records.{Revised}
use Rattle.meaning.specs.SmallStep.{Slot, unset, waits, has, Start, root, behind, same_name, leaving, broken, Parent, Continuation}
use Rattle.meaning.specs.LayeredStrand.{LayeredStrand, settled_frame, settled_under, joined}
use Rattle.meaning.specs.RestOfRun.{lowest}
use Rattle.meaning.specs.Strands.{State, Held, Ended, Stalled, BookStep, Fold}
use Rattle.meaning.specs.Strands as strands
use Rattle.meaning.specs.Schedules.{Memory, Piece, RunState, RunStep, fold, first_state, place_of, place_of_start, line_of, is_idle, leaves_before, ends_after, would_wait, none_waits, none_waits_under, may_join, broken_pair, joined_pair, folded_by, folded, folded_among, folded_at, if_idle, after_step, path}
use Rattle.trail_theory.specs.Order.{LeavesBefore}
use Rattle.trail_theory.specs.Right.{EndsAfter}
use Rattle.trail_theory.proofs.Places.{order_strict, order_one_way, same_name_refl}
use Rattle.run_theory.specs.RightRuns.{front, Begins, Links, IsLaid}
use Rattle.strand_theory.specs.Ready.{IsReady}
use Rattle.run_theory.specs.Theorems.{NeighboursFold}
use Rattle.strand_theory.proofs.Names.{both_are, both_true, same_name_true}
use Rattle.run_theory.proofs.Lefts.{before_trans}
use Rattle.strand_theory.proofs.Books.{NoneAt, same_bytes}
use Rattle.run_theory.proofs.Ascending.{Order, Gone, Asc, none_before}
use Rattle.run_theory.proofs.Steps.{FitPiece, FitAll}
use Rattle.run_theory.proofs.Folds.{over_of}
use Rattle.strand_theory.proofs.Folds.{pair_sound}
use Rattle.run_theory.proofs.Kits.{inner}
use Rattle.run_theory.proofs.Telling.{broken_or}
use Rattle.run_theory.proofs.Awaited.{SlotsWait, UnderWait}
use Rattle.run_theory.proofs.Waits.{Own, Knows, Waiting, WaitsFit, known_at, first_at, fit_at, asc_at}
use Rattle.run_theory.proofs.WaitsOn.{Nothing, settled_slots, settled_parents, Runs, runs_from_first}

-- ---- what is known was left before

abbrev Early : Bool → Place → Place → Type 0
Early true n c = ⊥
Early false n c = LeavesBefore c n

knows_early : (Q : Place → Type 0) (first : Bool) (q : Piece) (e : Place) → ((c : Place) → Q c → Early first (place_of q) c) → Order first (place_of q) e → (c : Place) → Knows Q first q.strand.start (Gone q) e c → LeavesBefore c e
knows_early Q true q e k o c (inl h) = absurd (k c h)
knows_early Q true q e k o c (inr (inl h)) = absurd h
knows_early Q true q e k o c (inr (inr h)) = h.1.1
knows_early Q false q e k o c (inl h) = before_trans c (place_of q) e (k c h) o
knows_early Q false q e k o c (inr (inl h)) = subst (λ w. LeavesBefore w e) (sym h) o
knows_early Q false q e k o c (inr (inr h)) = h.1.1

known_early : (before : List Piece) (l : Piece) (ps : List Piece) (Q : Place → Type 0) (first : Bool) → ((c : Place) → Q c → Early first (front (before ++ l ∷ ps)) c) → Asc first (before ++ l ∷ ps) → (c : Place) → known_at Q first before (l ∷ ps) c → Early (first_at first before) (place_of l) c
known_early [] l ps Q first k a c h = k c h
known_early (q ∷ before) l ps Q first k a c h =
    let e = front (before ++ l ∷ ps) in
    known_early before l ps (Knows Q first q.strand.start (Gone q) e) false (knows_early Q first q e k a.1) a.2 c h

-- what is known does not end after the left strand's place
early_ends : (first : Bool) (m : Start) → Begins first m → (c : Place) → Early first (place_of_start m) c → EndsAfter m c → ⊥
early_ends true m b c h e = h
early_ends false root b c h e = b
early_ends false (behind m k) b c h e = order_one_way c (child_of m k) h e

own_ends : (first : Bool) (m : Start) → Begins first m → (c : Place) → Own first (place_of_start m) c → EndsAfter m c → ⊥
own_ends true m b c h e = h
own_ends false root b c h e = b
own_ends false (behind m k) b c h e = order_strict (child_of m k) (subst (λ w. LeavesBefore (child_of m k) w) h e)

module _ (program : Revised) (tables : Tables) (memory : Memory) where
  either_is : (a b : Bool) → a || b ≡ true → (a ≡ true) ⊎ (b ≡ true)
  either_is true b e = inl refl
  either_is false b e = inr e

  leaves_sound : (p c : Place) → leaves_before program tables memory p c ≡ true → LeavesBefore p c
  leaves_sound [] c e = absurd cc
  leaves_sound (a ∷ p) [] e = tt
  leaves_sound (a ∷ p) (b ∷ c) e =
      elim (either_is (nat_lt a b) (nat_eq a b && leaves_before program tables memory p c) e) [
        | inl l ↦ inl (ltb-true a b l)
        | inr h ↦ let x = both_are (nat_eq a b) (leaves_before program tables memory p c) h in inr (eqb-true a b x.0, leaves_sound p c x.1)
      ]

  ends_sound : (m : Start) (c : Place) → ends_after program tables memory m c ≡ true → EndsAfter m c
  ends_sound root c e = tt
  ends_sound (behind m k) c e = leaves_sound (child_of m k) c e

  not_ends : (m : Start) (c : Place) → (EndsAfter m c → ⊥) → not (ends_after program tables memory m c) ≡ true
  not_ends m c h = by (ends_after program tables memory m c) refl
    where
      by : (b : Bool) → ends_after program tables memory m c ≡ b → not b ≡ true
      by true e = absurd (h (ends_sound m c e))
      by false e = refl

  slots_true : (m : Start) (n : Place) (env : List Slot) → SlotsWait (λ n j. EndsAfter m (child_of n j) → ⊥) n env → every (λ s. not (would_wait program tables memory m n s)) env ≡ true
  slots_true m n [] h = refl
  slots_true m n (unset ∷ env) h = slots_true m n env h.1
  slots_true m n (has v ∷ env) h = slots_true m n env h.1
  slots_true m n (waits j ∷ env) h = both_true (not (ends_after program tables memory m (child_of n j))) (every (λ s. not (would_wait program tables memory m n s)) env) (not_ends m (child_of n j) (h.0 j refl)) (slots_true m n env h.1)

  under_true : (m : Start) (t : List Parent) → UnderWait (λ n j. EndsAfter m (child_of n j) → ⊥) t → none_waits_under program tables memory m t ≡ true
  under_true m [] h = refl
  under_true m (p ∷ t) h = both_true (none_waits program tables memory m p.frame) (none_waits_under program tables memory m t) (slots_true m p.frame.instance p.frame.env h.0) (under_true m t h.1)

  -- no name stands against a fold
  joins_true : (Q : Place → Type 0) (first : Bool) (l r : Piece) (ps : List Piece) (v : ℤ) → (Gone l → ⊥) → (Gone r → ⊥) → l.strand.frame.instance ≡ place_of r → Begins first l.strand.start → ((c : Place) → Q c → Early first (place_of l) c) → WaitsFit Q first (l ∷ r ∷ ps)
      → may_join program tables memory l.strand (joined program.tree l.strand v r.strand) ≡ true
  joins_true Q first l r ps v gl gr named b early h =
      let e = front ps in
      let m = l.strand.start in
      let x = l.strand.frame.instance in
      let P = Waiting (Knows Q first m (Gone l) (place_of r)) false r.strand.start (Gone r) e in
      let free : (n : Place) (j : ℕ) → (child_of n j ≡ x → ⊥) → P n j → EndsAfter m (child_of n j) → ⊥ = λ n j d y.
      elim y.0 [
        | inl (inl z) ↦ early_ends first m b (child_of n j) (early (child_of n j) z)
        | inl (inr (inl z)) ↦ own_ends first m b (child_of n j) z
        | inl (inr (inr z)) ↦ absurd (gl z.0)
        | inr (inl z) ↦ absurd (d (z ∙ sym named))
        | inr (inr z) ↦ absurd (gr z.0)
      ] in
      elim h.1.0 [
        | inl g ↦ absurd (gr g)
        | inr y ↦ both_true (none_waits program tables memory m (settled_frame x v r.strand.frame)) (none_waits_under program tables memory m (settled_under x v r.strand.under))
            (slots_true m r.strand.frame.instance _ (settled_slots P (λ n j. EndsAfter m (child_of n j) → ⊥) x v free r.strand.frame.instance r.strand.frame.env y.0.0))
            (under_true m (settled_under x v r.strand.under) (settled_parents P (λ n j. EndsAfter m (child_of n j) → ⊥) x v free r.strand.under y.0.1))
      ]

  abbrev IsFolded : ℕ → Piece → Piece → Option LayeredStrand → Type 0
  IsFolded w l r o = (q : Piece) × (folded_by program tables memory w l r o ≡ Some q)

  by_cond : (w : ℕ) (l r : Piece) (b : Bool) (s : LayeredStrand) → b ≡ true → IsFolded w l r (cond b (Some s) None)
  by_cond w l r true s e = (_, refl)
  by_cond w l r false s e = absurd cc

  same_true : (a b : Place) → a ≡ b → same_name a b ≡ true
  same_true a b e = subst (λ w. same_name a w ≡ true) e (same_name_refl a)

  -- a strand that is over ends at its neighbour's place
  pub over_named : (b : Bool) (l : Piece) (found later : List Bool) (e : Place) → FitPiece program tables memory b l found later e → ((k : Fault) → l.strand.phase ≡ broken k → ⊥) → l.strand.under ≡ [] → l.deque ≡ [] → l.strand.frame.instance ≡ e
  over_named b l found later e i sound u d =
      elim i.fits [
        | inl h ↦
            let low : Links (lowest l.strand.frame []) l.deque e = subst (λ t. Links (lowest l.strand.frame t) l.deque e) u h.links in
            subst (λ ks. Links l.strand.frame.instance ks e) d low
        | inr c ↦ absurd (sound c.fault c.phase)
      ]

  over_value : (st : State) (s : LayeredStrand) (ks : List Continuation) → strands.done st ≡ true → ((k : Fault) → s.phase ≡ broken k → ⊥) → IsLaid st s ks → (v : ℤ) × (s.phase ≡ leaving v)
  over_value (Held w) s ks d n h = absurd cc
  over_value Ended s ks d n h = (h.value, h.phase)
  over_value Stalled s ks d n h = absurd cc
  over_value strands.Faulted s ks d n h = absurd (n h.fault h.phase)
  over_value strands.Finished s ks d n h = absurd cc

  over_is : (w : ℕ) (Q : Place → Type 0) (first b : Bool) (found mid : List Bool) (l r : Piece) (ps : List Piece) (v : ℤ) → FitPiece program tables memory b l found mid (place_of r) → ((k : Fault) → l.strand.phase ≡ broken k → ⊥) → l.strand.phase ≡ leaving v → strands.done l.state ≡ true → Begins first l.strand.start → ((c : Place) → Q c → Early first (place_of l) c) → WaitsFit Q first (l ∷ r ∷ ps)
      → IsFolded w l r (joined_pair program tables memory l.strand (leaving v) r.strand r.strand.phase)
  over_is w Q first b found mid l r ps v i sound x d begins early h =
      let o = over_of program tables memory l.state l.strand l.deque v d x i.laid in
      let named = over_named b l found mid (place_of r) i sound o.0 o.1 in
      elim (broken_or r.strand.phase) [
        | inl y ↦ subst (λ q. IsFolded w l r (joined_pair program tables memory l.strand (leaving v) r.strand q)) (sym y.1)
            (by_cond w l r (same_name l.strand.frame.instance (place_of r)) (broken_pair program tables memory l.strand r.strand y.0) (same_true l.strand.frame.instance (place_of r) named))
        | inr n ↦ subst (IsFolded w l r) (sym (pair_sound program tables memory l.strand r.strand v r.strand.phase n))
            (by_cond w l r (same_name l.strand.frame.instance (place_of r) && may_join program tables memory l.strand (joined program.tree l.strand v r.strand)) (joined program.tree l.strand v r.strand)
            (both_true (same_name l.strand.frame.instance (place_of r)) (may_join program tables memory l.strand (joined program.tree l.strand v r.strand)) (same_true l.strand.frame.instance (place_of r) named)
            (joins_true Q first l r ps v (λ g. sound g.1.0 g.1.1) (λ g. n g.1.0 g.1.1) named begins early h)))
      ]

  pair_is : (w : ℕ) (Q : Place → Type 0) (first b : Bool) (found mid : List Bool) (l r : Piece) (ps : List Piece) → FitPiece program tables memory b l found mid (place_of r) → strands.done l.state ≡ true → Begins first l.strand.start → ((c : Place) → Q c → Early first (place_of l) c) → WaitsFit Q first (l ∷ r ∷ ps)
      → IsFolded w l r (joined_pair program tables memory l.strand l.strand.phase r.strand r.strand.phase)
  pair_is w Q first b found mid l r ps i d begins early h =
      elim (broken_or l.strand.phase) [
        | inl y ↦ subst (λ ph. IsFolded w l r (joined_pair program tables memory l.strand ph r.strand r.strand.phase)) (sym y.1) (_, refl)
        | inr sound ↦
            let v = over_value l.state l.strand l.deque d sound i.laid in
            subst (λ ph. IsFolded w l r (joined_pair program tables memory l.strand ph r.strand r.strand.phase)) (sym v.1) (over_is w Q first b found mid l r ps v.0 i sound v.1 d begins early h)
      ]

  folded_is : (w : ℕ) (l r : Piece) → strands.done l.state ≡ true → strands.waits r.state ≡ true → IsFolded w l r (joined_pair program tables memory l.strand l.strand.phase r.strand r.strand.phase) → (q : Piece) × (folded program tables memory w l r ≡ Some q)
  folded_is w l r d t h =
      (h.0, ap (λ b. cond b (folded_by program tables memory w l r (joined_pair program tables memory l.strand l.strand.phase r.strand r.strand.phase)) None) (both_true (strands.done l.state) (strands.waits r.state) d t) ∙ h.1)

  -- ---- where they stand in the list

  other_name : (a b : Place) → bytes_eq a b ≡ false → same_name a b ≡ false
  other_name a b e = by (same_name a b) refl
    where
      by : (x : Bool) → same_name a b ≡ x → x ≡ false
      by false z = refl
      by true z =
          let q : a ≡ b = same_name_true a b z in
          let t : bytes_eq a b ≡ true = subst (λ w. bytes_eq a w ≡ true) q (same_bytes a) in
          sym t ∙ e

  abbrev IsFound : ℕ → Place → ℕ → List Piece → List Piece → List BookStep → Type 0
  IsFound w q kits before ps history = (t : RunState) × (folded_at program tables memory w q kits before ps history ≡ Some t)

  found_next : (w kits : ℕ) (q : Place) (done later : List Piece) (x y : Piece) (history : List BookStep) → same_name (place_of y) q ≡ false → IsFound w q kits (done ++ x ∷ []) (y ∷ later) history → IsFound w q kits done (x ∷ y ∷ later) history
  found_next w kits q done later x y history e h =
      (h.0, ap (λ b. cond b (folded_among program tables memory w kits done later history (Fold (place_of x) (place_of y) w) (folded program tables memory w x y)) (folded_at program tables memory w q kits (done ++ x ∷ []) (y ∷ later) history)) e ∙ h.1)

  found_at : (w kits : ℕ) (l r p : Piece) (later : List Piece) (history : List BookStep) → folded program tables memory w l r ≡ Some p → (done before : List Piece) → NoneAt (place_of r) (map line_of (before ++ l ∷ [])) → IsFound w (place_of r) kits done (before ++ l ∷ r ∷ later) history
  found_at w kits l r p later history e done [] n =
      let step = Fold (place_of l) (place_of r) w in
      let rest = folded_at program tables memory w (place_of r) kits (done ++ l ∷ []) (r ∷ later) history in (
        record { pieces = done ++ p ∷ later; kits = kits + 1; history = history ++ step ∷ [] },
        ap (λ b. cond b (folded_among program tables memory w kits done later history step (folded program tables memory w l r)) rest) (same_name_refl (place_of r)) ∙ ap (folded_among program tables memory w kits done later history step) e,
      )
  found_at w kits l r p later history e done (x ∷ []) n =
      found_next w kits (place_of r) done (r ∷ later) x l history (other_name (place_of l) (place_of r) n.1.0) (found_at w kits l r p later history e (done ++ x ∷ []) [] n.1)
  found_at w kits l r p later history e done (x ∷ y ∷ before) n =
      found_next w kits (place_of r) done (before ++ l ∷ r ∷ later) x y history (other_name (place_of y) (place_of r) n.1.0) (found_at w kits l r p later history e (done ++ x ∷ []) (y ∷ before) n.1)

  -- such neighbours become one
  pair_found : (s : RunState) (before later : List Piece) (l r : Piece) (w : ℕ) → Runs program tables memory s → s.pieces ≡ before ++ l ∷ r ∷ later → strands.done l.state ≡ true → strands.waits r.state ≡ true → (q : Piece) × (folded program tables memory w l r ≡ Some q)
  pair_found s before later l r w h e d t =
      let ps = before ++ l ∷ r ∷ later in
      let right : FitAll program tables memory true ps [] = subst (λ u. FitAll program tables memory true u []) e h.right in
      let asc : Asc true ps = subst (Asc true) e h.told.ascending in
      let known : WaitsFit Nothing true ps = subst (λ u. WaitsFit Nothing true u) e h.waits in
      let i = inner program tables memory before (l ∷ r ∷ later) true [] right in
      let here = asc_at before (l ∷ r ∷ later) true asc in
      let early = known_early before l (r ∷ later) Nothing true (λ c z. absurd z) asc in
      folded_is w l r d t (pair_is w (known_at Nothing true before (l ∷ r ∷ later)) (first_at true before) i.0 i.1.0 i.1.1.0 l r later i.1.1.1 d here.0 early (fit_at before (l ∷ r ∷ later) Nothing true known))

  folds_found : (s : RunState) (before later : List Piece) (l r : Piece) (w : ℕ) → Runs program tables memory s → s.pieces ≡ before ++ l ∷ r ∷ later → strands.done l.state ≡ true → strands.waits r.state ≡ true → is_idle w s.pieces ≡ true → (t : RunState) × (after_step program tables memory s (fold w (place_of r)) ≡ Some t)
  folds_found s before later l r w h e d t idle =
      let ps = before ++ l ∷ r ∷ later in
      let asc : Asc true ps = subst (Asc true) e h.told.ascending in
      let p = pair_found s before later l r w h e d t in
      let none = none_before true (before ++ l ∷ []) r later (subst (Asc true) (sym (append_assoc before (l ∷ []) (r ∷ later))) asc) in
      let f = found_at w s.kits l r p.0 later s.history p.1 [] before none in
      let at_them : folded_at program tables memory w (place_of r) s.kits [] s.pieces s.history ≡ Some f.0 = subst (λ u. folded_at program tables memory w (place_of r) s.kits [] u s.history ≡ Some f.0) (sym e) f.1 in
      (f.0, subst (λ b. if_idle program tables memory b (folded_at program tables memory w (place_of r) s.kits [] s.pieces s.history) ≡ Some f.0) (sym idle) at_them)

module _ (program : Revised) (tables : Tables) (memory : Memory) (ready : IsReady program tables memory) where
  pub neighbours : NeighboursFold program tables memory
  neighbours kits es before later l r w e d t idle = folds_found program tables memory (path program tables memory (first_state program.tree kits) es) before later l r w (runs_from_first program tables memory ready kits es) e d t idle

  -- neighbours after any steps become one
  pub neighbours_join : (kits : ℕ) (es : List RunStep) (before later : List Piece) (l r : Piece) (w : ℕ) → (path program tables memory (first_state program.tree kits) es).pieces ≡ before ++ l ∷ r ∷ later → strands.done l.state ≡ true → strands.waits r.state ≡ true
      → (q : Piece) × (folded program tables memory w l r ≡ Some q)
  neighbours_join kits es before later l r w e d t = pair_found program tables memory (path program tables memory (first_state program.tree kits) es) before later l r w (runs_from_first program tables memory ready kits es) e d t
