-- What is left to do of a run, after any steps, is the elision from scratch.
use Rattle.std.proofs.Common.{Bool, true, false, ℕ, List, [], ◌∷◌, ◌++◌, append_assoc, ℤ, pos, Ok, ◌≡◌, inl, inr, refl, sym, ap, ◌∙◌, subst}
use Rattle.meaning.specs.Tables.{Tables}
use Rattle.meaning.specs.Outcome.{Log, Fault, Outcome, Place, Leaves}
use Rattle.meaning.specs.Statements.{identities}
use Rattle.meaning.specs.Elision.{Finished}
use Rattle.meaning.specs.Records.{Revised}
use Rattle.meaning.specs.SmallStep.{Start, Frame, broken, Parent, Continuation, place_of_continuation}
use Rattle.meaning.specs.Layers.{blank}
use Rattle.meaning.specs.Rest.{Course, then_on, phase_left, parents_left, parents_of, answered}
use Rattle.meaning.specs.RestOfRun.{Hand, with_hand_under, lowest, below, times_layers, piece_left, pieces_left, rest_of_run}
use Rattle.meaning.specs.Schedules.{Memory, Piece, place_of, first_state, path}
use Rattle.trail_theory.specs.Order.{In, Every}
use Rattle.trail_theory.specs.SerialRest.{below as below_walk}
use Rattle.trail_theory.specs.TaskFits.{EnvFits, DoomFits, UnderFits}
use Rattle.trail_theory.specs.Right.{StartsAfter}
use Rattle.trail_theory.proofs.Order.{same_split, ordered_front}
use Rattle.trail_theory.proofs.Places.{in_left, in_right}
use Rattle.trail_theory.proofs.Advances.{ordered_at}
use Rattle.trail_theory.proofs.FirstFaults.{quiet_first}
use Rattle.trail_theory.proofs.Ends.{worth_of}
use Rattle.run_theory.specs.RightRuns.{Begins, Links, IsPushed}
use Rattle.strand_theory.specs.Ready.{IsReady}
use Rattle.run_theory.specs.Theorems.{PathsKeepRest}
use Rattle.strand_theory.proofs.Laws.{S, L}
use Rattle.run_theory.proofs.Steps.{FitPiece, FitAll, Whole}
use Rattle.run_theory.proofs.Paths.{begins_root}
use Rattle.run_theory.proofs.Ascending.{Gone}
use Rattle.run_theory.proofs.Telling.{broken_or}
use Rattle.run_theory.proofs.Awaited.{StackWaits, DequeWaits}
use Rattle.run_theory.proofs.Waits.{Own, Knows, Waiting, PieceWaits, WaitsFit, stack_more, deque_more}
use Rattle.run_theory.proofs.WaitsOn.{Nothing, runs_from_first}
use Rattle.run_theory.proofs.LaidDown.{Filled, paths_laid}
use Rattle.run_theory.proofs.Serial.{Came, Fell}
use Rattle.run_theory.proofs.Overs.{T, look, worth_at, same_before, starts_end, ends_at, finish, HasCome, left_worth, LeftIs, broken_left, Ends}
use Rattle.run_theory.proofs.Fronts.{split, fault_answer, layers_of, answered_fell}
use Rattle.run_theory.proofs.Hands.{filled_frame, filled, frame_filled, under_filled, filled_append, InHand, HandFits, env_filled, doom_none, under_same, hand_more}
use Rattle.run_theory.proofs.Anchored.{of_spawned, all_left, bottom_is, At, stack_at, Held, spared, strand_at}

-- the instance below all of a strand
low_under : (fr : Frame) (t : List Parent) (q : Parent) (u : List Parent) → lowest fr (t ++ q ∷ u) ≡ lowest q.frame u
low_under fr [] q u = refl
low_under fr (p ∷ t) q u = low_under p.frame t q u

low_alone : (fr : Frame) (t : List Parent) → lowest fr (t ++ []) ≡ lowest fr t
low_alone fr [] = refl
low_alone fr (p ∷ t) = low_alone p.frame t

module _ (program : Revised) (tables : Tables) where
  low_is : (fr : Frame) (t : List Parent) (ks : List Continuation) (e : Place) → Links (lowest fr t) ks e → lowest fr (t ++ parents_of program.tree tables ks) ≡ e
  low_is fr t [] e h = low_alone fr t ∙ h
  low_is fr t (k ∷ ks) e h = low_under fr t k.parent (k.under ++ parents_of program.tree tables ks) ∙ low_is k.parent.frame k.under ks e h.1

module _ (program : Revised) (tables : Tables) (memory : Memory) (ready : IsReady program tables memory) where
  abbrev All : Log
  All = T program tables memory ready

  module _ (hand : Hand) where
    abbrev Reached : Log → Course ℤ → Place → Type 0
    Reached = At program tables memory ready hand

    -- the continuations behind a strand
    deque_at : (D : Log) (m : Start) (d : HasCome program tables memory ready D m) → HandFits D hand → (ks : List Continuation) (c : Course ℤ) (n e : Place) → Reached D c n → Links n ks e
        → Every (IsPushed program.tree tables (S program tables memory) (L program tables memory) m) ks → DequeWaits (Held program tables memory ready hand) ks → Reached D (then_on c (parents_left program.tree tables (filled hand (parents_of program.tree tables ks)))) e
    deque_at D m d fits [] c n e a l r w = subst (Reached D (then_on c (parents_left program.tree tables []))) l (stack_none D c n a)
      where
        stack_none : (D : Log) (c : Course ℤ) (n : Place) → Reached D c n → Reached D (then_on c (parents_left program.tree tables [])) n
        stack_none D c n a = stack_at program tables memory ready hand D [] [] tt tt n c a.whole a.later a.outcome a.came a.kept a.is_trail
    deque_at D m d fits (k ∷ ks) c n e a l r w =
        let P = program.tree in
        let s = S program tables memory in
        let lk = look program tables memory ready in
        let h = r.0.1 in
        let o = h.outcome in
        let fr = k.parent.frame in
        let p : Parent = record { frame = fr; spawned = true; into = k.parent.into; todo = k.parent.todo } in
        let behind_it = λ (x : Outcome). (below_walk P tables s lk (p ∷ k.under) (h.top ∷ h.others) x).events ++ h.beyond in
        let named : n ≡ place_of_continuation k = l.0 in
        let same : D ≡ h.before = same_before program tables memory ready m D d.later h.before (h.between ++ Leaves (place_of_continuation k) o ∷ behind_it o) d.is_trail h.is_trail d.ends (starts_end m h.before (subst (λ x. StartsAfter x h.before) r.0.0 h.starts)) in
        let f : (h.before ++ h.between) ++ Leaves n o ∷ behind_it o ≡ All = append_assoc h.before h.between (Leaves n o ∷ behind_it o) ∙ subst (λ x. h.before ++ (h.between ++ Leaves x o ∷ behind_it o) ≡ All) (sym named) h.is_trail in
        let z = same_split n a.whole a.later (h.before ++ h.between) (behind_it o) a.outcome o (ordered_at P tables s (L program tables memory) _ a.is_trail) (ordered_at P tables s (L program tables memory) _ f) (a.is_trail ∙ sym f) in
        let later : a.later ≡ behind_it a.outcome = z.later ∙ ap behind_it (sym z.value) in
        let whole : a.whole ++ Leaves n a.outcome ∷ behind_it a.outcome ≡ All = ap (λ x. a.whole ++ Leaves n a.outcome ∷ x) (sym later) ∙ a.is_trail in
        let ok = spared program tables memory ready hand D m d in
        let order = ordered_front D d.later (ordered_at P tables s (L program tables memory) _ d.is_trail) in
        let env = env_filled D order hand fits ok fr.instance h.waiting 0 fr.env h.top.env w.0.0 (subst (λ b. EnvFits b fr.instance h.waiting 0 fr.env h.top.env) (sym same) h.slots) in
        let doom = doom_none D order hand fits ok fr.instance h.top.doom (subst (λ b. DoomFits b fr.instance h.top.doom) (sym same) h.doomed) in
        let others = under_same D order hand fits ok P k.under h.others w.0.1 (subst (λ b. UnderFits P b k.under h.others) (sym same) h.under_fits) in
        let reads = h.reads ready.rules.reads in
        let one = stack_at program tables memory ready hand D (p ∷ k.under) (h.top ∷ h.others) (env, (doom, others)) (of_spawned fr.instance k.parent.todo reads.0, all_left _ k.under reads.1) n c a.whole h.beyond a.outcome a.came a.kept whole in
        let so_far = then_on c (parents_left P tables (filled hand (p ∷ k.under))) in
        let here = subst (Reached D so_far) (bottom_is fr k.under) one in
        let next = deque_at D m d fits ks so_far (lowest fr k.under) e here l.1 r.1 w.1 in
        subst (λ x. Reached D x e) (split program tables memory ready (filled hand (p ∷ k.under)) (filled hand (parents_of P tables ks)) c ∙ ap (λ u. then_on c (parents_left P tables u)) (sym (filled_append hand (p ∷ k.under) (parents_of P tables ks)))) next

    -- a strand with its continuations
    piece_at : (D : Log) (first : Bool) (found later : List Bool) (p : Piece) (e : Place) → FitPiece program tables memory first p found later e → (w : Whole program tables memory p found later e) → ((k : Fault) → p.strand.phase ≡ broken k → ⊥) → (d : HasCome program tables memory ready D p.strand.start) → HandFits D hand
        → StackWaits (Held program tables memory ready hand) p.strand.frame p.strand.under → DequeWaits (Held program tables memory ready hand) p.deque → Reached D (piece_left program.tree tables p hand (worth_at program tables memory ready D)) e
    piece_at D first found later p e i w sound d fits stack deque =
        let P = program.tree in
        let s = p.strand in
        let ks = parents_of P tables p.deque in
        let acc = times_layers P tables (worth_at program tables memory ready D) s.layers in
        let c = phase_left P tables (filled_frame hand s.frame) s.phase acc in
        let one = strand_at program tables memory ready hand D s.start s.layers s.frame s.phase s.under d fits w.right (layers_of P s.phase s.layers w.right.segments sound w.right.logged) stack.0 stack.1 in
        let here = subst (Reached D (then_on c (parents_left P tables (filled hand s.under)))) (bottom_is s.frame s.under) one in
        let all = deque_at D s.start d fits p.deque (then_on c (parents_left P tables (filled hand s.under))) (lowest s.frame s.under) e here w.links i.deque deque in
        subst (λ x. Reached D x e)
        (split program tables memory ready (filled hand s.under) (filled hand ks) c
        ∙ ap (λ u. then_on c (parents_left P tables u)) (sym (filled_append hand s.under ks) ∙ sym (under_filled hand (s.under ++ ks)))
        ∙ ap (λ fr. then_on (phase_left P tables fr s.phase acc) (parents_left P tables (with_hand_under hand (s.under ++ ks)))) (sym (frame_filled hand s.frame))) all

  -- ---- the strands from left to right

  abbrev Known : (Place → Type 0) → Hand → Type 0
  Known Q hand = (c : Place) → Q c → InHand hand c

  whole_of : (first : Bool) (found later : List Bool) (p : Piece) (e : Place) → FitPiece program tables memory first p found later e → ((k : Fault) → p.strand.phase ≡ broken k → ⊥) → Whole program tables memory p found later e
  whole_of first found later p e i sound = elim i.fits [ inr c ↦ absurd (sound c.fault c.phase) | inl w ↦ w ]

  -- what a strand without a fault waits for is in hand
  waits_held : (Q : Place → Type 0) (first : Bool) (p : Piece) (e : Place) (hand : Hand) → Known Q hand → Known (Own first (place_of p)) hand → ((k : Fault) → p.strand.phase ≡ broken k → ⊥) → Known (Knows Q first p.strand.start (Gone p) e) hand
  waits_held Q first p e hand k o sound c (inl q) = k c q
  waits_held Q first p e hand k o sound c (inr (inl q)) = o c q
  waits_held Q first p e hand k o sound c (inr (inr g)) = absurd (sound g.0.1.0 g.0.1.1)

  held_of : (Q : Place → Type 0) (first : Bool) (p : Piece) (e : Place) (hand : Hand) → Known (Knows Q first p.strand.start (Gone p) e) hand → ((k : Fault) → p.strand.phase ≡ broken k → ⊥) → PieceWaits (Waiting Q first p.strand.start (Gone p) e) p
      → StackWaits (Held program tables memory ready hand) p.strand.frame p.strand.under × DequeWaits (Held program tables memory ready hand) p.deque
  held_of Q first p e hand k sound (inl g) = absurd (sound g.1.0 g.1.1)
  held_of Q first p e hand k sound (inr h) =
      let more : (n : Place) (j : ℕ) → Waiting Q first p.strand.start (Gone p) e n j → Held program tables memory ready hand n j = λ n j w. k (n ++ j ∷ []) w.0 in
      (stack_more (Waiting Q first p.strand.start (Gone p) e) (Held program tables memory ready hand) more p.strand.frame p.strand.under h.0, deque_more (Waiting Q first p.strand.start (Gone p) e) (Held program tables memory ready hand) more p.deque h.1)

  -- one strand after another
  abbrev left_of : Piece → Hand → Log → Course ℤ
  left_of p hand D = piece_left program.tree tables p hand (worth_at program tables memory ready D)

  abbrev Answers : List Piece → Hand → ℤ → Log → Type 0
  Answers ps hand v D = LeftIs program tables memory ready ps hand v (worth_at program tables memory ready D)

  abbrev next_hand : Piece → ℤ → Hand → Hand
  next_hand p w hand = (lowest p.strand.frame (below program.tree tables p), w) ∷ hand

  fell_left : (ps : List Piece) (p : Piece) (D : Log) (hand : Hand) (v : ℤ) (e : Place) (a : Reached hand D (left_of p hand D) e) → Fell (left_of p hand D) a.whole → Answers (p ∷ ps) hand v D
  fell_left ps p D hand v e a f =
      answered_fell program.tree tables (left_of p hand D) (λ w. pieces_left program.tree tables ps (next_hand p w hand) w) f.fault f.course
      ∙ sym (fault_answer program tables memory ready a.whole (Leaves e a.outcome ∷ a.later) f.fault a.is_trail f.first)

  last_left : (p : Piece) (D : Log) (hand : Hand) (v : ℤ) (a : Reached hand D (left_of p hand D) []) → Came (left_of p hand D) (identities program.tree) a.whole a.outcome → Answers (p ∷ []) hand v D
  last_left p D hand v a (inr f) = fell_left [] p D hand v [] a f
  last_left p D hand v a (inl w) =
      let f : a.whole ++ Leaves [] (Ok w.value) ∷ a.later ≡ All = subst (λ x. a.whole ++ Leaves [] x ∷ a.later ≡ All) w.outcome a.is_trail in
      ap (λ c. answered program.tree tables (then_on c (λ x. pieces_left program.tree tables [] (next_hand p x hand) x))) w.course
      ∙ ap (Finished w.value) (worth_of (blank program.tree) a.whole)
      ∙ sym (finish program tables memory ready a.whole a.later w.value f)

  more_left : (p r : Piece) (ps : List Piece) (D : Log) (hand : Hand) (v : ℤ) (a : Reached hand D (left_of p hand D) (place_of r)) → Begins false r.strand.start → lowest p.strand.frame (below program.tree tables p) ≡ place_of r → HandFits D hand
      → ((E : Log) (w : ℤ) → HasCome program tables memory ready E r.strand.start → HandFits E (next_hand p w hand) → Answers (r ∷ ps) (next_hand p w hand) w E) → Came (left_of p hand D) (identities program.tree) a.whole a.outcome → Answers (p ∷ r ∷ ps) hand v D
  more_left p r ps D hand v a b low fits k (inr f) = fell_left (r ∷ ps) p D hand v (place_of r) a f
  more_left p r ps D hand v a b low fits k (inl w) =
      let left = Leaves (place_of r) (Ok w.value) in
      let E = a.whole ++ left ∷ [] in
      let f : a.whole ++ left ∷ a.later ≡ All = subst (λ x. a.whole ++ Leaves (place_of r) x ∷ a.later ≡ All) w.outcome a.is_trail in
      let d : HasCome program tables memory ready E r.strand.start = record {
        later = a.later;
        is_trail = append_assoc a.whole (left ∷ []) a.later ∙ f;
        ends = ends_at r.strand.start a.whole (place_of r) (Ok w.value) b refl;
        quiet = quiet_first a.whole (left ∷ []) w.quiet;
      } in
      let new : In (Leaves (lowest p.strand.frame (below program.tree tables p)) (Ok w.value)) E = subst (λ c. In (Leaves c (Ok w.value)) E) (sym low) (in_right left a.whole (left ∷ []) (inl refl)) in
      let old : HandFits E hand = hand_more D E (λ c x j. in_left (Leaves c (Ok x)) a.whole (left ∷ []) (a.kept (Leaves c (Ok x)) j)) hand fits in
      ap (λ c. answered program.tree tables (then_on c (λ x. pieces_left program.tree tables (r ∷ ps) (next_hand p x hand) x))) w.course
      ∙ ap (λ acc. answered program.tree tables (pieces_left program.tree tables (r ∷ ps) (next_hand p w.value hand) w.value acc)) (worth_of (blank program.tree) a.whole ∙ sym (left_worth program tables memory ready a.whole (place_of r) w.value))
      ∙ k E w.value d (new, old)

  reached : (first : Bool) (found later : List Bool) (p : Piece) (e : Place) (D : Log) (hand : Hand) (Q : Place → Type 0) → FitPiece program tables memory first p found later e → HasCome program tables memory ready D p.strand.start → HandFits D hand → PieceWaits (Waiting Q first p.strand.start (Gone p) e) p → Known Q hand → Known (Own first (place_of p)) hand
      → ((k : Fault) → p.strand.phase ≡ broken k → ⊥) → Reached hand D (left_of p hand D) e
  reached first found later p e D hand Q i d fits waits known own sound =
      let h = held_of Q first p e hand (waits_held Q first p e hand known own sound) sound waits in
      piece_at hand D first found later p e i (whole_of first found later p e i sound) sound d fits h.0 h.1

  runs_from : (ps : List Piece) (p : Piece) (first : Bool) (found : List Bool) (D : Log) (hand : Hand) (v : ℤ) (Q : Place → Type 0) → FitAll program tables memory first (p ∷ ps) found → HasCome program tables memory ready D p.strand.start → HandFits D hand → WaitsFit Q first (p ∷ ps) → Known Q hand → Known (Own first (place_of p)) hand
      → Answers (p ∷ ps) hand v D
  runs_from [] p first found D hand v Q i d fits waits known own =
      elim (broken_or p.strand.phase) [
        | inl k ↦ broken_left program tables memory ready [] p first found i.0 D hand v i.1 d k
        | inr sound ↦ let a = reached first found i.0 p [] D hand Q i.1 d fits waits.0 known own sound in last_left p D hand v a a.came
      ]
  runs_from (r ∷ ps) p first found D hand v Q i d fits waits known own =
      elim (broken_or p.strand.phase) [
        | inl k ↦ broken_left program tables memory ready (r ∷ ps) p first found i.0 D hand v i.1 d k
        | inr sound ↦
            let a = reached first found i.0 p (place_of r) D hand Q i.1 d fits waits.0 known own sound in
            let w = whole_of first found i.0 p (place_of r) i.1 sound in
            let low = low_is program tables p.strand.frame p.strand.under p.deque (place_of r) w.links in
            let knows = waits_held Q first p (place_of r) hand known own sound in
            more_left p r ps D hand v a i.2.1.begins low fits
            (λ E x come held. runs_from ps r false i.0 E (next_hand p x hand) x (Knows Q first p.strand.start (Gone p) (place_of r)) i.2 come held waits.1 (λ c q. inr (knows c q)) (λ c q. inl (low ∙ sym q))) a.came
      ]

  pieces_rest : (ps : List Piece) → FitAll program tables memory true ps [] → WaitsFit Nothing true ps → Filled ps → LeftIs program tables memory ready ps [] (pos 0) (identities program.tree)
  pieces_rest [] h w n = absurd n
  pieces_rest (p ∷ ps) h w n =
      runs_from ps p true [] [] [] (pos 0) Nothing h (record { later = All; is_trail = refl; ends = subst (λ m. Ends m []) (sym (begins_root p.strand.start h.1.begins)) refl; quiet = refl }) tt w (λ c q. q) (λ c q. q)

  pub paths_rest : PathsKeepRest program tables memory
  unfolding rest_of_run
  paths_rest kits es =
      let s = path program tables memory (first_state program.tree kits) es in
      let h = runs_from_first program tables memory ready kits es in
      pieces_rest s.pieces h.right h.waits (paths_laid program tables memory kits es).0
