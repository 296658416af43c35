-- What is left to do of a run whose strands are over, up to the first that has a fault.
use Rattle.std.proofs.Common.{Bool, true, false, None, ◌-◌, List, [], ◌∷◌, ◌++◌, append_assoc, append-nil, ℤ, pos, Ok, Err, ◌≡◌, inl, inr, refl, sym, ap, ap₂, ◌∙◌, subst}
use Rattle.meaning.specs.Tables.{Tables}
use Rattle.meaning.specs.Outcome.{Log, Accumulators, Fault, Outcome, Place, Leaves, Faults, combined, after}
use Rattle.meaning.specs.Statements.{reducers, identities, beginning, initial_values}
use Rattle.meaning.specs.Elision.{Finished, Faulted, from_scratch, answer_of, main, start, elide, depth_limit}
use Rattle.meaning.specs.Records.{Revised, with_kinds}
use Rattle.meaning.specs.Trail.{Look, opening, inner, run_inside, runner, child_of, trail_at}
use Rattle.meaning.specs.SmallStep.{Start, root, behind, Frame, leaving, broken, look_of}
use Rattle.meaning.specs.Layers.{Notes, notes, blank}
use Rattle.meaning.specs.Rest.{then_on, phase_left, parents_left, parents_of, answered}
use Rattle.meaning.specs.RestOfRun.{Hand, with_hand, with_hand_under, lowest, below, times_layers, piece_left, pieces_left, rest_of_run}
use Rattle.meaning.specs.Schedules.{Memory, Piece, place_of, place_of_start}
use Rattle.trail_theory.specs.Right.{stretch, StartsAfter, LayersFit, RightAt}
use Rattle.trail_theory.proofs.Order.{same_split}
use Rattle.trail_theory.proofs.Advances.{ordered_at}
use Rattle.trail_theory.proofs.Stepping.{noted_append}
use Rattle.trail_theory.proofs.FirstFaults.{quiet_first, inside_none}
use Rattle.trail_theory.specs.ElisionBeside.{first_fault, forgotten, Fits}
use Rattle.trail_theory.proofs.MainElides.{begun, begun_after, trail_from_scratch}
use Rattle.trail_theory.proofs.Ends.{worth_of, main_regroup}
use Rattle.run_theory.specs.RightRuns.{front, Begins, Links, IsOver}
use Rattle.strand_theory.specs.Faults.{BrokenAt}
use Rattle.run_theory.specs.OverRuns.{HasFault, AreOver}
use Rattle.strand_theory.specs.Ready.{IsReady}
use Rattle.run_theory.specs.Theorems.{OverRunsAnswer}
use Rattle.run_theory.proofs.Steps.{piece_of, FitPiece, FitAll}
use Rattle.strand_theory.proofs.Laws.{S, L}
use Rattle.strand_theory.proofs.Broken.{broken_from_scratch}
use Rattle.run_theory.proofs.Stalls.{broken_of}
use Rattle.strand_theory.proofs.Laws.{law}
use Rattle.run_theory.proofs.Paths.{begins_root}

-- a stretch that ends where a strand begins
abbrev pub Ends : Start → Log → Type 0
Ends root D = D ≡ []
Ends (behind m k) D = (a : Log) × (o : Outcome) × (D ≡ a ++ Leaves (child_of m k) o ∷ [])

pub starts_end : (m : Start) (B : Log) → StartsAfter m B → Ends m B
starts_end root B h = h
starts_end (behind m k) B h = (h.sooner, h.value, h.is)

pub ends_at : (m : Start) (a : Log) (n : Place) (o : Outcome) → Begins false m → n ≡ place_of_start m → Ends m (a ++ Leaves n o ∷ [])
ends_at root a n o b e = absurd b
ends_at (behind m k) a n o b e = (a, o, ap (λ x. a ++ Leaves x o ∷ []) e)

-- no instance is left to fill
under_none : (hand : Hand) → with_hand_under hand [] ≡ []
under_none [] = refl
under_none (h ∷ hs) = under_none hs

module _ (program : Revised) (tables : Tables) (memory : Memory) (ready : IsReady program tables memory) where
  abbrev pub T : Log
  T = trail_at program.tree tables (S program tables memory) (look_of (L program tables memory))

  abbrev pub worth_at : Log → Accumulators
  worth_at D = (notes program.tree D).worth

  pub same_before : (m : Start) (D X B Y : Log) → D ++ X ≡ T → B ++ Y ≡ T → Ends m D → Ends m B → D ≡ B
  same_before root D X B Y e f h k = h ∙ sym k
  same_before (behind m c) D X B Y e f h k =
      let n = child_of m c in
      let e' : h.0 ++ Leaves n h.1 ∷ X ≡ T = sym (append_assoc h.0 (Leaves n h.1 ∷ []) X) ∙ ap (λ l. l ++ X) (sym h.2) ∙ e in
      let f' : k.0 ++ Leaves n k.1 ∷ Y ≡ T = sym (append_assoc k.0 (Leaves n k.1 ∷ []) Y) ∙ ap (λ l. l ++ Y) (sym k.2) ∙ f in
      let q = same_split n h.0 X k.0 Y h.1 k.1 (ordered_at program.tree tables (S program tables memory) (L program tables memory) _ e') (ordered_at program.tree tables (S program tables memory) (L program tables memory) _ f') (e' ∙ sym f') in
      h.2 ∙ ap₂ (λ a w. a ++ Leaves n w ∷ []) q.sooner q.value ∙ sym k.2

  -- the layers' values behind what came before
  pub layers_worth : (D : Log) (ls : List Notes) (ss : List Log) (y : Log) → D ++ (stretch ss ++ y) ≡ T → LayersFit program.tree ls ss → times_layers program.tree tables (worth_at D) ls ≡ worth_at (D ++ stretch ss)
  layers_worth D [] [] y e h = ap worth_at (sym (append-nil D))
  layers_worth D [] (s ∷ ss) y e h = absurd h
  layers_worth D (l ∷ ls) [] y e h = absurd h
  layers_worth D (l ∷ ls) (s ∷ ss) y e h =
      let below = layers_worth D ls ss (s ++ y) (simp append_assoc (simp append_assoc at e)) h.1 in
      let whole : (D ++ stretch ss) ++ (s ++ y) ≡ T = simp append_assoc (simp append_assoc at e) in
      ap₂ (λ a b. combined a (with_kinds (reducers program.tree) b)) below h.0.worth
      ∙ ap (λ n. n.worth) (law program tables memory ready [] (D ++ stretch ss) s y whole)
      ∙ ap worth_at (append_assoc D (stretch ss) s)

  -- the serial run has come so far without a fault, to where a strand begins
  pub record HasCome (D : Log) (m : Start) : Type 0 where
    pub later : Log
    pub is_trail : D ++ later ≡ T
    pub ends : Ends m D
    pub quiet : first_fault D ≡ None

  -- a strand that is over has gone on from there
  pub record HasGone (D : Log) (ls : List Notes) (n : Place) (v : ℤ) : Type 0 where
    pub done : Log
    pub later : Log
    pub is_trail : (D ++ done) ++ Leaves n (Ok v) ∷ later ≡ T
    pub worth : times_layers program.tree tables (worth_at D) ls ≡ worth_at (D ++ done)
    pub quiet : first_fault (D ++ done) ≡ None

  gone_on : (D : Log) (m : Start) (ls : List Notes) (fr : Frame) (v : ℤ) → HasCome D m → RightAt program.tree tables (S program tables memory) (L program tables memory) m ls fr (leaving v) [] → HasGone D ls fr.instance v
  gone_on D m ls fr v d h =
      let E = stretch h.segments in
      let tail = Leaves fr.instance (Ok v) ∷ h.beyond in
      let same : D ≡ h.before = same_before m D d.later h.before (E ++ tail) d.is_trail h.is_trail d.ends (starts_end m h.before h.starts) in
      let here : D ++ (E ++ tail) ≡ T = ap (λ b. b ++ (E ++ tail)) same ∙ h.is_trail in
      record {
        done = E;
        later = h.beyond;
        is_trail = append_assoc D E tail ∙ here;
        worth = layers_worth D ls h.segments tail here h.logged;
        quiet = quiet_first D E d.quiet ∙ inside_none m E h.inside;
      }

  pub come_on : (D : Log) (ls : List Notes) (n : Place) (v : ℤ) (m : Start) → Begins false m → n ≡ place_of_start m → (g : HasGone D ls n v) → HasCome ((D ++ g.done) ++ Leaves n (Ok v) ∷ []) m
  come_on D ls n v m b e g =
      record {
        later = g.later;
        is_trail = append_assoc (D ++ g.done) (Leaves n (Ok v) ∷ []) g.later ∙ g.is_trail;
        ends = ends_at m (D ++ g.done) n (Ok v) b e;
        quiet = quiet_first (D ++ g.done) (Leaves n (Ok v) ∷ []) g.quiet;
      }

  -- the leaving changes no value
  pub left_worth : (a : Log) (n : Place) (v : ℤ) → worth_at (a ++ Leaves n (Ok v) ∷ []) ≡ worth_at a
  left_worth a n v = ap (λ l. l.worth) (noted_append (blank program.tree) a (Leaves n (Ok v) ∷ []))

  abbrev pub look : Look
  look = look_of (L program tables memory)

  -- main has left
  pub finish : (W X : Log) (v : ℤ) → W ++ Leaves [] (Ok v) ∷ X ≡ T → from_scratch program.tree tables ≡ Finished v (worth_at W)
  unfolding from_scratch
  finish W X v f =
      let P = program.tree in
      let d = depth_limit - 1 in
      let o = elide P tables depth_limit start main [] (initial_values P) in
      let ops = opening P look d main [] [] in
      let inside = run_inside P tables (S program tables memory) (runner P tables (S program tables memory) d (inner P look d main [])) d main [] [] in
      let f' : (beginning P ++ (ops ++ inside.events)) ++ Leaves [] inside.outcome ∷ [] ≡ T = main_regroup (beginning P) ops inside.events inside.outcome in
      let q = same_split [] W X (beginning P ++ (ops ++ inside.events)) [] (Ok v) inside.outcome (ordered_at P tables (S program tables memory) (L program tables memory) _ f) (ordered_at P tables (S program tables memory) (L program tables memory) _ f') (f ∙ sym f') in
      let g : W ++ Leaves [] (Ok v) ∷ [] ≡ T = ap (λ b. W ++ Leaves [] (Ok v) ∷ b) (sym q.later) ∙ f in
      let fits : Fits (begun P o) T inside.outcome = trail_from_scratch P tables ready.rules.reads look in
      let z : begun P o ≡ record { log = forgotten T; answer = Ok v } = (subst (λ w. Fits (begun P o) T w) (sym q.value) fits).0 in
      let n : notes P T ≡ notes P W = ap (notes P) (sym g) ∙ noted_append (blank P) W (Leaves [] (Ok v) ∷ []) in
      ap (λ r. answer_of (initial_values P) (record { log = o.log; answer = r })) (ap (λ x. x.answer) z)
      ∙ ap (Finished v) (sym (begun_after P o) ∙ ap (λ x. after x.log (identities P)) z ∙ worth_of (blank P) T ∙ ap (λ x. x.worth) n)

  -- a fault behind what came before
  broke : (D : Log) (m : Start) (k : Fault) → HasCome D m → BrokenAt program.tree tables (S program tables memory) (L program tables memory) m k → from_scratch program.tree tables ≡ Faulted k
  broke D m k d b =
      let tail = b.done ++ Faults k ∷ b.beyond in
      let same : D ≡ b.before = same_before m D d.later b.before tail d.is_trail b.is_trail d.ends (starts_end m b.before b.starts) in
      let here : (D ++ b.done) ++ Faults k ∷ b.beyond ≡ T = append_assoc D b.done (Faults k ∷ b.beyond) ∙ ap (λ a. a ++ tail) same ∙ b.is_trail in
      broken_from_scratch program.tree tables (L program tables memory) ready.rules.reads k
      (record {
        before = [];
        done = D ++ b.done;
        beyond = b.beyond;
        is_trail = here;
        starts = refl;
        quiet = quiet_first D b.done d.quiet ∙ b.quiet;
      })

  -- ---- the pieces

  over_left : (p : Piece) (h : IsOver p.strand p.deque) (hand : Hand) (acc : Accumulators) → piece_left program.tree tables p hand acc ≡ (Ok h.value, times_layers program.tree tables acc p.strand.layers)
  over_left p h hand acc =
      let acc' = times_layers program.tree tables acc p.strand.layers in
      let none : below program.tree tables p ≡ [] = ap₂ (λ t ks. t ++ parents_of program.tree tables ks) h.under h.deque in
      ap₂ (λ ph t. then_on (phase_left program.tree tables (with_hand hand p.strand.frame) ph acc') (parents_left program.tree tables t)) h.phase (ap (with_hand_under hand) none ∙ under_none hand)

  fault_left : (p : Piece) (k : Fault) → p.strand.phase ≡ broken k → (hand : Hand) (acc : Accumulators) → piece_left program.tree tables p hand acc ≡ (Err k, times_layers program.tree tables acc p.strand.layers)
  fault_left p k e hand acc =
      let acc' = times_layers program.tree tables acc p.strand.layers in
      ap (λ ph. then_on (phase_left program.tree tables (with_hand hand p.strand.frame) ph acc') (parents_left program.tree tables (with_hand_under hand (below program.tree tables p)))) e

  abbrev pub LeftIs : List Piece → Hand → ℤ → Accumulators → Type 0
  LeftIs ps hand v acc = answered program.tree tables (pieces_left program.tree tables ps hand v acc) ≡ from_scratch program.tree tables

  abbrev right_over : (p : Piece) (h : IsOver p.strand p.deque) → Type 0
  right_over p h = RightAt program.tree tables (S program tables memory) (L program tables memory) p.strand.start p.strand.layers p.strand.frame (leaving h.value) []

  over_right : (first : Bool) (p : Piece) (found later : List Bool) (e : Place) (h : IsOver p.strand p.deque) → FitPiece program tables memory first p found later e → right_over p h × (p.strand.frame.instance ≡ e)
  over_right first p found later e h i =
      elim i.fits [
        | inr c ↦ absurd (let q : leaving h.value ≡ broken c.fault = sym h.phase ∙ c.phase in cc)
        | inl w ↦
            let r = subst (λ ph. RightAt program.tree tables (S program tables memory) (L program tables memory) p.strand.start p.strand.layers p.strand.frame ph p.strand.under) h.phase w.right in
            let n = subst (λ t. Links (lowest p.strand.frame t) p.deque e) h.under w.links in (
              subst (λ t. RightAt program.tree tables (S program tables memory) (L program tables memory) p.strand.start p.strand.layers p.strand.frame (leaving h.value) t) h.under r,
              subst (λ ks. Links p.strand.frame.instance ks e) h.deque n,
            )
      ]

  -- a strand with a fault
  pub broken_left : (ps : List Piece) (p : Piece) (first : Bool) (found later : List Bool) (D : Log) (hand : Hand) (v : ℤ) → FitPiece program tables memory first p found later (front ps) → HasCome D p.strand.start → HasFault p → LeftIs (p ∷ ps) hand v (worth_at D)
  broken_left ps p first found later D hand v i d k =
      let s = p.strand in
      let at_fault = subst (λ ph. FitPiece program tables memory first (piece_of s.start s.layers s.frame ph s.under p.deque p.state p.tally) found later (front ps)) k.1 i in
      let b = broken_of program tables memory first s.start s.layers s.frame k.0 s.under p.deque p.state p.tally found later (front ps) at_fault in
      ap (λ c. answered program.tree tables (then_on c (λ w. pieces_left program.tree tables ps ((lowest s.frame (below program.tree tables p), w) ∷ hand) w))) (fault_left p k.0 k.1 hand (worth_at D))
      ∙ sym (broke D s.start k.0 d b.0)

  pub rest_from : (ps : List Piece) (p : Piece) (first : Bool) (found : List Bool) (D : Log) (hand : Hand) (v : ℤ) → FitAll program tables memory first (p ∷ ps) found → HasCome D p.strand.start → AreOver (p ∷ ps) → LeftIs (p ∷ ps) hand v (worth_at D)
  rest_from ps p first found D hand v i d (inl k) = broken_left ps p first found i.0 D hand v i.1 d k
  rest_from [] p first found D hand v i d (inr h) =
      let s = p.strand in
      let r = over_right first p found i.0 [] h.0 i.1 in
      let g : HasGone D s.layers [] h.0.value = subst (λ n. HasGone D s.layers n h.0.value) r.1 (gone_on D s.start s.layers s.frame h.0.value d r.0) in
      ap (λ c. answered program.tree tables (then_on c (λ w. pieces_left program.tree tables [] ((lowest s.frame (below program.tree tables p), w) ∷ hand) w))) (over_left p h.0 hand (worth_at D))
      ∙ ap (Finished h.0.value) g.worth
      ∙ sym (finish (D ++ g.done) g.later h.0.value g.is_trail)
  rest_from (q ∷ ps) p first found D hand v i d (inr h) =
      let s = p.strand in
      let w = h.0.value in
      let r = over_right first p found i.0 (place_of q) h.0 i.1 in
      let g : HasGone D s.layers s.frame.instance w = gone_on D s.start s.layers s.frame w d r.0 in
      let more : Hand = (lowest s.frame (below program.tree tables p), w) ∷ hand in
      ap (λ c. answered program.tree tables (then_on c (λ w. pieces_left program.tree tables (q ∷ ps) ((lowest s.frame (below program.tree tables p), w) ∷ hand) w))) (over_left p h.0 hand (worth_at D))
      ∙ ap (λ a. answered program.tree tables (pieces_left program.tree tables (q ∷ ps) more w a)) (g.worth ∙ sym (left_worth (D ++ g.done) s.frame.instance w))
      ∙ rest_from ps q false i.0 ((D ++ g.done) ++ Leaves s.frame.instance (Ok w) ∷ []) more w i.2 (come_on D s.layers s.frame.instance w q.strand.start i.2.1.begins r.1 g) h.1

  pub over_rest : OverRunsAnswer program tables memory
  unfolding rest_of_run
  over_rest s p ps h e o =
      let i : FitAll program tables memory true (p ∷ ps) [] = subst (λ l. FitAll program tables memory true l []) e h in
      let d : HasCome [] p.strand.start = record { later = T; is_trail = refl; ends = subst (λ m. Ends m []) (sym (begins_root p.strand.start i.1.begins)) refl; quiet = refl } in
      ap (λ l. answered program.tree tables (pieces_left program.tree tables l [] (pos 0) (identities program.tree))) e
      ∙ rest_from ps p true [] [] [] (pos 0) i d o
