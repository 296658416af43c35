-- What is left to do of a run before its first step, and at its end.
use Rattle.std.proofs.Common.{Bool, true, ◌-◌, ℕ, suc, List, [], ◌∷◌, ◌++◌, ℤ, Result, Ok, Err, ◌≡◌, inl, inr, refl, sym, ap, ◌∙◌, subst}
use Rattle.meaning.specs.Tree.{Tree}
use Rattle.meaning.specs.Tables.{Tables}
use Rattle.meaning.specs.Outcome.{Log, Accumulators, Fault, Place, after, combined}
use Rattle.meaning.specs.Statements.{proc_of, fresh, reducers, identities, beginning, initial_values}
use Rattle.meaning.specs.Elision.{Answer, Finished, Faulted, answer_of, elide, from_scratch, main, start, depth_limit}
use Rattle.meaning.specs.Records.{Revised, with_kinds}
use Rattle.meaning.specs.Trail.{run, trail_at}
use Rattle.meaning.specs.SmallStep.{Start, Child, instance, half, Frame, Phase, entering, running, spawning, returning, leaving, broken, Parent, look_of, opened, Continuation}
use Rattle.meaning.specs.Layers.{Notes, notes}
use Rattle.meaning.specs.Rest.{then_on, blocks_left, child_left, entering_left, phase_left, parents_left, answered}
use Rattle.meaning.specs.RestOfRun.{with_hand_under, below, times_layers, rest_of_run}
use Rattle.meaning.specs.Strands.{State, Held, Ended, Stalled, BookStep}
use Rattle.meaning.specs.Strands as strands
use Rattle.meaning.specs.Tallies.{Tally}
use Rattle.meaning.specs.Schedules.{Memory, Piece, RunState, answer_by, answer_of_pieces, end_of}
use Rattle.trail_theory.specs.Right.{stretch, RightAt}
use Rattle.trail_theory.proofs.Joins.{one_layer}
use Rattle.trail_theory.proofs.Ends.{first_worth}
use Rattle.strand_theory.specs.Ready.{IsReady}
use Rattle.run_theory.specs.Theorems.{IsRightNow, RestBegins, RestEnds}
use Rattle.run_theory.proofs.Pieces.{ForSome, some_is}
use Rattle.run_theory.proofs.Courses.{then_pure, instance_left, seen_slot}
use Rattle.run_theory.proofs.Steps.{piece_of, FitPiece, FitAll}
use Rattle.strand_theory.proofs.Laws.{S, L}
use Rattle.strand_theory.proofs.Laws.{law}

module _ (program : Tree) (tables : Tables) where
  -- a child that is opened has its names' first values
  opened_left : (d : ℕ) (child : Child) (n : Place) (acc : Accumulators) → entering_left program tables (opened program d child n) child acc ≡ child_left program tables d child acc
  opened_left d (instance f vs) n acc =
      ap (λ env. blocks_left program tables d (proc_of program f).called ((proc_of program f).body ∷ []) env acc) (seen_slot (fresh (proc_of program f).names vs))
  opened_left d (half k job count i) n acc = refl

  answer_of_course : (r : Result ℤ Fault) (log : Log) (acc : Accumulators) → answered program tables (r, after log acc) ≡ answer_of acc (record { log = log; answer = r })
  answer_of_course (Ok v) log acc = refl
  answer_of_course (Err k) log acc = refl

  whole_left : (left : ℕ) (acc : Accumulators) → answered program tables (child_left program tables left (instance main []) acc) ≡ answer_of acc (elide program tables (suc left) start main [] acc)
  unfolding elide
  whole_left left acc =
      let o = elide program tables (suc left) start main [] acc in
      ap (answered program tables) (sym (instance_left program tables left main [] (depth_limit - left) (proc_of program main) acc)) ∙ answer_of_course o.answer o.log acc

  -- main is left to do, from the initial values on
  main_left : answered program tables (then_on (phase_left program tables (opened program (depth_limit - 1) (instance main []) []) (entering (instance main [])) (initial_values program)) (parents_left program tables [])) ≡ from_scratch program tables
  unfolding from_scratch
  main_left =
      ap (answered program tables) (then_pure (phase_left program tables (opened program (depth_limit - 1) (instance main []) []) (entering (instance main [])) (initial_values program))
      ∙ opened_left (depth_limit - 1) (instance main []) [] (initial_values program))
      ∙ whole_left (depth_limit - 1) (initial_values program)

module _ (program : Revised) (tables : Tables) (memory : Memory) (ready : IsReady program tables memory) where
  -- the identities, and then a stretch of the trail
  unit_of : (a b : Log) → a ++ b ≡ trail_at program.tree tables (S program tables memory) (look_of (L program tables memory)) → combined (identities program.tree) (with_kinds (reducers program.tree) (notes program.tree a).worth) ≡ (notes program.tree a).worth
  unit_of a b e = ap (λ n. n.worth) (law program tables memory ready [] [] a b e)

  pub begins : RestBegins program tables memory
  unfolding rest_of_run
  begins kits =
      let F = λ (acc : Accumulators). then_on (phase_left program.tree tables (opened program.tree (depth_limit - 1) (instance main []) []) (entering (instance main [])) acc) (parents_left program.tree tables []) in
      ap (answered program.tree tables) (then_pure (F (times_layers program.tree tables (identities program.tree) (notes program.tree (beginning program.tree) ∷ []))))
      ∙ ap (λ acc. answered program.tree tables (F acc)) (unit_of (beginning program.tree) (run program.tree tables (S program tables memory) (depth_limit - 1) (look_of (L program tables memory)) main [] []).events refl ∙ first_worth program.tree)
      ∙ main_left program.tree tables

  -- one layer, behind the identities
  unit_layer : (m : Start) (l : Notes) (fr : Frame) (v : ℤ) (t : List Parent) → RightAt program.tree tables (S program tables memory) (L program tables memory) m (l ∷ []) fr (leaving v) t → combined (identities program.tree) (with_kinds (reducers program.tree) l.worth) ≡ l.worth
  unit_layer m l fr v t h =
      let s = stretch h.segments in
      let one = (one_layer program.tree tables (S program tables memory) (L program tables memory) l h.segments h.logged).worth in
      subst (λ x. combined (identities program.tree) (with_kinds (reducers program.tree) x) ≡ x) one (ap (λ n. n.worth) (law program tables memory ready h.before [] s _ h.is_trail))

  abbrev LeftOver : Piece → ℕ → List BookStep → Answer → Type 0
  LeftOver p kits history a = rest_of_run program.tree tables (record { pieces = p ∷ []; kits = kits; history = history }) ≡ a

  finished_rest : (m : Start) (l : Notes) (fr : Frame) (v : ℤ) (t : List Parent) (ks : List Continuation) (st : State) (ta : Tally) (kits : ℕ) (history : List BookStep) → combined (identities program.tree) (with_kinds (reducers program.tree) l.worth) ≡ l.worth → t ≡ [] → ks ≡ []
      → LeftOver (piece_of m (l ∷ []) fr (leaving v) t ks st ta) kits history (Finished v l.worth)
  unfolding rest_of_run
  finished_rest m l fr v [] [] st ta kits history e a b = ap (Finished v) e
  finished_rest m l fr v [] (k ∷ ks) st ta kits history e a b = absurd cc
  finished_rest m l fr v (p ∷ t) ks st ta kits history e a b = absurd cc

  faulted_rest : (p : Piece) (k : Fault) (kits : ℕ) (history : List BookStep) → p.strand.phase ≡ broken k → LeftOver p kits history (Faulted k)
  unfolding rest_of_run
  faulted_rest p k kits history e =
      ap (λ ph. answered program.tree tables (then_on (then_on (phase_left program.tree tables p.strand.frame ph (times_layers program.tree tables (identities program.tree) p.strand.layers)) (parents_left program.tree tables (with_hand_under [] (below program.tree tables p)))) (λ w acc. (Ok w, acc)))) e

  rest_at : (found later : List Bool) (m : Start) (ls : List Notes) (fr : Frame) (ph : Phase) (t : List Parent) (ks : List Continuation) (st : State) (ta : Tally) (kits : ℕ) (history : List BookStep) → FitPiece program tables memory true (piece_of m ls fr ph t ks st ta) found later []
      → ForSome (LeftOver (piece_of m ls fr ph t ks st ta) kits history) (answer_by st ph ls)
  rest_at found later m (l ∷ []) fr (leaving v) t ks strands.Finished ta kits history i =
      elim i.fits [
        | inr c ↦ absurd (let q : leaving v ≡ broken c.fault = c.phase in cc)
        | inl h ↦ finished_rest m l fr v t ks strands.Finished ta kits history (unit_layer m l fr v t h.right) i.laid.under i.laid.deque
      ]
  rest_at found later m ls fr (broken k) t ks strands.Faulted ta kits history i = faulted_rest (piece_of m ls fr (broken k) t ks strands.Faulted ta) k kits history refl
  rest_at found later m [] fr (leaving v) t ks strands.Finished ta kits history i = tt
  rest_at found later m (l ∷ k ∷ ls) fr (leaving v) t ks strands.Finished ta kits history i = tt
  rest_at found later m ls fr (entering child) t ks strands.Finished ta kits history i = tt
  rest_at found later m ls fr (running todo) t ks strands.Finished ta kits history i = tt
  rest_at found later m ls fr (spawning d x child todo) t ks strands.Finished ta kits history i = tt
  rest_at found later m ls fr (returning v) t ks strands.Finished ta kits history i = tt
  rest_at found later m ls fr (broken k) t ks strands.Finished ta kits history i = tt
  rest_at found later m ls fr (entering child) t ks strands.Faulted ta kits history i = tt
  rest_at found later m ls fr (running todo) t ks strands.Faulted ta kits history i = tt
  rest_at found later m ls fr (spawning d x child todo) t ks strands.Faulted ta kits history i = tt
  rest_at found later m ls fr (returning v) t ks strands.Faulted ta kits history i = tt
  rest_at found later m ls fr (leaving v) t ks strands.Faulted ta kits history i = tt
  rest_at found later m ls fr ph t ks (Held w) ta kits history i = tt
  rest_at found later m ls fr ph t ks Ended ta kits history i = tt
  rest_at found later m ls fr ph t ks Stalled ta kits history i = tt

  rest_of : (s : RunState) (ps : List Piece) → s.pieces ≡ ps → IsRightNow program tables memory s → ForSome (λ a. rest_of_run program.tree tables s ≡ a) (answer_of_pieces ps)
  rest_of s [] e h = tt
  rest_of s (p ∷ []) e h =
      let g : FitAll program tables memory true (p ∷ []) [] = subst (λ ps. FitAll program tables memory true ps []) e h in
      subst (λ ps. ForSome (λ a. rest_of_run program.tree tables (record { pieces = ps; kits = s.kits; history = s.history }) ≡ a) (answer_of_pieces (p ∷ []))) (sym e)
      (rest_at [] g.0 p.strand.start p.strand.layers p.strand.frame p.strand.phase p.strand.under p.deque p.state p.tally s.kits s.history g.1)
  rest_of s (p ∷ q ∷ ps) e h = tt

  pub ends : RestEnds program tables memory
  ends s a h e = some_is (λ a. rest_of_run program.tree tables s ≡ a) (end_of s) a (rest_of s s.pieces refl h) e
