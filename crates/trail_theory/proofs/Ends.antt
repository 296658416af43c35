-- How strands begin and end.
use Rattle.std.proofs.Common.{◌-◌, ℕ, suc, List, [], ◌∷◌, ◌++◌, Option, Some, None, Ok, Err, ℤ, ◌≡◌, inr, refl, sym, ap, ◌∙◌, subst, append_assoc, append-nil}
use Rattle.meaning.specs.Tree.{Tree}
use Rattle.meaning.specs.Tables.{Tables}
use Rattle.meaning.specs.Outcome.{Log, Accumulators, Fault, Outcome, Place, Reads, Enters, Updates, Reuses, Begins, Syncs, Leaves, Faults, Marks, Spawns, Out, after}
use Rattle.meaning.specs.Statements.{identities, beginning, initial_values}
use Rattle.meaning.specs.Elision.{from_scratch, answer_of, Finished, Faulted, main, start, elide, depth_limit}
use Rattle.meaning.specs.Trail.{Trace, led, child_of, first, ended, doom_after, after_call, after_spawn, past_sync, opening, inner, run_inside, runner, run, sight_of, trail_at}
use Rattle.meaning.specs.SmallStep.{instance, root, Frame, leaving, broken, Parent, Lookup, look_of, env_of}
use Rattle.meaning.specs.Layers.{Notes, blank, notes, noted, noted_one}
use Rattle.meaning.specs.LayeredStrand.{first_layered}
use Rattle.trail_theory.specs.TaskFits.{sound}
use Rattle.trail_theory.specs.Right.{stretch, full_rest, RightAt, IsRight}
use Rattle.trail_theory.specs.Waiting.{HasNoReads}
use Rattle.trail_theory.proofs.Evaluations.{told_inside}
use Rattle.trail_theory.proofs.Beginnings.{beginning_told, beginning_synced}
use Rattle.trail_theory.proofs.Order.{same_split}
use Rattle.trail_theory.proofs.Slots.{new_fits}
use Rattle.trail_theory.proofs.Advances.{ordered_at}
use Rattle.trail_theory.proofs.Stepping.{noted_append}
use Rattle.trail_theory.proofs.SameNotes.{same_refl}
use Rattle.trail_theory.proofs.Joins.{one_layer}
use Rattle.trail_theory.proofs.Walks.{Closed, has_run}
use Rattle.trail_theory.specs.ElisionBeside.{forgotten, first_fault, Fits, Matches}
use Rattle.trail_theory.proofs.FirstFaults.{or_else, fault_append, quiet_first, told_none, opens_none, inside_none}
use Rattle.trail_theory.specs.ReadsAtEnd.{ReadsAtMainsEnd}
use Rattle.trail_theory.proofs.Elides.{forgotten_told, run_fits}
use Rattle.trail_theory.proofs.MainElides.{begun, begun_after, begun_fits, main_from_scratch}

-- ---- the first fault

abbrev fault_of : Outcome → Option Fault
fault_of (Ok v) = None
fault_of (Err k) = Some k

abbrev FaultsOf : Place → ℕ → Option Fault → Trace → Type 0
FaultsOf n c doom r = fault_of r.outcome ≡ or_else doom (first_fault r.events)

abbrev FaultsRun : Place → Trace → Type 0
FaultsRun n r = fault_of r.outcome ≡ first_fault r.events

faults_stop : (doom : Option Fault) (k : Fault) → fault_of (Err (first doom k)) ≡ or_else doom (Some k)
faults_stop None k = refl
faults_stop (Some j) k = refl

faults_over : (doom : Option Fault) (v : ℤ) → fault_of (ended doom v) ≡ or_else doom None
faults_over None v = refl
faults_over (Some j) v = refl

faults_call : (n : Place) (c : ℕ) (doom : Option Fault) (es : Log) (o : Outcome) (next : ℤ → Trace) → fault_of o ≡ first_fault es → ((v : ℤ) → FaultsOf n (suc c) doom (next v)) → FaultsOf n c doom (after_call doom (record { events = es; outcome = o }) next)
faults_call n c doom es (Ok v) next h g = g v ∙ ap (or_else doom) (sym (quiet_first es (next v).events (sym h)))
faults_call n c doom es (Err k) next h g = faults_stop doom k ∙ ap (or_else doom) (h ∙ ap first_fault (sym (append-nil es)))

faults_spawn : (n : Place) (c : ℕ) (doom : Option Fault) (es : Log) (o : Outcome) (next : Outcome → Trace) → fault_of o ≡ first_fault es → FaultsOf n (suc c) (doom_after doom o) (next o) → FaultsOf n c doom (after_spawn (child_of n c) (record { events = es; outcome = o }) next)
faults_spawn n c doom es (Ok v) next h g = g ∙ ap (or_else doom) (sym (quiet_first es (next (Ok v)).events (sym h)))
faults_spawn n c None es (Err k) next h g = g ∙ ap (λ o. or_else o (first_fault (next (Err k)).events)) h ∙ sym (fault_append es (next (Err k)).events)
faults_spawn n c (Some j) es (Err k) next h g = g

faults_sync : (n : Place) (c : ℕ) (doom : Option Fault) (r : Trace) → FaultsOf n c None r → FaultsOf n c doom (led (Syncs n ∷ []) (past_sync doom r))
faults_sync n c None r h = h
faults_sync n c (Some k) r h = refl

or_none : (o : Option Fault) → o ≡ or_else o None
or_none None = refl
or_none (Some k) = refl

faults : Closed FaultsOf FaultsRun
faults =
    record {
      stops = λ n c doom k. faults_stop doom k;
      overs = λ n c doom v. faults_over doom v;
      leds = λ n c doom es r t h. h ∙ ap (or_else doom) (sym (quiet_first es r.events (told_none es t)));
      calls = λ n c doom r next h g. faults_call n c doom r.events r.outcome next h g;
      spawns = λ n c doom r next h g. faults_spawn n c doom r.events r.outcome next h g;
      syncs = faults_sync;
      closes = λ n ops r t h. h ∙ or_none (first_fault r.events) ∙ sym (fault_append r.events (Leaves n r.outcome ∷ [])) ∙ sym (quiet_first ops (r.events ++ Leaves n r.outcome ∷ []) (opens_none ops t));
    }

-- the elision's log gives the layers' worth
pub worth_of : (l : Notes) (es : Log) → after (forgotten es) l.worth ≡ (noted l es).worth
worth_of l [] = refl
worth_of l (Reads r ∷ es) = worth_of (noted_one l (Reads r)) es
worth_of l (Enters f args d ∷ es) = worth_of (noted_one l (Enters f args d)) es
worth_of l (Updates n kind w ∷ es) = worth_of (noted_one l (Updates n kind w)) es
worth_of l (Reuses f args ws ∷ es) = worth_of l es
worth_of l (Begins n d ∷ es) = worth_of l es
worth_of l (Syncs n ∷ es) = worth_of l es
worth_of l (Spawns n ∷ es) = worth_of l es
worth_of l (Leaves n v ∷ es) = worth_of l es
worth_of l (Faults k ∷ es) = worth_of l es
worth_of l (Marks f args b ∷ es) = worth_of l es

-- the first strand's layer has the initial values
pub first_worth : (program : Tree) → (notes program (beginning program)).worth ≡ initial_values program
first_worth program = sym (worth_of (blank program) (beginning program)) ∙ ap (λ l. after l (identities program)) (forgotten_told (beginning program) (beginning_told program))

-- main's leaving stands at the trail's end
pub main_regroup : (a ops es : Log) (o : Outcome) → (a ++ (ops ++ es)) ++ Leaves [] o ∷ [] ≡ a ++ (ops ++ (es ++ Leaves [] o ∷ []))
main_regroup a ops es o = simp append_assoc

module _ (program : Tree) (tables : Tables) (sight : Accumulators) (lookup : Lookup) where
  unfoldable pub first_right : IsRight program tables sight lookup (first_layered program)
  first_right =
      record {
        before = [];
        segments = beginning program ∷ [];
        beyond = [];
        top = record { env = env_of program (instance main []); doom = None };
        others = [];
        is_trail = simp (append_assoc, append-nil);
        starts = refl;
        layered = tt;
        logged = (same_refl (notes program (beginning program)), tt);
        task = record {
          frame_fits = record { waiting = []; orderly = refl; slots = new_fits [] [] [] 0 (env_of program (instance main [])); doomed = sound };
          under_fits = tt;
          fringe = tt;
          stacked = tt;
        };
        inside = told_inside root (beginning program) (beginning_told program);
        reads = λ ruled. (inr (refl, (refl, beginning_synced program)), tt);
      }

  abbrev T : Log
  T = trail_at program tables sight (look_of lookup)

  abbrev whole : Trace
  whole = run program tables sight (depth_limit - 1) (look_of lookup) main [] []

  abbrev within_main : Trace
  within_main = run_inside program tables sight (runner program tables sight (depth_limit - 1) (inner program (look_of lookup) (depth_limit - 1) main [])) (depth_limit - 1) main [] []

  -- a strand of main that is over has done the whole trail
  pub at_end : (ls : List Notes) (fr : Frame) (v : ℤ) (h : RightAt program tables sight lookup root ls fr (leaving v) []) → fr.instance ≡ [] → (stretch h.segments ++ Leaves [] (Ok v) ∷ [] ≡ T) × (Ok v ≡ within_main.outcome)
  at_end ls fr v h e =
      let here = stretch h.segments in
      let ops = opening program (look_of lookup) (depth_limit - 1) main [] [] in
      let f : (h.before ++ here) ++ Leaves [] (Ok v) ∷ h.beyond ≡ T = subst (λ x. (h.before ++ here) ++ Leaves x (Ok v) ∷ h.beyond ≡ T) e (append_assoc h.before here (Leaves fr.instance (Ok v) ∷ h.beyond) ∙ h.is_trail) in
      let f' : (beginning program ++ (ops ++ within_main.events)) ++ Leaves [] within_main.outcome ∷ [] ≡ T = main_regroup (beginning program) ops within_main.events within_main.outcome in
      let q = same_split [] (h.before ++ here) h.beyond (beginning program ++ (ops ++ within_main.events)) [] (Ok v) within_main.outcome (ordered_at program tables sight lookup _ f) (ordered_at program tables sight lookup _ f') (f ∙ sym f') in
      (ap (λ b. (b ++ here) ++ Leaves [] (Ok v) ∷ []) (sym h.starts) ∙ ap (λ b. (h.before ++ here) ++ Leaves [] (Ok v) ∷ b) (sym q.later) ∙ f, q.value)

  -- so it has the serial run's value and accumulators
  finish_at : (l : Notes) (fr : Frame) (v : ℤ) → RightAt program tables sight lookup root (l ∷ []) fr (leaving v) [] → fr.instance ≡ []
      → (o : Out Fault ℤ) → Fits o T whole.outcome → (o.answer ≡ Ok v) × (after o.log (identities program) ≡ l.worth)
  finish_at l fr v h e o fits =
      let here = stretch h.segments in
      let q = at_end (l ∷ []) fr v h e in
      let z : o ≡ record { log = forgotten T; answer = Ok v } = (subst (λ w. Fits o T w) (sym q.1) fits).0 in
      let n : notes program T ≡ notes program here = ap (notes program) (sym q.0) ∙ noted_append (blank program) here (Leaves [] (Ok v) ∷ []) in
      (ap (λ x. x.answer) z, ap (λ x. after x.log (identities program)) z ∙ worth_of (blank program) T ∙ ap (λ x. x.worth) n ∙ (one_layer program tables sight lookup l h.segments h.logged).worth)

  -- a faulted strand at the trail's beginning has the serial run's first fault
  broken_at : (ls : List Notes) (fr : Frame) (k : Fault) (t : List Parent) → RightAt program tables sight lookup root ls fr (broken k) t → (o : Out Fault ℤ) → Fits o T whole.outcome → o.answer ≡ Err k
  broken_at ls fr k t h o fits =
      let e : stretch h.segments ++ (full_rest program tables sight lookup fr (broken k) t h.top h.others ++ h.beyond) ≡ T = rw h.starts at h.is_trail in
      let q : first_fault T ≡ Some k = ap first_fault (sym e) ∙ quiet_first (stretch h.segments) _ (inside_none root (stretch h.segments) h.inside) in
      let r : fault_of whole.outcome ≡ first_fault T = has_run FaultsOf FaultsRun faults program tables sight (depth_limit - 1) (look_of lookup) main [] [] ∙ sym (quiet_first (beginning program) whole.events (told_none (beginning program) (beginning_told program))) in
      (subst (λ w. Fits o T w) (is_err whole.outcome k (r ∙ q)) fits).0
    where
      is_err : (w : Outcome) (k : Fault) → fault_of w ≡ Some k → w ≡ Err k
      is_err (Ok v) k q = absurd cc
      is_err (Err j) k q = let r : j ≡ k = cc in ap Err r

  as_finished : (acc : Accumulators) (o : Out Fault ℤ) (v : ℤ) (w : Accumulators) → (o.answer ≡ Ok v) × (after o.log acc ≡ w) → answer_of acc o ≡ Finished v w
  as_finished acc o v w e = ap (λ r. answer_of acc (record { log = o.log; answer = r })) e.0 ∙ ap (Finished v) e.1

  as_faulted : (acc : Accumulators) (o : Out Fault ℤ) (k : Fault) → o.answer ≡ Err k → answer_of acc o ≡ Faulted k
  as_faulted acc o k e = ap (λ r. answer_of acc (record { log = o.log; answer = r })) e

  abbrev elided : Out Fault ℤ
  elided = elide program tables depth_limit start main [] (initial_values program)

  -- where main's elision is its stretch of the trail
  ends_by : Matches elided whole → (l : Notes) (fr : Frame) (v : ℤ) → RightAt program tables sight lookup root (l ∷ []) fr (leaving v) [] → fr.instance ≡ [] → from_scratch program tables ≡ Finished v l.worth
  unfolding from_scratch
  ends_by fits l fr v h e =
      let q = finish_at l fr v h e (begun program elided) (begun_fits program elided whole.events whole.outcome fits) in
      as_finished (initial_values program) elided v l.worth (q.0, sym (begun_after program elided) ∙ q.1)

  breaks_by : Matches elided whole → (ls : List Notes) (fr : Frame) (k : Fault) (t : List Parent) → RightAt program tables sight lookup root ls fr (broken k) t → from_scratch program tables ≡ Faulted k
  unfolding from_scratch
  breaks_by fits ls fr k t h = as_faulted (initial_values program) elided k (broken_at ls fr k t h (begun program elided) (begun_fits program elided whole.events whole.outcome fits))

  pub ends : HasNoReads program → (l : Notes) (fr : Frame) (v : ℤ) → RightAt program tables sight lookup root (l ∷ []) fr (leaving v) [] → fr.instance ≡ [] → from_scratch program tables ≡ Finished v l.worth
  ends nr = ends_by (run_fits program tables sight nr (depth_limit - 1) (look_of lookup) start main [] [] (initial_values program))

  pub breaks : HasNoReads program → (ls : List Notes) (fr : Frame) (k : Fault) (t : List Parent) → RightAt program tables sight lookup root ls fr (broken k) t → from_scratch program tables ≡ Faulted k
  breaks nr = breaks_by (run_fits program tables sight nr (depth_limit - 1) (look_of lookup) start main [] [] (initial_values program))

-- where reads stand at main's end
module _ (program : Tree) (tables : Tables) (lookup : Lookup) (ruled : ReadsAtMainsEnd program) where
  pub ends_read : (l : Notes) (fr : Frame) (v : ℤ) → RightAt program tables (sight_of program tables) lookup root (l ∷ []) fr (leaving v) [] → fr.instance ≡ [] → from_scratch program tables ≡ Finished v l.worth
  ends_read = ends_by program tables (sight_of program tables) lookup (main_from_scratch program tables ruled (look_of lookup))

  pub breaks_read : (ls : List Notes) (fr : Frame) (k : Fault) (t : List Parent) → RightAt program tables (sight_of program tables) lookup root ls fr (broken k) t → from_scratch program tables ≡ Faulted k
  breaks_read = breaks_by program tables (sight_of program tables) lookup (main_from_scratch program tables ruled (look_of lookup))
