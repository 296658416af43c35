-- Laying a strand down, in runs of numbers and in those of the definitions.
use Rattle.std.proofs.Common.{◌≡◌, ℕ, nat_lt, Bool, true, false, List, [], ◌∷◌, length, suc, Option, None, refl, sym, ◌∙◌, ap, subst, arith}
use Rattle.std.specs.Prelude.{ℤ, ◌&&◌}
use Rattle.meaning.specs.Tree.{Tree}
use Rattle.meaning.specs.Outcome.{Place, Fault}
use Rattle.meaning.specs.SmallStep.{Phase as NamedPhase, entering, running, spawning, returning, leaving, broken, Parent, Frame, is_entry as is_entry_by, Step, moved, taken, paused as paused_step, micro, Continuation}
use Rattle.meaning.specs.Layers.{bottom, total}
use Rattle.meaning.specs.Tallies.{valid_record}
use Rattle.meaning.specs.Strands.{State, Ended, Stalled, BookStep}
use Rattle.meaning.specs.Strands as strands
use Rattle.meaning.specs.Schedules.{Piece, step_of, bottom_alone}
use Rattle.meaning.specs.Schedules as schedules
use Rattle.trail_theory.specs.OwnLayers.{is_top_by_length, frame_by}
use Rattle.run_theory.proofs.UnflaggedRuns.{pauses_quiet, returns_quiet, pauses_whatever_is_read}
use Rattle.positions.specs.Setting.{Setting}
use Rattle.positions.specs.declared.phase.Phase.{Phase}
use Rattle.positions.specs.declared.phase.Phase.TheVariants as phase
use Rattle.positions.specs.declared.phase.Fault.{Fault as NumberedFault}
use Rattle.positions.specs.declared.phase.Paused.{Paused}
use Rattle.positions.specs.declared.phase.Paused.TheVariants as paused
use Rattle.positions.specs.Activations.{PlainActivation}
use Rattle.positions.specs.Strands.{PlainStrand, PlainTask, is_entry, IsLayeredAt}
use Rattle.positions.specs.Nesting.{NestAt}
use Rattle.positions.specs.Advance.{next_statement, sync_pause, is_sync, bottom_pause, leaving_pause, pause_at, pause_of}
use Rattle.positions.specs.Moves.{lowest_alone}
use Rattle.positions.specs.Stands.{AreParents, StandsAt, StandsFor, named_fault}
use Rattle.positions.specs.Simulation.{named_pause, IsTaken, IsPauseBy, small_step}
use Rattle.position_theory.proofs.Working.{working_is}
use Rattle.position_theory.proofs.Pauses.{pause_is}
use Rattle.position_theory.proofs.Moves.{alone_is}
use Rattle.stepped_runs.specs.Pieces.{PlainPiece, laid, stalled_at}
use Rattle.stepped_runs.specs.Stands.{IsBelowMain, IsLaidAs, StandForTasks, StandsForPiece}
use Rattle.stepped_runs.proofs.Agreeing.{piece_place, Agrees}
use Rattle.stepped_runs.proofs.Layered.{notes_long}

-- a strand that has no fault and hasn't ended at its bottom
abbrev IsOnItsWay : Paused → Type 0
IsOnItsWay paused.Working = Unit {0}
IsOnItsWay paused.AtSpawn = Unit {0}
IsOnItsWay paused.AtSync = Unit {0}
IsOnItsWay _ = ⊥

abbrev LaidAtSync : Paused → Phase → PlainStrand → Type 0
LaidAtSync paused.AtSync ph s = IsLaidAs Stalled ph s
LaidAtSync _ ph s = Unit {0}

on_its_way : (b : Bool) → IsOnItsWay (sync_pause b)
on_its_way true = tt
on_its_way false = tt

laid_running : (s : PlainStrand) (a b : Bool) → is_entry s ≡ a → LaidAtSync (sync_pause (a && b)) phase.Running s
laid_running s true true e = e
laid_running s true false e = tt
laid_running s false b e = tt

laid_returning : (v : ℤ) (s : PlainStrand) (a : Bool) → is_entry s ≡ a → LaidAtSync (sync_pause a) (phase.Returning v) s
laid_returning v s true e = e
laid_returning v s false e = tt

module _ (setting : Setting) where
  abbrev t : Tree
  t = setting.program.tree

  none_under : (path : Place) (under : List Parent) → AreParents setting path [] under → under ≡ []
  none_under path [] h = refl
  none_under path (p ∷ under) h = absurd h

  module _ (kits kits' : ℕ) (same : kits' ≡ kits) (p : PlainPiece) (x : Piece) (h : StandsForPiece setting p x) where
    abbrev Lays : Paused → List PlainTask → Option schedules.Change → Type 0
    Lays c tasks o = Agrees setting (stalled_at c tasks kits p) o

    -- ---- as it is

    laid_as : (st : State) (step : Place → BookStep) → IsLaidAs st p.strand.phase p.strand → Agrees setting (laid kits p p.strand st step) (schedules.laid setting.program setting.tables setting.memory kits' x x.strand st step)
    laid_as st step l = record {
      pieces = record { strand = h.strand; layered = h.layered; nests = h.nests; tasks = tt; state = refl; laid = l };
      kits = same;
      noted = ap (λ n. step n ∷ []) (piece_place setting p x h);
    }

    -- ---- by the small step

    abbrev paused_by : Step → Option schedules.Change
    paused_by st = schedules.stalled_by setting.program setting.tables setting.memory kits' x st

    -- whether a kit is free
    abbrev free : Bool
    free = setting.memory.recording && nat_lt 0 kits'

    abbrev step_there : Step
    step_there = small_step setting free x.strand x.tally

    -- neither a flag nor what a read gives says whether a strand is paused
    abbrev step_as : Frame → NamedPhase → Step
    step_as fr ph = micro t setting.tables (valid_record setting.program setting.tables setting.memory.records) free (bottom x.strand.layers) x.strand.start fr ph x.strand.under

    flag_quiet : (ph : NamedPhase) → paused_by (step_as (frame_by is_top_by_length ph x.tally.opened x.strand.frame) ph) ≡ paused_by (step_as x.strand.frame ph)
    flag_quiet (returning v) = returns_quiet setting.program setting.tables setting.memory kits' x (is_entry_by x.strand.start x.strand.frame.instance) _ _ _ _ _ x.strand.under x.strand.under
    flag_quiet (entering child) = refl
    flag_quiet (running todo) = refl
    flag_quiet (spawning d into child todo) = refl
    flag_quiet (leaving v) = refl
    flag_quiet (broken k) = refl

    same_pause : paused_by (step_of setting.program setting.tables setting.memory kits' x.strand) ≡ paused_by step_there
    same_pause =
        let s = x.strand in
        sym (pauses_quiet setting.program setting.tables setting.memory kits' x (step_as (frame_by is_top_by_length s.phase x.tally.opened s.frame) s.phase) ∙ flag_quiet s.phase
        ∙ pauses_whatever_is_read setting.program setting.tables setting.memory kits' x s.start s.frame s.under (bottom s.layers) (total t s.layers).worth s.phase)

    none_taken : (st : Step) → IsTaken st → paused_by st ≡ None
    none_taken (moved l es fr ph u) k = refl
    none_taken (taken es r fr ph u) k = refl
    none_taken (paused_step e) k = absurd k

    paused_there : (c : Paused) → pause_of setting.codes p.strand ≡ c → IsPauseBy setting (named_pause c) free x.strand x.tally
    paused_there c e = subst (λ c. IsPauseBy setting (named_pause c) free x.strand x.tally) e (pause_is setting p.strand free x.strand x.tally h.strand)

    with_none : (c : Paused) → pause_of setting.codes p.strand ≡ c → IsOnItsWay c → LaidAtSync c p.strand.phase p.strand → Lays c [] (paused_by step_there)
    with_none paused.Working e w l = subst (Lays paused.Working []) (sym (none_taken step_there (working_is setting p.strand e free x.strand x.tally h.strand))) tt
    with_none paused.AtSpawn e w l = subst (λ st. Lays paused.AtSpawn [] (paused_by st)) (sym (paused_there paused.AtSpawn e)) tt
    with_none paused.AtSync e w l = subst (λ st. Lays paused.AtSync [] (paused_by st)) (sym (paused_there paused.AtSync e)) (laid_as Stalled strands.Stall l)
    with_none paused.Returned e w l = absurd w
    with_none paused.Finished e w l = absurd w
    with_none paused.Faulted e w l = absurd w

    with_some : (c : Paused) (k : PlainTask) (ks : List PlainTask) → IsOnItsWay c → Lays c (k ∷ ks) None
    with_some paused.Working k ks w = tt
    with_some paused.AtSpawn k ks w = tt
    with_some paused.AtSync k ks w = tt
    with_some paused.Returned k ks w = absurd w
    with_some paused.Finished k ks w = absurd w
    with_some paused.Faulted k ks w = absurd w

    by_step : (c : Paused) → pause_of setting.codes p.strand ≡ c → IsOnItsWay c → LaidAtSync c p.strand.phase p.strand → (on : List Continuation → Option schedules.Change)
        → on [] ≡ paused_by (step_of setting.program setting.tables setting.memory kits' x.strand) → ((k : Continuation) (ks : List Continuation) → on (k ∷ ks) ≡ None) → (tasks : List PlainTask) (ks : List Continuation) → StandForTasks setting tasks ks → Lays c tasks (on ks)
    by_step c e w l on none some [] [] r =
        subst (Lays c []) (sym (none ∙ same_pause)) (with_none c e w l)
    by_step c e w l on none some [] (k ∷ ks) r = absurd r
    by_step c e w l on none some (j ∷ js) [] r = absurd r
    by_step c e w l on none some (j ∷ js) (k ∷ ks) r = subst (Lays c (j ∷ js)) (sym (some k ks)) (with_some c j js w)

    -- ---- at the bottom

    abbrev ends_at : Place → Option schedules.Change
    ends_at n = schedules.left_by setting.program setting.tables setting.memory kits' x n

    at_bottom : (v : ℤ) (path : Place) (tasks : List PlainTask) (ks : List Continuation) → p.strand.phase ≡ phase.Leaving v → p.strand.path ≡ path → p.strand.below ≡ [] → x.strand.frame.instance ≡ path → StandForTasks setting tasks ks → Lays (bottom_pause path) tasks (schedules.stalled_at setting.program setting.tables setting.memory kits' x (leaving v) [] ks)
    at_bottom v [] [] [] e m b n r =
        subst (λ m. Lays paused.Finished [] (ends_at m)) (sym n) (laid_as strands.Finished strands.Finish (subst (λ ph. IsLaidAs strands.Finished ph p.strand) (sym e) (m, b)))
    at_bottom v (k ∷ path) [] [] e m b n r =
        subst (λ m. Lays paused.Returned [] (ends_at m)) (sym n) (laid_as Ended strands.End (subst (λ ph. IsLaidAs Ended ph p.strand) (sym e) (subst IsBelowMain (sym m) tt)))
    at_bottom v path [] (k ∷ ks) e m b n r = absurd r
    at_bottom v path (j ∷ js) [] e m b n r = absurd r
    at_bottom v [] (j ∷ js) (k ∷ ks) e m b n r = tt
    at_bottom v (i ∷ path) (j ∷ js) (k ∷ ks) e m b n r = tt

    -- ---- with a fault

    at_fault : (k : Fault) (under : List Parent) (ks : List Continuation) (f : NumberedFault) → p.strand.phase ≡ phase.Broken f → x.strand.phase ≡ broken k → Lays paused.Faulted p.deque (schedules.stalled_at setting.program setting.tables setting.memory kits' x (broken k) under ks)
    at_fault k under ks f e b = record {
      pieces = record {
        strand = subst (λ ph. StandsFor setting (lowest_alone p.strand) (record { start = x.strand.start; layers = bottom_alone setting.program setting.tables setting.memory x.strand.layers; frame = x.strand.frame; phase = ph; under = x.strand.under }) x.tally) b
            (alone_is setting p.strand x.strand x.tally h.strand);
        layered = subst (λ ph. IsLayeredAt ph (lowest_alone p.strand)) (sym e) tt;
        nests = subst (λ ph. NestAt setting.codes ph (lowest_alone p.strand)) (sym e) tt;
        tasks = tt;
        state = refl;
        laid = subst (λ ph. IsLaidAs strands.Faulted ph (lowest_alone p.strand)) (sym e) refl;
      };
      kits =
          (let long : length x.strand.layers ≡ suc (length p.strand.lower) = notes_long setting p.strand.start p.strand.layer p.strand.lower x.strand.layers h.strand.layers in
          let e : kits' ≡ kits = same in
          omega arith);
      noted = ap (λ n. strands.Fault n ∷ []) (piece_place setting p x h);
    }

    -- ---- by what comes next

    abbrev Stalls : NamedPhase → List Parent → Phase → Type 0
    Stalls nph under ph = Lays (pause_at setting.codes ph p.strand) p.deque (schedules.stalled_at setting.program setting.tables setting.memory kits' x nph under x.deque)

    point : (ph : Phase) → p.strand.phase ≡ ph → pause_of setting.codes p.strand ≡ pause_at setting.codes ph p.strand
    point ph e = ap (λ q. pause_at setting.codes q p.strand) e

    left_there : (v : ℤ) (below : List PlainActivation) (under : List Parent) → p.strand.phase ≡ phase.Leaving v → p.strand.below ≡ below → x.strand.frame.instance ≡ p.strand.path → AreParents setting p.strand.path below under → Stalls (leaving v) under (phase.Leaving v)
    left_there v [] under e b n r =
        subst (λ us. Stalls (leaving v) us (phase.Leaving v)) (sym (none_under p.strand.path under r))
        (subst (λ bs. Lays (leaving_pause bs p.strand.path) p.deque (schedules.stalled_at setting.program setting.tables setting.memory kits' x (leaving v) [] x.deque)) (sym b)
        (at_bottom v p.strand.path p.deque x.deque e refl b n h.tasks))
    left_there v (a ∷ below) [] e b n r = absurd r
    left_there v (a ∷ below) (q ∷ under) e b n r =
        let c : pause_at setting.codes (phase.Leaving v) p.strand ≡ paused.Working = ap (λ bs. leaving_pause bs p.strand.path) b in
        subst (λ c. Lays c p.deque (schedules.stalled_at setting.program setting.tables setting.memory kits' x (leaving v) (q ∷ under) x.deque)) (sym c)
        (by_step paused.Working (point (phase.Leaving v) e ∙ c) tt tt (schedules.stalled_at setting.program setting.tables setting.memory kits' x (leaving v) (q ∷ under)) refl (λ k ks. refl) p.deque x.deque h.tasks)

    stalled_where : (ph : Phase) (below : List PlainActivation) → p.strand.phase ≡ ph → p.strand.below ≡ below → StandsAt setting ph below p.strand x.strand → Stalls x.strand.phase x.strand.under ph
    stalled_where phase.Entering below e b i =
        subst (λ nph. Stalls nph x.strand.under phase.Entering) (sym i.phase)
        (by_step paused.Working (point phase.Entering e) tt tt (schedules.stalled_at setting.program setting.tables setting.memory kits' x (entering i.child) x.strand.under) refl (λ k ks. refl) p.deque x.deque h.tasks)
    stalled_where phase.Running below e b i =
        let met = is_entry p.strand && is_sync (next_statement setting.codes p.strand) in
        subst (λ nph. Stalls nph x.strand.under phase.Running) (sym i.phase)
        (by_step (sync_pause met) (point phase.Running e) (on_its_way met) (subst (λ ph. LaidAtSync (sync_pause met) ph p.strand) (sym e) (laid_running p.strand (is_entry p.strand) (is_sync (next_statement setting.codes p.strand)) refl)) (schedules.stalled_at setting.program setting.tables setting.memory kits' x (running i.todo) x.strand.under) refl (λ k ks. refl) p.deque x.deque h.tasks)
    stalled_where phase.AtSpawn [] e b i = absurd i
    stalled_where phase.AtSpawn (a ∷ below) e b i =
        subst (λ nph. Stalls nph x.strand.under phase.AtSpawn) (sym i.phase)
        (by_step paused.AtSpawn (point phase.AtSpawn e) tt tt (schedules.stalled_at setting.program setting.tables setting.memory kits' x (spawning p.strand.top.left a.into i.child i.todo) x.strand.under) refl (λ k ks. refl) p.deque x.deque h.tasks)
    stalled_where (phase.Returning v) below e b i =
        let met = is_entry p.strand in
        subst (λ nph. Stalls nph x.strand.under (phase.Returning v)) (sym i.phase)
        (by_step (sync_pause met) (point (phase.Returning v) e) (on_its_way met) (subst (λ ph. LaidAtSync (sync_pause met) ph p.strand) (sym e) (laid_returning v p.strand met refl)) (schedules.stalled_at setting.program setting.tables setting.memory kits' x (returning v) x.strand.under) refl (λ k ks. refl) p.deque x.deque h.tasks)
    stalled_where (phase.Leaving v) below e b i = subst (λ nph. Stalls nph x.strand.under (phase.Leaving v)) (sym i.phase) (left_there v below x.strand.under e b (ap (λ fr. fr.instance) i.frame) i.under)
    stalled_where (phase.Broken f) below e b i = subst (λ nph. Stalls nph x.strand.under (phase.Broken f)) (sym i) (at_fault (named_fault setting f) x.strand.under x.deque f e i)

    pub stalled_agrees : Agrees setting (stalled_at (pause_of setting.codes p.strand) p.deque kits p) (schedules.stalled setting.program setting.tables setting.memory kits' x)
    stalled_agrees = stalled_where p.strand.phase p.strand.below refl refl h.strand.now
