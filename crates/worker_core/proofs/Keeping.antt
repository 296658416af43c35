-- A run that stands for one of the definitions goes on to do so after each step, taken or refused, until it has failed.
use Rattle.std.proofs.Common.{All, ◌≡◌, inl, inr, ℕ, Bool, true, false, length, map, List, Option, Some, None, Ok, Err, refl, sym, ap, subst, ◌∙◌}
use Rattle.monoid_laws.specs.Kinds.{IsMonoid}
use Rattle.meaning.specs.TreeView.{tree}
use Rattle.meaning.specs.Records.{Kept, IsSound}
use Rattle.meaning.specs.Strands.{replayed}
use Rattle.meaning.specs.Statements.{beginning}
use Rattle.meaning.specs.Schedules.{RunState, RunStep, first_state, after_step, recording_from}
use Rattle.trail_theory.specs.Order.{Every}
use Rattle.trail_theory.specs.OpenLayers.{IsNumbered}
use Rattle.strand_theory.specs.Ready.{IsReady}
use Rattle.linked_program.specs.TableNames.{columned_of}
use Rattle.linked_program.specs.Checked.{PlainChecked, IsChecked, revised_of}
use Rattle.linked_program.specs.Initials.{AreUpdatesBy}
use Rattle.input_tables.specs.Edited.{Edited}
use Rattle.record_theory.specs.Record.{PlainRecord}
use Rattle.record_theory.specs.InStep.{IsInStep}
use Rattle.record_theory.specs.Named.{HaveValues}
use Rattle.activations.specs.Given.{setting_over}
use Rattle.numbered_runs.specs.Named.{run_step}
use Rattle.stepped_runs.specs.Runs.{first_run, stepped, are_workers, line_of}
use Rattle.stepped_runs.specs.Ends.{HistoryGives}
use Rattle.stepped_runs.specs.Layered.{HasOneLayer}
use Rattle.stepped_runs.specs.Simulation.{LeadsTo, IsStepOf, IsNoStepOf, IsFirstOf}
use Rattle.numbered_runs.specs.declared.step.Step.{Step}
use Rattle.numbered_runs.specs.declared.step.Step.TheVariants as step
use Rattle.numbered_runs.specs.declared.refusal.Refusal.{Refusal}
use Rattle.numbered_runs.specs.declared.refusal.Refusal.TheVariants as refusal
use Rattle.run_theory.specs.UnflaggedRuns.{unflagged_run}
use Rattle.stepped_runs.proofs.Steps.{steps_agree, refusals_agree, first_agrees}
use Rattle.stepped_runs.proofs.Halves.{refused_kept}
use Rattle.stepped_runs.proofs.Layered.{strands_layered}
use Rattle.stepped_runs.proofs.Ends.{keeps_history}
use Rattle.stepped_runs.proofs.Workers.{steps_by}
use Rattle.worker_core.specs.Strands.{PlainStrands, run_of}
use Rattle.worker_core.specs.Folds.{KeepsProducts}
use Rattle.worker_core.specs.Cores.{StandsAfter, is_failure}
use Rattle.worker_core.specs.Going.{AreHeldBy}
use Rattle.numbered_runs.specs.Sound.{AreSoundFor, setting_by}
use Rattle.worker_core.specs.Keeps.{IsOnPath, KeepsRun, StaysRun}
use Rattle.worker_core.proofs.Going.{held_products}

module _ (program : PlainChecked) (tables : Edited) (records : List PlainRecord) where
  -- ---- the beginning

  pub begins : (s : PlainStrands) (kits : ℕ) → IsChecked program → AreUpdatesBy program.kinds program.initials (beginning (tree program.program))
      → run_of s ≡ first_run program.codes program.kinds program.initials program.main kits
      → (k : AreSoundFor program records) → IsFirstOf (setting_by program tables records k) kits (run_of s)
  begins s kits checked updates is k =
      subst (IsFirstOf (setting_by program tables records k) kits) (sym is)
      (first_agrees (setting_by program tables records k) (record { codes = checked.linked; kinds = checked.kinds_are }) program.initials updates program.main kits checked.main_is)

  pub keeps_first : (s : PlainStrands) (kits : ℕ) → ((kept : List Kept) → Every (IsSound (revised_of program)) kept → IsReady (revised_of program) tables.tables (recording_from kept)) → IsNumbered (revised_of program)
      → program.tables ≡ columned_of tables.tables → IsChecked program → All IsMonoid program.kinds → AreSoundFor program records → HaveValues program.kinds records → IsInStep tables.tables records
      → AreUpdatesBy program.kinds program.initials (beginning (tree program.program)) → run_of s ≡ first_run program.codes program.kinds program.initials program.main kits → KeepsRun program tables records s
  keeps_first s kits ready numbered are checked monoids sound values step updates is = record {
    sound = sound;
    values = values;
    in_step = step;
    checked = checked;
    monoids = monoids;
    prepared = λ k. record {
      ready = ready k.kept k.sound;
      numbered = numbered;
      tables = are;
      linked = record { codes = checked.linked; kinds = checked.kinds_are };
      records = record { records = k.stand; recording = refl; in_order = checked.each };
    };
    path = λ k.
        let first : IsFirstOf (setting_by program tables records k) kits (run_of s) = begins s kits checked updates is k in
        record { run = first_state (tree program.program) kits; reached = first.0; stands = first.1 };
  }

  -- ---- a step that is taken

  pub step_is : (s t : PlainStrands) (e : RunStep) → KeepsRun program tables records s → stepped (setting_over program tables records) (run_of s) e ≡ Ok (run_of t)
      → (k : AreSoundFor program records) → IsStepOf (setting_by program tables records k) e (run_of s) (run_of t)
  step_is s t e h is k = steps_agree (setting_by program tables records k) (h.prepared k) (run_of s) (run_of t) e is

  path_to : (k : AreSoundFor program records) (o : Option RunState) (t : PlainStrands) → LeadsTo (setting_by program tables records k) o (run_of t) → IsOnPath (setting_by program tables records k) t
  path_to k None t h = absurd h
  path_to k (Some y) t h = record { run = y; reached = h.0; stands = h.1 }

  pub keeps_step : (s t : PlainStrands) (e : RunStep) → KeepsRun program tables records s → stepped (setting_over program tables records) (run_of s) e ≡ Ok (run_of t) → KeepsRun program tables records t
  keeps_step s t e h is = record {
    sound = h.sound;
    values = h.values;
    in_step = h.in_step;
    checked = h.checked;
    monoids = h.monoids;
    prepared = h.prepared;
    path = λ k. path_to k (after_step (revised_of program) tables.tables (recording_from k.kept) (h.path k).run e) t (step_is s t e h is k (h.path k).run (h.path k).reached (h.path k).stands);
  }

  -- ---- a step that is refused

  pub no_step_is : (s : PlainStrands) (e : RunStep) (f : Refusal) → KeepsRun program tables records s → stepped (setting_over program tables records) (run_of s) e ≡ Err f
      → (k : AreSoundFor program records) → IsNoStepOf (setting_by program tables records k) e (run_of s)
  no_step_is s e f h is k = refusals_agree (setting_by program tables records k) (h.prepared k) (run_of s) e f is

  keeps_same : (s t : PlainStrands) → KeepsRun program tables records s → t ≡ s → KeepsRun program tables records t
  keeps_same s t h e = subst (KeepsRun program tables records) (sym e) h

  keeps_products : (s t : PlainStrands) → KeepsRun program tables records s → KeepsProducts s t → KeepsRun program tables records t
  keeps_products s t h (inl e) = keeps_same s t h e
  keeps_products s t h (inr u) = record {
    sound = h.sound;
    values = h.values;
    in_step = h.in_step;
    checked = h.checked;
    monoids = h.monoids;
    prepared = h.prepared;
    path = λ k. record {
      run = (h.path k).run;
      reached = (h.path k).reached;
      stands = refused_kept (setting_by program tables records k) (run_of s) (run_of t)
          (record { pieces = u.1; kits = ap (λ (x : PlainStrands). length x.kits) u.0; history = ap (λ (x : PlainStrands). x.history) u.0 })
          (unflagged_run (h.path k).run) (h.path k).stands;
    };
  }

  -- ---- whatever came of a step by the workers

  module _ (n : ℕ) (s t : PlainStrands) (h : KeepsRun program tables records s) (held : AreHeldBy n s) where
    stays_same : (failed : Bool) → t ≡ s → StaysRun failed program tables records n t
    stays_same false e = (keeps_same s t h e, subst (AreHeldBy n) (sym e) held)
    stays_same true e = (s, h, record { lines = ap (λ (x : PlainStrands). map line_of x.pieces) e; kits = ap (λ (x : PlainStrands). length x.kits) e; total = ap (λ (x : PlainStrands). x.total) e; history = ap (λ (x : PlainStrands). x.history) e })

    pub stays_taken : (e : Step) → are_workers n (run_step e) ≡ true → stepped (setting_over program tables records) (run_of s) (run_step e) ≡ Ok (run_of t) → StaysRun false program tables records n t
    stays_taken e by is = (keeps_step s t (run_step e) h is, λ some. steps_by n (setting_over program tables records) (run_of s) (run_of t) (run_step e) by is (held some))

    refused_by : (e : Step) (f : Refusal) → StandsAfter e f s t → StaysRun (is_failure e f) program tables records n t
    refused_by (step.Fold w q) refusal.NoMemory u = (keeps_products s t h u, held_products n s t held u)
    refused_by (step.Fold w q) refusal.Busy u = stays_same false u
    refused_by (step.Fold w q) refusal.Nothing u = stays_same false u
    refused_by (step.Fold w q) refusal.NoKit u = stays_same false u
    refused_by (step.Fold w q) refusal.NotThere u = stays_same false u
    refused_by (step.Work w) refusal.NoMemory u = (s, h, u)
    refused_by (step.Work w) refusal.Busy u = stays_same false u
    refused_by (step.Work w) refusal.Nothing u = stays_same false u
    refused_by (step.Work w) refusal.NoKit u = stays_same false u
    refused_by (step.Work w) refusal.NotThere u = stays_same false u
    refused_by (step.Push w) f u = stays_same (is_failure (step.Push w) f) u
    refused_by (step.Inline w) f u = stays_same (is_failure (step.Inline w) f) u
    refused_by (step.Pop w) f u = stays_same (is_failure (step.Pop w) f) u
    refused_by (step.Stall w) f u = stays_same (is_failure (step.Stall w) f) u
    refused_by (step.Steal w v) f u = stays_same (is_failure (step.Steal w v) f) u

    pub stays_refused : (e : Step) (f : Refusal) (failed : Bool) → failed ≡ is_failure e f → StandsAfter e f s t → StaysRun failed program tables records n t
    stays_refused e f failed is u = subst (λ b. StaysRun b program tables records n t) (sym is) (refused_by e f u)

  -- ---- layers and the history

  pub keeps_layers : (s : PlainStrands) → KeepsRun program tables records s → All HasOneLayer s.pieces
  keeps_layers s h = strands_layered (setting_by program tables records h.sound) (h.prepared h.sound) (run_of s) (h.path h.sound).run (h.path h.sound).reached (h.path h.sound).stands

  keeps_legal : (s : PlainStrands) → KeepsRun program tables records s → HistoryGives (run_of s)
  keeps_legal s h = keeps_history (setting_by program tables records h.sound) (h.prepared h.sound).ready (run_of s) (h.path h.sound).run (h.path h.sound).reached (h.path h.sound).stands

  pub stays_legal : (failed : Bool) (n : ℕ) (s : PlainStrands) → StaysRun failed program tables records n s → HistoryGives (run_of s)
  stays_legal false n s h = keeps_legal s h.0
  stays_legal true n s h =
      let legal : HistoryGives (run_of h.0) = keeps_legal h.0 h.1 in
      (legal.0, ap replayed h.2.history ∙ legal.1, legal.2 ∙ sym h.2.lines)

  -- until it has failed
  pub stays_kept : (failed : Bool) (n : ℕ) (s : PlainStrands) → StaysRun failed program tables records n s → failed ≡ false → KeepsRun program tables records s × AreHeldBy n s
  stays_kept false n s h e = h
  stays_kept true n s h e = absurd cc
