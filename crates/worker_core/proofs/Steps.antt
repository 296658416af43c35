-- A step of a run is the definitions', and a refusal is where they have none.
use Rattle.std.proofs.Common.{◌≡◌, ◌⊎◌, inl, inr, Bool, true, false, List, Result, Ok, Err, refl, sym, subst}
use Rattle.std.specs.Prelude.{OnOk, IfErr}
use Rattle.linked_program.specs.Checked.{PlainChecked}
use Rattle.input_tables.specs.Edited.{Edited}
use Rattle.record_theory.specs.Record.{PlainRecord}
use Rattle.activations.specs.Given.{setting_over}
use Rattle.numbered_runs.specs.Named.{run_step}
use Rattle.stepped_runs.specs.Runs.{PlainRun, stepped}
use Rattle.numbered_runs.specs.declared.step.Step.{Step}
use Rattle.numbered_runs.specs.declared.refusal.Refusal.{Refusal}
use Rattle.numbered_runs.specs.declared.refusal.Refusal.TheVariants.{NoMemory}
use Rattle.worker_core.specs.Moves.{RefusedAs}
use Rattle.worker_core.specs.Strands.{PlainStrands, run_of}
use Rattle.worker_core.specs.Cores.{PlainCore, takes_memory, stepped_on}
use Rattle.worker_core.specs.Keeps.{KeepsRun, IsStep, IsNoStep}
use Rattle.worker_core.proofs.Keeping.{step_is, no_step_is}

step_taken : (e : Step) (c d : PlainCore) → KeepsRun c.program c.tables c.records c.strands → stepped_on c e ≡ Ok (run_of d.strands) → IsStep e c d
step_taken e c d h is = step_is c.program c.tables c.records c.strands d.strands (run_step e) h is

refused_by : (e : Step) (c : PlainCore) (lacks : Bool) (r : Result PlainRun Refusal) (f : Refusal) → KeepsRun c.program c.tables c.records c.strands → stepped_on c e ≡ r → RefusedAs lacks r f → (f ≡ NoMemory) ⊎ IsNoStep e c
refused_by e c true (Ok p) f k is h = inl h
refused_by e c false (Ok p) f k is h = absurd h
refused_by e c lacks (Err g) f k is h = inr (λ o. no_step_is c.program c.tables c.records c.strands (run_step e) g k is)

step_refused : (e : Step) (c : PlainCore) (f : Refusal) → KeepsRun c.program c.tables c.records c.strands → RefusedAs (takes_memory e) (stepped_on c e) f → (f ≡ NoMemory) ⊎ IsNoStep e c
step_refused e c f k h = refused_by e c (takes_memory e) (stepped_on c e) f k refl h

-- whatever came of it
pub step_is_taken : {A : Type 0} (r : Result A Refusal) (e : Step) (c d : PlainCore) → KeepsRun c.program c.tables c.records c.strands → OnOk r (stepped_on c e ≡ Ok (run_of d.strands)) → OnOk r (IsStep e c d)
step_is_taken (Ok a) e c d h is = step_taken e c d h is
step_is_taken (Err f) e c d h is = tt

pub step_is_refused : {A : Type 0} (r : Result A Refusal) (e : Step) (c : PlainCore) → KeepsRun c.program c.tables c.records c.strands → IfErr r (RefusedAs (takes_memory e) (stepped_on c e)) → IfErr r (λ f. (f ≡ NoMemory) ⊎ IsNoStep e c)
step_is_refused (Ok a) e c h t = tt
step_is_refused (Err f) e c h t = step_refused e c f h t

-- ---- a step whose contract speaks of all tables and records

module _ (program : PlainChecked) (tables : Edited) (records : List PlainRecord) {A : Type 0} where
  pub stepped_at : (r : Result A Refusal) (e d : Step) (s t : PlainStrands) → e ≡ d → OnOk r ((ts : Edited) (rs : List PlainRecord) → stepped (setting_over program ts rs) (run_of s) (run_step d) ≡ Ok (run_of t))
      → OnOk r (stepped (setting_over program tables records) (run_of s) (run_step e) ≡ Ok (run_of t))
  stepped_at (Ok a) e d s t is h = subst (λ x. stepped (setting_over program tables records) (run_of s) (run_step x) ≡ Ok (run_of t)) (sym is) (h tables records)
  stepped_at (Err f) e d s t is h = tt

  pub refused_at : (r : Result A Refusal) (e d : Step) (s : PlainStrands) → e ≡ d → IfErr r (λ f. (ts : Edited) (rs : List PlainRecord) → RefusedAs (takes_memory d) (stepped (setting_over program ts rs) (run_of s) (run_step d)) f)
      → IfErr r (RefusedAs (takes_memory e) (stepped (setting_over program tables records) (run_of s) (run_step e)))
  refused_at (Ok a) e d s is h = tt
  refused_at (Err f) e d s is h = subst (λ x. RefusedAs (takes_memory x) (stepped (setting_over program tables records) (run_of s) (run_step x)) f) (sym is) (h tables records)
