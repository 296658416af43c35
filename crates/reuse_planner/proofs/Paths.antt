-- Paths of steps, one after another, and the steps of workers that there are.
use Rattle.std.proofs.Common.{◌≡◌, Bool, true, false, cond, List, [], ◌∷◌, ◌++◌, Some, refl, sym, subst}
use Rattle.std.specs.List.{filter}
use Rattle.meaning.specs.Schedules.{RunState, RunStep, after_step}
use Rattle.positions.specs.Setting.{Setting}
use Rattle.stepped_runs.specs.Simulation.{LeadsTo}
use Rattle.worker_core.specs.Strands.{PlainStrands, run_of}
use Rattle.worker_core.specs.Cores.{PlainCore}
use Rattle.worker_core.specs.Keeps.{recalling}
use Rattle.reuse_planner.specs.Driven.{path_in, or_same_in, Follows}

along : (setting : Setting) (es fs : List RunStep) (x : RunState) → path_in setting x (es ++ fs) ≡ path_in setting (path_in setting x es) fs
along setting [] fs x = refl
along setting (e ∷ es) fs x = along setting es fs (or_same_in setting x (after_step setting.program setting.tables setting.memory x e))

one_more : (b : Bool) (e : RunStep) (es : List RunStep) → cond b (e ∷ es) es ≡ cond b (e ∷ []) [] ++ es
one_more true e es = refl
one_more false e es = refl

-- the first apart from the rest
pub first_apart : (test : RunStep → Bool) (e : RunStep) (es : List RunStep) → filter test (e ∷ es) ≡ filter test (e ∷ []) ++ filter test es
first_apart test e es = one_more (test e) e (filter test es)

-- what some steps lead to, others lead on
pub through : (c : PlainCore) (t u : PlainStrands) (es fs : List RunStep) → Follows es c t → Follows fs (record c { strands = t }) u → Follows (es ++ fs) c u
through c t u es fs f g k x r s =
    let m = f k x r s in
    subst (λ (y : RunState). LeadsTo (recalling c k) (Some y) (run_of u)) (sym (along (recalling c k) es fs x)) (g k (path_in (recalling c k) x es) m.0 m.1)
