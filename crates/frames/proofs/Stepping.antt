-- Many small steps where a kit is free are those of the definitions.
use Rattle.std.proofs.Common.{◌≡◌, true, sym, ◌∙◌, subst}
use Rattle.meaning.specs.Schedules.{Memory}
use Rattle.positions.specs.Setting.{Setting, IsLinked, HasItsTables, HasItsRecords}
use Rattle.positions.specs.Strands.{PlainStrand}
use Rattle.positions.specs.Advance.{advanced}
use Rattle.positions.specs.Simulation.{IsSmallStep, KitsFollow, IsInlined}
use Rattle.position_theory.proofs.Stepping.{small_step_is}
use Rattle.position_theory.proofs.Kits.{kits_follow}
use Rattle.position_theory.proofs.Moves.{inlined_is}
use Rattle.answered_loops.proofs.Memories.{advanced_same}
use Rattle.running_ahead.specs.Stepped.{IsStepped, AreStepsOf, here, on, as_call}

module _ (setting : Setting) where
  -- the steps are those of the definitions, and so are the children that are made calls, whichever records by name there are
  pub are_steps_of : (memory : Memory) → HasItsTables (record setting { memory = memory }) → IsLinked (record setting { memory = memory }) → HasItsRecords (record setting { memory = memory })
      → (s t : PlainStrand) → IsStepped setting s t → AreStepsOf (record setting { memory = memory }) s t
  are_steps_of memory same linked known s t here = here
  are_steps_of memory same linked known s t (on u v p e) =
      let i = record setting { memory = memory } in
      let is : advanced i true u ≡ v = sym (e ∙ advanced_same setting memory true u) in
      on u v (are_steps_of memory same linked known s u p) (sym is) (record {
        step = subst (λ (z : PlainStrand). IsSmallStep i true u z) is (small_step_is i same linked known true u);
        kits = subst (λ (z : PlainStrand). KitsFollow i true u z) is (kits_follow i same linked known true u);
      })
  are_steps_of memory same linked known s t (as_call u v p spawn e) =
      let i = record setting { memory = memory } in
      as_call u v (are_steps_of memory same linked known s u p) spawn e (subst (λ (z : PlainStrand). IsInlined i u z) (sym e) (inlined_is i u))
