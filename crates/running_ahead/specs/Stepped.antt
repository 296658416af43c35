-- Many small steps of a strand where a kit is free, and where a spawned child may be a call.
use Rattle.std.specs.Prelude.{◌≡◌, true}
use Rattle.positions.specs.declared.phase.Phase.TheVariants.{AtSpawn}
use Rattle.positions.specs.Setting.{Setting}
use Rattle.positions.specs.Strands.{PlainStrand}
use Rattle.positions.specs.Advance.{advanced}
use Rattle.positions.specs.Moves.{inlined}
use Rattle.positions.specs.Simulation.{IsInlined}
use Rattle.answered_loops.specs.Ways.{IsSmall}

-- small steps with a free kit, and spawned children made calls, lead from the one to the other
pub data IsStepped (setting : Setting) (s : PlainStrand) : PlainStrand → Type 0 where
  here : IsStepped setting s s
  on : (t u : PlainStrand) → IsStepped setting s t → u ≡ advanced setting true t → IsStepped setting s u
  as_call : (t u : PlainStrand) → IsStepped setting s t → t.phase ≡ AtSpawn → u ≡ inlined t → IsStepped setting s u

-- of which each small step is that of the definitions, and takes as many kits, and each child that is made a call is one that they make a call
pub data AreStepsOf (setting : Setting) (s : PlainStrand) : PlainStrand → Type 0 where
  here : AreStepsOf setting s s
  on : (t u : PlainStrand) → AreStepsOf setting s t → u ≡ advanced setting true t → IsSmall setting true t u → AreStepsOf setting s u
  as_call : (t u : PlainStrand) → AreStepsOf setting s t → t.phase ≡ AtSpawn → u ≡ inlined t → IsInlined setting t u → AreStepsOf setting s u
