-- At a spawn an instance waits below the child.
use Rattle.std.proofs.Common.{arith, ◌≡◌, ℕ, ◌<◌, List, length, subst}
use Rattle.std.specs.Prelude.{reverse}
use Rattle.std.proofs.lemmas.List.{length-reverse}
use Rattle.positions.specs.declared.phase.Phase.{Phase}
use Rattle.positions.specs.declared.phase.Phase.TheVariants.{AtSpawn}
use Rattle.small_steps.specs.Ready.{LiesReady}

pub parent_waits : {A : Type 0} (ph : Phase) (below : List A) (place path : List ℕ) → LiesReady ph below place path → ph ≡ AtSpawn → 0 < length (reverse below)
parent_waits ph below place path h e =
    let less : 0 < length below = (subst (λ q. LiesReady q below place path) e h).0 in
    let same : length (reverse below) ≡ length below = length-reverse below in
    omega arith
