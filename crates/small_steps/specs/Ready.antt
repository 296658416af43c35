-- What lies ready at a spawn.
use Rattle.std.specs.Prelude.{◌≡◌, ℕ, ◌<◌, List, length}
use Rattle.positions.specs.declared.phase.Phase.{Phase}
use Rattle.positions.specs.declared.phase.Phase.TheVariants.{Entering, Running, AtSpawn, Returning, Leaving, Broken}

-- a strand at a spawn has the child over an instance that waits, and its name once more
abbrev pub LiesReady : {A : Type 0} → Phase → List A → List ℕ → List ℕ → Type 0
LiesReady Entering below place path = Unit {0}
LiesReady Running below place path = Unit {0}
LiesReady AtSpawn below place path = (0 < length below) × (place ≡ path)
LiesReady (Returning v) below place path = Unit {0}
LiesReady (Leaving v) below place path = Unit {0}
LiesReady (Broken f) below place path = Unit {0}

abbrev pub IsNotSpawned : Phase → Type 0
IsNotSpawned Entering = Unit {0}
IsNotSpawned Running = Unit {0}
IsNotSpawned AtSpawn = ⊥
IsNotSpawned (Returning v) = Unit {0}
IsNotSpawned (Leaving v) = Unit {0}
IsNotSpawned (Broken f) = Unit {0}
