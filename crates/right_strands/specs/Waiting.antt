-- What it is for the definitions that two neighbours leave no name waiting.
use Rattle.std.specs.Prelude.{◌≡◌, ℤ, Bool}
use Rattle.meaning.specs.LayeredStrand as definitions
use Rattle.meaning.specs.LayeredStrand.{LayeredStrand}
use Rattle.meaning.specs.Tallies.{Tally}
use Rattle.meaning.specs.Schedules.{may_join}
use Rattle.positions.specs.Setting.{Setting}
use Rattle.positions.specs.Strands.{PlainStrand}
use Rattle.positions.specs.Stands.{StandsFor}

-- the definitions say so of what the strands stand for, once they are joined
abbrev pub DecidesWaiting : Setting → PlainStrand → PlainStrand → Bool → Type 0
DecidesWaiting setting l r b =
    (x y : LayeredStrand) (t u : Tally) (v : ℤ) → StandsFor setting l x t → StandsFor setting r y u
    → may_join setting.program setting.tables setting.memory x (definitions.joined setting.program.tree x v y) ≡ b
