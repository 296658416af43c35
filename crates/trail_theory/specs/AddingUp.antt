-- Tallies add up: each execution has a new record, an open layer, or is counted as unrecorded.
use Rattle.std.specs.Prelude.{◌≡◌, ◌+◌, List, [], length}
use Rattle.meaning.specs.Layers.{Notes}
use Rattle.meaning.specs.Records.{Revised}
use Rattle.meaning.specs.SmallStep.{Step}
use Rattle.meaning.specs.Tallies.{Tally, no_tally, tallied, tallies_joined}

abbrev pub AddsUp : Tally → Type 0
AddsUp t = t.executed ≡ length t.made + (length t.opened + t.unrecorded)

-- through every step, and where a strand that is folded into the one to its left has no open layer
pub record TalliesAddUp (program : Revised) : Type 0 where
  pub begins : AddsUp no_tally
  pub advances : (ls : List Notes) (step : Step) (t : Tally) → AddsUp t → AddsUp (tallied program ls step t)
  pub joins : (t u : Tally) → u.opened ≡ [] → AddsUp t → AddsUp u → AddsUp (tallies_joined t u)
  pub ends : (t : Tally) → AddsUp t → t.opened ≡ [] → t.unrecorded ≡ 0 → t.executed ≡ length t.made
