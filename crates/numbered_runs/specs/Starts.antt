-- Why a run can't begin.
use Rattle.std.specs.Prelude.{◌≡◌, ◌<◌, List, [], length}
use Rattle.monoid_laws.specs.declared.Kind.{Kind}
use Rattle.view_pool.specs.Stock.{Stock}
use Rattle.numbered_runs.specs.declared.refusal.StartError.{StartError}
use Rattle.numbered_runs.specs.declared.refusal.StartError.TheVariants as start

abbrev pub CannotStart : Stock (List Kind) → StartError → Type 0
CannotStart pool start.NoKit = pool.kits ≡ []
CannotStart pool start.NoMemory = 0 < length pool.kits
