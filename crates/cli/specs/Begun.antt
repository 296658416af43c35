-- Why a session isn't begun.
use Rattle.std.specs.Prelude.{◌≡◌, ℕ, List}
use Rattle.cli.specs.declared.beginning.BeginError.{BeginError}
use Rattle.cli.specs.declared.beginning.BeginError.TheVariants.{Prepare, NoKit}
use Rattle.prepared_program.specs.Preparing.{IsRefused}

-- the texts are refused, or it was to have no kits
abbrev pub IsUnbegun : List ℕ → List ℕ → ℕ → BeginError → Type 0
IsUnbegun text tables_text kits (Prepare e) = IsRefused text tables_text e
IsUnbegun text tables_text kits NoKit = kits ≡ 0
