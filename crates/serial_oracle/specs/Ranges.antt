-- The bounds of a loop, as the code has them.
use Rattle.std.specs.Prelude.{◌≡◌, ℕ, ℤ, Result, Ok, Err}
use Rattle.meaning.specs.declared.FaultKind.{FaultKind}
use Rattle.meaning.specs.Outcome.{Out, ◌>>=◌, pure}
use Rattle.meaning.specs.Statements.{ranged}
use Rattle.serial_oracle.specs.declared.range.Range.{Range}

abbrev pub AreBounds : Result Range FaultKind → Result (ℤ × ℕ) FaultKind → Type 0
AreBounds (Ok r) o = o ≡ Ok (r.low, r.count)
AreBounds (Err kind) o = o ≡ Err kind

-- so many numbers from low on, if they are not too many
abbrev pub ranging : ℤ → ℕ → Out FaultKind (ℤ × ℕ)
ranging low n = ranged n >>= (λ m. pure (low, m))
