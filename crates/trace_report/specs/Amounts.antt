-- An amount beside one that is held.
use Rattle.std.specs.Prelude.{ℤ, ◌+ℤ◌, Option, Some, None}
use Rattle.monoid_laws.specs.Kinds.{wrap}

abbrev pub summed : ℤ → Option ℤ → ℤ
summed v None = v
summed v (Some held) = wrap (v +ℤ held)
