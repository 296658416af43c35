-- Whose layer is the topmost open one.
use Rattle.std.specs.Prelude.{ℕ, List, [], ◌∷◌, Option, Some, None}
use Rattle.positions.specs.Tallies.{PlainOpened}

-- how long the name is of the instance whose layer is the topmost open one
abbrev pub owner_of : List PlainOpened → Option ℕ
owner_of [] = None
owner_of (o ∷ os) = Some o.depth
