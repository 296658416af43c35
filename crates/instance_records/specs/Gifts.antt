-- What an instance gave to one reducer, in few bytes.
use Rattle.std.specs.Prelude.{ℕ, Some, pos}
use Rattle.monoid_laws.specs.declared.Val.{Val}
use Rattle.monoid_laws.specs.declared.Val.TheVariants as v
use Rattle.instance_records.specs.declared.gift.Gift.{Gift}
use Rattle.instance_records.specs.declared.gift.Gift.TheVariants.{Number, Best, Other}

-- the reducer's number with the value
abbrev pub given_by : Gift → ℕ × Val
given_by (Number reducer number) = (reducer, v.Int number)
given_by (Best reducer second first) = (reducer, v.Arg (Some (first, pos second)))
given_by (Other held) = held.value
