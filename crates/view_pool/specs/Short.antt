-- What a short value is.
use Rattle.std.specs.Prelude.{Some, pos}
use Rattle.monoid_laws.specs.declared.Val.{Val}
use Rattle.monoid_laws.specs.declared.Val.TheVariants.{Int, Arg}
use Rattle.view_pool.specs.declared.short_value.ShortValue.{ShortValue}
use Rattle.view_pool.specs.declared.short_value.ShortValue.TheVariants.{Number, Best}

abbrev pub value_in : ShortValue → Val
value_in (Number number) = Int number
value_in (Best second first) = Arg (Some (first, pos second))
