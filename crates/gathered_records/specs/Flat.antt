-- Values that take no memory.
use Rattle.monoid_laws.specs.Worth.{Worth, number, best}
use Rattle.gathered_records.specs.declared.flat.Flat.{Flat}
use Rattle.gathered_records.specs.declared.flat.Flat.TheVariants.{Number, Best}

abbrev pub worth_of : Flat → Worth
worth_of (Number n) = number n
worth_of (Best b) = best b
