-- What a view of one of two sorts is seen as.
use Rattle.monoid_laws.specs.Worth.{Worth}
use Rattle.monoid_laws.specs.declared.Kind.{Kind}
use Rattle.view_pool.specs.declared.either_view.EitherView.{EitherView}
use Rattle.view_pool.specs.declared.either_view.EitherView.TheVariants.{Plain, Flat}

abbrev pub kind_in : EitherView → Kind
kind_in (Plain v) = v.value.kind
kind_in (Flat v) = v.value.kind

abbrev pub worth_in : EitherView → Worth
worth_in (Plain v) = v.value.worth
worth_in (Flat v) = v.value.worth
