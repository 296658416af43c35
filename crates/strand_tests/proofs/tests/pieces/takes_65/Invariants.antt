use Rattle.std.proofs.Common.{◌≡◌}
use Rattle.monoid_laws.specs.declared.Kind.TheVariants.{List as ListKind}
use Rattle.strand_tests.proofs.tests.pieces.takes_65.Given as goal

abbrev pub invariant-loop-number : goal.invariant-loop-number
invariant-loop-number g l = g.V.View.kind_of l.view ≡ ListKind
