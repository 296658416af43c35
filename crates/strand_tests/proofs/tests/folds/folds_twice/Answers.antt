use Rattle.std.proofs.Common.{◌≡◌, List, [], ◌∷◌, sym, ◌∙◌, subst}
use Rattle.std.proofs.lemmas.List.Elements.{All-cons, All-nil}
use Rattle.std.specs.Prelude.{All}
use Rattle.monoid_laws.specs.Kinds.{IsMonoid}
use Rattle.monoid_laws.specs.declared.Kind.{Kind}
use Rattle.monoid_laws.specs.declared.Kind.TheVariants.{List as ListKind}
use Rattle.monoid_laws.proofs.Laws.{IsMonoid-kind}
use Rattle.strand_tests.proofs.tests.folds.folds_twice.Goals as goal

two : All IsMonoid (ListKind ∷ ListKind ∷ [])
two = All-cons IsMonoid ListKind (ListKind ∷ []) (IsMonoid-kind ListKind tt) (All-cons IsMonoid ListKind [] (IsMonoid-kind ListKind tt) (All-nil IsMonoid))

at_two : (cs : List Kind) → cs ≡ ListKind ∷ ListKind ∷ [] → All IsMonoid cs
at_two cs e = subst (All IsMonoid) (sym e) two

pub fold-requires-clause-monoids : goal.fold-requires-clause-monoids
fold-requires-clause-monoids g c κs within = at_two c.args.left.now.kinds c.requires.left_kinds

pub fold-requires-2-clause-monoids : goal.fold-requires-2-clause-monoids
fold-requires-2-clause-monoids g c κs within = at_two c.fold.new.self.kinds (c.fold.ensures.left_kinds ∙ c.requires.left_kinds)
