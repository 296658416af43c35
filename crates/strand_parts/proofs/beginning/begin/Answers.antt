use Rattle.std.proofs.Common.{map, sym, subst}
use Rattle.meaning.specs.Statements.{beginning}
use Rattle.meaning.specs.TreeView.{tree}
use Rattle.linked_program.specs.Initials.{plain_initial, AreUpdatesBy}
use Rattle.strand_parts.proofs.Initials.{are_initials}
use Rattle.strand_parts.proofs.beginning.begin.Goals as goal

pub combine_all-requires-clause-fit : goal.combine_all-requires-clause-fit
combine_all-requires-clause-fit g c κs within =
    let es = beginning (tree c.args.program.now.program) in
    are_initials c.kinds.result.now c.initials.result.now es
    (subst (λ ks. AreUpdatesBy ks (map plain_initial c.initials.result.now) es) (sym c.kinds.ensures.kinds) (subst (λ is. AreUpdatesBy c.args.program.now.kinds is es) (sym c.initials.ensures.initials) c.beginning.ensures.updates))
