use Rattle.meaning.specs.TreeView.{tree}
use Rattle.printing_theory.proofs.Round.{carried}
use Rattle.printing_theory.proofs.printing.print.Goals as goal

pub returns-clause-round_trip : goal.returns-clause-round_trip
returns-clause-round_trip c = carried (tree c.args.program.now) c.print.result c.print.ensures.printed
