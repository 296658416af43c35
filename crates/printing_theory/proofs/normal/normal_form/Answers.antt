use Rattle.meaning.specs.TreeView.{tree, lines}
use Rattle.printing_theory.proofs.Forms.{formed}
use Rattle.printing_theory.proofs.normal.normal_form.Goals as goal

pub returns-clause-normal : goal.returns-clause-normal
returns-clause-normal c =
    formed c.args.program.now _ (tree c.in_ok-program.program) (lines c.in_ok-program.program) c.in_ok-program.ensures.found c.in_ok-print.ensures.printed
