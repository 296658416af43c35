use Rattle.program_printer.proofs.Parts.{names_taken}
use Rattle.program_printer.proofs.declaration.parameters.Goals as goal

pub returns : goal.returns
returns c = rw (c.min.ensures, c.deref-names.ensures.value) (names_taken c.args.procedure.now.parameters c.args.procedure.now.names.items)
