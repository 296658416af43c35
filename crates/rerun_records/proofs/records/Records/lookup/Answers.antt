use Rattle.std.proofs.Common.{sym}
use Rattle.linked_program.specs.Checked.{revised_of}
use Rattle.record_theory.proofs.Lookups.{looks_up, none_valid}
use Rattle.rerun_records.proofs.records.Records.lookup.Goals as goal

pub returns-in-Some-clause-named : goal.returns-in-Some-clause-named
returns-in-Some-clause-named c = λ ks kept known.
    rw (c.valid.ensures.valid, c.in-Some.ensures.number, c.arguments.ensures.arguments, c.procedure.ensures.procedure)
    (looks_up (revised_of c.args.program.now) c.args.program.now.tables c.args.program.now.kinds c.args.tables.now.tables c.revised.ensures.each known c.args.depth c.args.key.now.0 c.args.key.now.1 ks c.args.self.now kept)

pub returns-in-None-clause-named : goal.returns-in-None-clause-named
returns-in-None-clause-named c = λ ks kept known.
    none_valid (revised_of c.args.program.now) c.args.program.now.tables c.args.program.now.kinds c.args.tables.now.tables c.args.depth c.args.key.now.0 c.args.key.now.1 ks c.args.self.now kept (rw c.procedure.ensures.procedure at (sym c.in-None.ensures.known))
