use Rattle.std.proofs.Common.{Ok, SFits, w64, rules}
use Rattle.std.proofs.lemmas.Int.{to_z-of_z}
use Rattle.serial_oracle.specs.Keeping.{revised_in, tables_in, records_in}
use Rattle.serial_oracle.specs.Worths.{summary}
use Rattle.serial_oracle.proofs.Noted.{summary_begin}
use Rattle.serial_oracle.proofs.Scratch.{executes, reuses, finishes, halts, halt_executes, halt_reuses, always}
use Rattle.serial_oracle.proofs.answer.run_main.Goals as goal

pub returns-in-Ok-clause-answer : goal.returns-in-Ok-clause-answer
returns-in-Ok-clause-answer c =
    let f : SFits w64 c.in-Ok.value = search rules in
    finishes (revised_in c.args.scope.now) (tables_in c.args.scope.now) (records_in c.args.scope.now) (summary c.args.scope.now c.args.journal.now) (summary_begin c.args.scope.now c.args.journal.now c.requires.changes c.requires.no_executed c.requires.no_reused) c.in-Ok.value (summary c.args.scope.now c.enter.new.journal) c.finished.result c.in-Ok.ensures (rw (c.deref.ensures.value, to_z-of_z w64 c.in-Ok.value f) at c.finished.ensures)

pub returns-in-Ok-clause-executed : goal.returns-in-Ok-clause-executed
returns-in-Ok-clause-executed c = always c.finished.result _ (executes (revised_in c.args.scope.now) (tables_in c.args.scope.now) (records_in c.args.scope.now) (summary c.args.scope.now c.args.journal.now) (summary_begin c.args.scope.now c.args.journal.now c.requires.changes c.requires.no_executed c.requires.no_reused) (summary c.args.scope.now c.enter.new.journal) (Ok c.in-Ok.value) c.in-Ok.ensures)

pub returns-in-Ok-clause-reused : goal.returns-in-Ok-clause-reused
returns-in-Ok-clause-reused c = always c.finished.result _ (reuses (revised_in c.args.scope.now) (tables_in c.args.scope.now) (records_in c.args.scope.now) (summary c.args.scope.now c.args.journal.now) (summary_begin c.args.scope.now c.args.journal.now c.requires.changes c.requires.no_executed c.requires.no_reused) (summary c.args.scope.now c.enter.new.journal) (Ok c.in-Ok.value) c.in-Ok.ensures)

pub returns-in-Err-clause-answer : goal.returns-in-Err-clause-answer
returns-in-Err-clause-answer c = halts (revised_in c.args.scope.now) (tables_in c.args.scope.now) (records_in c.args.scope.now) (summary c.args.scope.now c.args.journal.now) (summary_begin c.args.scope.now c.args.journal.now c.requires.changes c.requires.no_executed c.requires.no_reused) c.in-Err.stop (summary c.args.scope.now c.enter.new.journal) c.halted.result c.in-Err.ensures c.halted.ensures

pub returns-in-Err-clause-executed : goal.returns-in-Err-clause-executed
returns-in-Err-clause-executed c = halt_executes (revised_in c.args.scope.now) (tables_in c.args.scope.now) (records_in c.args.scope.now) (summary c.args.scope.now c.args.journal.now) (summary_begin c.args.scope.now c.args.journal.now c.requires.changes c.requires.no_executed c.requires.no_reused) c.in-Err.stop (summary c.args.scope.now c.enter.new.journal) c.halted.result c.in-Err.ensures c.halted.ensures

pub returns-in-Err-clause-reused : goal.returns-in-Err-clause-reused
returns-in-Err-clause-reused c = halt_reuses (revised_in c.args.scope.now) (tables_in c.args.scope.now) (records_in c.args.scope.now) (summary c.args.scope.now c.args.journal.now) (summary_begin c.args.scope.now c.args.journal.now c.requires.changes c.requires.no_executed c.requires.no_reused) c.in-Err.stop (summary c.args.scope.now c.enter.new.journal) c.halted.result c.in-Err.ensures c.halted.ensures
