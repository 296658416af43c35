use Rattle.std.proofs.Common.{sym, subst}
use Rattle.meaning.specs.Commits.{committed}
use Rattle.linked_program.specs.Checked.{revised_of}
use Rattle.record_theory.specs.Named.{AreKept, HasValuesIfAnswers, HaveValues}
use Rattle.record_theory.proofs.Puts.{all_put_in}
use Rattle.record_theory.proofs.Lookups.{put_all}
use Rattle.rerun_records.proofs.OneTime.{read_now_once}
use Rattle.rerun_records.proofs.records.Records.commit.Goals as goal

pub put-requires : goal.put-requires
put-requires c = record { once = read_now_once c.args.tables.now.tables c.args.records.items c.requires.read_now }

pub returns-clause-named : goal.returns-clause-named
returns-clause-named c = λ ks js kept made.
    let program = c.args.program.now in
    subst (AreKept program (committed ks js)) (sym c.in_ok-put.ensures.put.put) (put_all (revised_of program) program.tables program.kinds ks js c.args.self.now c.args.records.items kept made)

pub returns-clause-values : goal.returns-clause-values
returns-clause-values c = λ kinds old made.
    subst (HaveValues kinds) (sym c.in_ok-put.ensures.put.put) (all_put_in (HasValuesIfAnswers kinds) c.args.self.now c.args.records.items old made)
