use Rattle.std.proofs.Common.{sym, ◌∙◌}
use Rattle.meaning.specs.Every.{every}
use Rattle.record_theory.specs.Validity.{note_agrees, has_revision, record_holds}
use Rattle.record_theory.specs.InStep.{reads_agree}
use Rattle.record_theory.proofs.Members.{left_is, every_weaker}
use Rattle.program_tests.proofs.tests.records.making.commit_all.Goals as goal

pub commit-requires-clause-read_now : goal.commit-requires-clause-read_now
commit-requires-clause-read_now g c =
    let revisions = c.args.program.now.revisions in
    let tables = c.args.tables.now.tables in
    every_weaker (record_holds revisions tables) (reads_agree tables) c.args.made.items (λ r h. left_is (every (note_agrees tables) r.reads) (every (has_revision revisions) r.entered) h)
    (rw c.deref.ensures.value at (sym c.all_hold.ensures.hold ∙ c.if-not-all_hold.false))
