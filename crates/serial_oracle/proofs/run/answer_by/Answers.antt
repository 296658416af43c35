use Rattle.std.proofs.Common.{SFits, w64, rules}
use Rattle.std.proofs.lemmas.Int.{to_z-of_z}
use Rattle.serial_oracle.specs.Keeping.{kept}
use Rattle.serial_oracle.proofs.Noted.{record_answers}
use Rattle.serial_oracle.proofs.run.answer_by.Goals as goal

pub returns-in-Ok : goal.returns-in-Ok
returns-in-Ok c =
    let f : SFits w64 c.args.found.known.now.value = search rules in
    rw (to_z-of_z w64 c.args.found.known.now.value f) (record_answers c.args.scope.now c.args.journal.now c.note_reused.new.journal c.args.found.place (kept c.args.found.known.now) (c.args.name.now, c.args.args.now) c.requires.place c.in-Ok.ensures.changes c.in-Ok.ensures.reused c.in-Ok.ensures.executed)
