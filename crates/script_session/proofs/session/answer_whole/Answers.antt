use Rattle.script_session.specs.Sessions.{answers_of}
use Rattle.program_endings.proofs.Written.{nothing_written}
use Rattle.script_session.proofs.session.answer_whole.Goals as goal

pub returns-in_err-script-clause-beginning : goal.returns-in_err-script-clause-beginning
returns-in_err-script-clause-beginning g c =
    nothing_written (g.R.Read.remaining c.args.reader.now) (g.W.Write.contents c.args.writer.now) (answers_of c.args.session.now)
