use Rattle.std.proofs.Common.{◌≡◌, ◌≤◌, length}
use Rattle.kept_session.specs.Sessions.{standing_of}
use Rattle.script_session.specs.Coming.{HasAnswered}
use Rattle.script_session.proofs.live.answer_lines.Given as goal

-- the commands of the lines so far are answered, and nothing is noted
abbrev pub invariant-loop : goal.invariant-loop
invariant-loop g l = record {
  room : l.so_far.script.passed ≤ l.counter;
  few : l.so_far.runs ≤ l.counter;
  free : length l.session.kits.kits ≡ length l.fn.session.kits.kits;
  unmarked : l.failures ≡ l.fn.failures;
  noted : g.N.Notes.failed l.notes ≡ g.N.Notes.failed l.fn.notes;
  answered : HasAnswered (standing_of l.fn.session) (standing_of l.session) l.so_far.runs l.so_far.script
      (g.R.Read.remaining l.fn.reader) (g.R.Read.remaining l.reader) (g.W.Write.contents l.fn.writer) (g.W.Write.contents l.writer);
}
