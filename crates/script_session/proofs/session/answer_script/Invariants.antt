use Rattle.std.proofs.Common.{◌≡◌, ◌++◌, ◌≤◌, ℕ, List, length, map, drop, take}
use Rattle.std.specs.Io.KnownBytes.{Appends}
use Rattle.script_reader.specs.Said.{said}
use Rattle.kept_session.specs.Sessions.{standing_of}
use Rattle.script_session.specs.Answers.{answers_from, left_by_commands}
use Rattle.script_session.proofs.session.answer_script.Given as goal

-- the answers written so far, and those of the commands that are left, from the session that those before have left
abbrev pub invariant-loop-command : goal.invariant-loop-command
invariant-loop-command g l = record {
  free : length l.session.kits.kits ≡ length l.fn.session.kits.kits;
  few : l.runs ≤ l.command-index;
  unmarked : l.failures ≡ l.fn.failures;
  noted : g.N.Notes.failed l.notes ≡ g.N.Notes.failed l.fn.notes;
  behind : standing_of l.session ≡ left_by_commands (standing_of l.fn.session) (map said (take l.command-index l.command-items));
  written : (done : List ℕ) × Appends (g.W.Write.contents l.fn.writer) (g.W.Write.contents l.writer) done
      × (done ++ answers_from (standing_of l.session) l.runs (map said (drop l.command-index l.command-items))
      ≡ answers_from (standing_of l.fn.session) 0 (map said l.command-items));
}
