use Rattle.std.proofs.Common.{◌≡◌, ◌≤◌, length, drop, vec_capacity}
use Rattle.reuse_planner.proofs.Playing.{DoesAll}
use Rattle.reuse_planner.proofs.stepped.obey_all.Given as goal

-- an answer to each command so far, room for all, and with the commands that are left all are done
abbrev pub invariant-loop-command : goal.invariant-loop-command
invariant-loop-command g l = record {
  counted : length l.answers.items ≡ l.command-index;
  room : length l.commands ≤ vec_capacity l.answers;
  does : DoesAll l.commands (drop l.command-index l.commands) l.answers.items l.fn.session l.session;
}
