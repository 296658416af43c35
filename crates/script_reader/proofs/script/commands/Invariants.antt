use Rattle.std.proofs.Common.{◌≡◌, ◌++◌, IfSome, map}
use Rattle.meaning.specs.Script.{commands}
use Rattle.script_reader.specs.Said.{said}
use Rattle.script_lines.specs.Lines.{IsLine, left_from}
use Rattle.script_reader.specs.Commands.{commands_at}
use Rattle.script_reader.proofs.script.commands.Given as goal

abbrev pub invariant-loop-next : goal.invariant-loop-next
invariant-loop-next l = record {
  line : IfSome l.next (IsLine l.script);
  found : map said l.found.items ++ commands_at l.script l.next ≡ commands l.script;
}

abbrev pub decreases-loop-next : goal.decreases-loop-next
decreases-loop-next l = left_from l.script l.next
