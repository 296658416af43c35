use Rattle.std.proofs.Common.{◌≡◌, ◌≤◌, ℕ, [], IfSome, drop}
use Rattle.meaning.specs.Script.{lines, define_from}
use Rattle.script_lines.specs.Lines.{IsLine, left_from}
use Rattle.script_lines.specs.Defines.{define_going}
use Rattle.script_lines.proofs.defines.end_of_define.Given as goal

abbrev pub invariant-loop-next : goal.invariant-loop-next
invariant-loop-next l = record {
  line : IfSome l.next (IsLine l.script);
  further : IfSome l.next (λ line. l.fn.first.begin ≤ line.begin);
  going : (begun : ℕ) → define_from begun [] l.fn.first.number (lines (drop l.fn.first.begin l.script)) ≡ define_going l.script l.fn.first.begin begun l.next;
}

abbrev pub decreases-loop-next : goal.decreases-loop-next
decreases-loop-next l = left_from l.script l.next
