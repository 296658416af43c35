use Rattle.std.proofs.Common.{◌≡◌, ◌+◌, drop}
use Rattle.std.specs.List.{position_or_len}
use Rattle.meaning.specs.Script.{is_line_end}
use Rattle.script_lines.specs.Lines.{end_from}
use Rattle.script_lines.proofs.lines.end_of.Given as goal

abbrev pub invariant-loop-byte : goal.invariant-loop-byte
invariant-loop-byte l = record {
  passed : l.end ≡ l.begin + l.byte-index;
  left : l.end + position_or_len is_line_end (drop l.byte-index l.byte-items) ≡ end_from l.script l.begin;
}
