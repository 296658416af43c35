use Rattle.std.proofs.Common.{◌≡◌, drop}
use Rattle.meaning.specs.Every.{every}
use Rattle.meaning.specs.Script.{is_shown}
use Rattle.script_lines.proofs.words.is_all_shown.Given as goal

abbrev pub invariant-loop-byte : goal.invariant-loop-byte
invariant-loop-byte l = every is_shown (drop l.byte-index l.line) ≡ every is_shown l.fn.line
