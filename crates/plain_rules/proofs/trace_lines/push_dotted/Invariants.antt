use Rattle.std.proofs.Common.{◌≡◌, ◌++◌, flat_map, string_bytes, drop}
use Rattle.plain_rules.specs.TraceLines.{dotted}
use Rattle.plain_rules.proofs.trace_lines.push_dotted.Given as goal

-- what is written, and then the numbers that are left
abbrev pub invariant-loop-number : goal.invariant-loop-number
invariant-loop-number l = string_bytes l.text ++ flat_map dotted (drop l.number-index l.numbers) ≡ string_bytes l.fn.text ++ flat_map dotted l.fn.numbers
