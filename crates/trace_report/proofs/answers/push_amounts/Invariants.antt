use Rattle.std.proofs.Common.{◌≡◌, ◌++◌, flat_map, string_bytes, drop}
use Rattle.meaning.specs.Text.{spaced_amount}
use Rattle.trace_report.proofs.answers.push_amounts.Given as goal

-- what is written, and then the amounts that are left
abbrev pub invariant-loop-key : goal.invariant-loop-key
invariant-loop-key l = string_bytes l.text ++ flat_map spaced_amount (drop l.key-index l.amounts) ≡ string_bytes l.fn.text ++ flat_map spaced_amount l.fn.amounts
