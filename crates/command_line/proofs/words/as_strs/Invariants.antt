use Rattle.std.proofs.Common.{◌≡◌, ◌++◌, map, drop, string_bytes}
use Rattle.command_line.proofs.words.as_strs.Given as goal

-- the words lent so far, and then those that are left
abbrev pub invariant-loop-word : goal.invariant-loop-word
invariant-loop-word l = map (λ word. word.now) l.words.items ++ map string_bytes (drop l.word-index l.held) ≡ map string_bytes l.held
