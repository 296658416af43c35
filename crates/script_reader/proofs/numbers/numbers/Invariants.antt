use Rattle.std.proofs.Common.{◌≡◌, map, drop}
use Rattle.meaning.specs.Script.{numbers_of}
use Rattle.script_reader.specs.Digits.{more_numbers}
use Rattle.script_reader.proofs.numbers.numbers.Given as goal

abbrev pub invariant-loop-word : goal.invariant-loop-word
invariant-loop-word l = more_numbers l.found.items (map (λ word. word.now) (drop l.word-index l.words)) ≡ numbers_of (map (λ word. word.now) l.fn.words)
