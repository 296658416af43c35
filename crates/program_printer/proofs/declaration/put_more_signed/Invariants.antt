use Rattle.std.proofs.Common.{◌≡◌, ◌++◌, List, string_bytes, drop}
use Rattle.token_scanner.specs.Words.{Word}
use Rattle.token_spelling.specs.Spelling.{written}
use Rattle.program_printer.specs.Printing.{more_signed_words}
use Rattle.program_printer.proofs.declaration.put_more_signed.Given as goal

-- what is written, and then the numbers that are left
abbrev pub invariant-loop-number : goal.invariant-loop-number
invariant-loop-number l = (us : List Word) → string_bytes l.fn.text ++ written (more_signed_words l.numbers us) ≡ string_bytes l.text ++ written (more_signed_words (drop l.number-index l.numbers) us)
