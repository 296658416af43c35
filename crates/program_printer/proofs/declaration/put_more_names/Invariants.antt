use Rattle.std.proofs.Common.{◌≡◌, ◌++◌, List, map, string_bytes, drop}
use Rattle.token_scanner.specs.Words.{Word}
use Rattle.token_spelling.specs.Spelling.{written}
use Rattle.program_printer.specs.Printing.{more_names}
use Rattle.program_printer.proofs.declaration.put_more_names.Given as goal

-- what is written, and then the names that are left
abbrev pub invariant-loop-name : goal.invariant-loop-name
invariant-loop-name l = (us : List Word) → string_bytes l.fn.text ++ written (more_names (map string_bytes l.names) us) ≡ string_bytes l.text ++ written (more_names (map string_bytes (drop l.name-index l.names)) us)
