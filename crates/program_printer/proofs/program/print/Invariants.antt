use Rattle.std.proofs.Common.{◌≡◌, ◌++◌, map, string_bytes, drop}
use Rattle.meaning.specs.TreeView.{tree, decl}
use Rattle.token_spelling.specs.Spelling.{written}
use Rattle.program_printer.specs.Printing.{printed_words}
use Rattle.program_printer.proofs.program.print.Given as goal

-- what is written, and then the declarations that are left
abbrev pub invariant-loop-declaration : goal.invariant-loop-declaration
invariant-loop-declaration l = written (printed_words (tree l.fn.program)) ≡ string_bytes l.text ++ written (printed_words (map decl (drop l.declaration-index l.declaration-items)))
