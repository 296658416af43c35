use Rattle.std.proofs.Common.{◌≡◌, ◌++◌, ◌+◌, ◌*◌, List, map, string_bytes, drop, false}
use Rattle.meaning.specs.TreeView.{statements, block}
use Rattle.token_scanner.specs.Words.{Word}
use Rattle.token_spelling.specs.Spelling.{written, starts_else}
use Rattle.program_printer.specs.Printing.{body_words}
use Rattle.program_printer.proofs.block.+printing.Given as goal

abbrev pub decreases-put_statement : goal.decreases-put_statement
decreases-put_statement l = l.levels * 5 + 3

abbrev pub decreases-put_if : goal.decreases-put_if
decreases-put_if l = l.levels * 5 + 2

abbrev pub decreases-put_else : goal.decreases-put_else
decreases-put_else l = l.levels * 5 + 1

abbrev pub decreases-put_block : goal.decreases-put_block
decreases-put_block l = l.levels * 5

abbrev pub decreases-put_statements : goal.decreases-put_statements
decreases-put_statements l = l.levels * 5 + 4

-- what is written, and then the statements that are left
abbrev pub invariant-put_statements-loop-statement : goal.invariant-put_statements-loop-statement
invariant-put_statements-loop-statement l =
    (us : List Word) → starts_else us ≡ false
    → string_bytes l.fn.text ++ written (body_words (map string_bytes l.procedure.names.items) (statements (block l.procedure.blocks.items l.levels) l.body) us)
    ≡ string_bytes l.text ++ written (body_words (map string_bytes l.procedure.names.items) (statements (block l.procedure.blocks.items l.levels) (drop l.statement-index l.body)) us)
