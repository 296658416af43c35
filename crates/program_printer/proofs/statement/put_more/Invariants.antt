use Rattle.std.proofs.Common.{◌≡◌, ◌++◌, List, map, string_bytes, drop}
use Rattle.meaning.specs.TreeView.{term}
use Rattle.token_scanner.specs.Words.{Word}
use Rattle.token_spelling.specs.Spelling.{written}
use Rattle.program_printer.specs.Printing.{more_terms}
use Rattle.program_printer.proofs.statement.put_more.Given as goal

-- what is written, and then the expressions that are left
abbrev pub invariant-loop-expr : goal.invariant-loop-expr
invariant-loop-expr l =
    (us : List Word)
    → string_bytes l.fn.text ++ written (more_terms (map string_bytes l.procedure.names.items) (map term l.exprs) us)
    ≡ string_bytes l.text ++ written (more_terms (map string_bytes l.procedure.names.items) (map term (drop l.expr-index l.exprs)) us)
