use Rattle.std.proofs.Common.{map, string_bytes}
use Rattle.program_printer.proofs.Parts.{first_put}
use Rattle.program_printer.proofs.statement.put_expressions.Goals as goal

pub returns-in_ok-put_expression-in-len1-up : goal.returns-in_ok-put_expression-in-len1-up
returns-in_ok-put_expression-in-len1-up c =
    first_put _ (map string_bytes c.args.procedure.now.names.items) c.args.exprs.now c.first-item.result _ _ _ c.in-len1-up.len_at_least c.first-item.is c.in_ok-put_expression-in-len1-up.ensures c.put_more.ensures
