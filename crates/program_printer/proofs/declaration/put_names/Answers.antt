use Rattle.program_printer.proofs.Parts.{first_name_put}
use Rattle.program_printer.proofs.declaration.put_names.Goals as goal

pub returns-in_ok-put_name-in-len1-up : goal.returns-in_ok-put_name-in-len1-up
returns-in_ok-put_name-in-len1-up c =
    first_name_put _ c.args.names.now c.first-item.result c.as_str.result.now _ _ _ c.in-len1-up.len_at_least c.first-item.is c.as_str.ensures.value c.in_ok-put_name-in-len1-up.ensures c.put_more_names.ensures
