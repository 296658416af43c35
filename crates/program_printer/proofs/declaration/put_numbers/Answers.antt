use Rattle.program_printer.proofs.Parts.{first_number_put}
use Rattle.program_printer.proofs.declaration.put_numbers.Goals as goal

pub returns-in_ok-put_number-in-len1-up : goal.returns-in_ok-put_number-in-len1-up
returns-in_ok-put_number-in-len1-up c = first_number_put _ c.args.numbers.now _ _ _ c.in-len1-up.len_at_least c.in_ok-put_number-in-len1-up.ensures c.put_more_numbers.ensures
