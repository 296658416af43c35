use Rattle.command_line.proofs.line.form_of_print.Goals as goal

pub returns : goal.returns
returns c = c.with.ensures _ _ c.option.ensures.rule c.named.ensures
