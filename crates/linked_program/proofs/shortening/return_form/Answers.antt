use Rattle.linked_program.proofs.Shorts.{if_ok}
use Rattle.linked_program.proofs.shortening.return_form.Goals as goal

pub returns-in_default : goal.returns-in_default
returns-in_default c = record { form = if_ok c.value_form.result (λ made h kinds inner. h kinds inner tt) c.value_form.ensures.form }
