use Rattle.linked_program.proofs.Shorts.{if_ok}
use Rattle.linked_program.proofs.shortening.one_form.Goals as goal

pub returns-in_default : goal.returns-in_default
returns-in_default c = record { form = if_ok c.value_form.result (λ made h kinds inner takes. h kinds inner takes) c.value_form.ensures.form }
