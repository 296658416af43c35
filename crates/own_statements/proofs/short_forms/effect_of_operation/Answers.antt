use Rattle.std.proofs.Common.{ap}
use Rattle.linked_program.specs.CodeView.{act, expression}
use Rattle.own_statements.proofs.short_forms.effect_of_operation.Goals as goal

pub returns-in-Bind : goal.returns-in-Bind
returns-in-Bind c = record { effect = λ kinds inner all slots l. (expression c.in-Bind.value, ap (λ op. act inner op) c.in-Bind.is, (λ v h. h), tt) }

pub returns-in-If : goal.returns-in-If
returns-in-If c = record { effect = λ kinds inner all slots l. (expression c.in-If.condition, ap (λ op. act inner op) c.in-If.is, (λ v h. h), tt) }

pub returns-in-Return : goal.returns-in-Return
returns-in-Return c = record { effect = λ kinds inner all slots l. (expression c.in-Return.value, ap (λ op. act inner op) c.in-Return.is, (λ v h. h), tt) }
