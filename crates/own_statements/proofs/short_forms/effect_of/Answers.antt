use Rattle.linked_program.specs.CodeView.{act}
use Rattle.own_statements.proofs.short_forms.effect_of.Goals as goal

pub returns-in-Other : goal.returns-in-Other
returns-in-Other g c = record { effect = λ kinds inner h. c.effect_of_operation.ensures.effect kinds inner c.args.tables.now.tables c.args.slots.now c.args.layer.now }

pub returns-in_default : goal.returns-in_default
returns-in_default g c = record { effect = λ kinds inner h. c.effect_on_row.ensures.effect kinds inner (act inner c.args.instruction.now.operation) h }
