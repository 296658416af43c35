use Rattle.std.proofs.Common.{◌≡◌, drop}
use Rattle.linked_program.specs.Checked.{numbers_in, number_in}
use Rattle.linked_program.proofs.checked.number_of.Given as goal

abbrev pub invariant-loop-entry : goal.invariant-loop-entry
invariant-loop-entry l = number_in (numbers_in l.numbers) l.name ≡ number_in (numbers_in (drop l.entry-index l.numbers)) l.name
