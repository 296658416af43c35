use Rattle.std.proofs.Common.{◌≡◌, drop}
use Rattle.linked_program.specs.Initials.{all_elements}
use Rattle.rule_parts.proofs.elements.all_elements.Given as goal

abbrev pub invariant-loop-number : goal.invariant-loop-number
invariant-loop-number l = all_elements l.table l.numbers ≡ all_elements l.table (drop l.number-index l.numbers)
