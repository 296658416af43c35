use Rattle.std.proofs.Common.{◌≡◌, ◌++◌, ◌*◌, map, drop}
use Rattle.meaning.specs.Statements.{in_pairs}
use Rattle.linked_program.specs.Initials.{plain_initial, initials_by}
use Rattle.linked_program.proofs.initial.put_pairs.Given as goal

abbrev pub invariant-loop-pair : goal.invariant-loop-pair
invariant-loop-pair l = map plain_initial l.made.items ++ initials_by l.reducer (in_pairs (drop (2 * l.pair) l.numbers)) ≡ map plain_initial l.fn.made.items ++ initials_by l.reducer (in_pairs l.numbers)
