use Rattle.std.proofs.Common.{◌≡◌, ◌++◌, ◌∷◌, [], map, drop}
use Rattle.linked_program.specs.Initials.{plain_initial, initials_by}
use Rattle.linked_program.proofs.initial.put_singles.Given as goal

abbrev pub invariant-loop-number : goal.invariant-loop-number
invariant-loop-number l = map plain_initial l.made.items ++ initials_by l.reducer (map (λ v. v ∷ []) (drop l.number-index l.numbers)) ≡ map plain_initial l.fn.made.items ++ initials_by l.reducer (map (λ v. v ∷ []) l.numbers)
