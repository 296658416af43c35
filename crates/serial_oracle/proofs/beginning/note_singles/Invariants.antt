use Rattle.std.proofs.Common.{◌≡◌, ◌++◌, ◌∷◌, [], map, drop}
use Rattle.std.specs.Prelude.{slice_get}
use Rattle.serial_oracle.specs.Keeping.{tree_in}
use Rattle.serial_oracle.specs.Worths.{kinds, grouped, noted_in}
use Rattle.serial_oracle.proofs.beginning.note_singles.Given as goal

abbrev pub invariant-loop-number : goal.invariant-loop-number
invariant-loop-number l =
    noted_in l.scope l.changes.items ++ grouped (slice_get (kinds (tree_in l.scope)) l.n) l.n (map (λ v. v ∷ []) (drop l.number-index l.numbers))
    ≡ noted_in l.scope l.initial.changes.items ++ grouped (slice_get (kinds (tree_in l.scope)) l.n) l.n (map (λ v. v ∷ []) l.numbers)
