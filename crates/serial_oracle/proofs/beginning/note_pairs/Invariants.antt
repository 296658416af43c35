use Rattle.std.proofs.Common.{◌≡◌, ◌++◌, drop}
use Rattle.std.specs.Prelude.{slice_get}
use Rattle.meaning.specs.Statements.{in_pairs}
use Rattle.serial_oracle.specs.Keeping.{tree_in}
use Rattle.serial_oracle.specs.Worths.{kinds, grouped, noted_in, waiting}
use Rattle.serial_oracle.proofs.beginning.note_pairs.Given as goal

abbrev pub invariant-loop-number : goal.invariant-loop-number
invariant-loop-number l =
    noted_in l.scope l.changes.items ++ grouped (slice_get (kinds (tree_in l.scope)) l.n) l.n (in_pairs (waiting l.held (drop l.number-index l.numbers)))
    ≡ noted_in l.scope l.initial.changes.items ++ grouped (slice_get (kinds (tree_in l.scope)) l.n) l.n (in_pairs l.numbers)
