use Rattle.std.proofs.Common.{◌≡◌, ◌++◌, ℕ, List, drop}
use Rattle.meaning.specs.Tree.{Name}
use Rattle.positions.specs.Tallies.{entries_from}
use Rattle.layers.specs.Recordings.{found_entry}
use Rattle.layers.proofs.entered.two_up.Given as goal

abbrev pub invariant-loop-i : goal.invariant-loop-i
invariant-loop-i l = (es : List (Name × ℕ)) → (found_entry es l.older ++ found_entry es l.newer) ++ entries_from l.i (drop l.i es) (drop l.i l.flags) ≡ entries_from 0 es l.flags
