use Rattle.std.proofs.Common.{◌≡◌, ◌++◌, drop}
use Rattle.positions.specs.Tallies.{entries_from}
use Rattle.instance_records.specs.Parts.{entries_in}
use Rattle.layers.proofs.entered.entries_of_many.Given as goal

abbrev pub invariant-loop-procedure : goal.invariant-loop-procedure
invariant-loop-procedure l =
    entries_in l.entries ++ entries_from l.procedure (drop l.procedure l.program.revisions) (drop l.procedure l.flags) ≡ entries_from 0 l.program.revisions l.flags
