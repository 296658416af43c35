use Rattle.gathered_records.specs.Gathering.{AreInRow}
use Rattle.gathered_records.proofs.alone.put_alone.Given as goal

abbrev pub invariant-loop : goal.invariant-loop
invariant-loop l = AreInRow l.records l.row l.first l.places.items
