use Rattle.std.proofs.Common.{map}
use Rattle.record_theory.specs.Record.{as_made}
use Rattle.gathered_records.specs.Summing.{at_places, HasSummed}
use Rattle.gathered_records.specs.Gathering.{AreInRow}
use Rattle.gathered_records.proofs.widening.join_parts.Given as goal

abbrev pub invariant-loop : goal.invariant-loop
invariant-loop l = record {
  row : AreInRow l.records l.row l.first l.joined.places.items;
  summed : HasSummed l.kinds (at_places (map as_made l.records) l.joined.places.items) l.joined.sum;
}
