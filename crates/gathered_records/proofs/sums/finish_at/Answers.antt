use Rattle.gathered_records.specs.Summing.{at_places}
use Rattle.gathered_records.proofs.Rows.{sum_over}
use Rattle.gathered_records.proofs.sums.finish_at.Goals as goal

pub returns-in-Some : goal.returns-in-Some
returns-in-Some c = record {
  sum = sum_over c.finish.result c.args._kinds.now (at_places c.args.records.now c.args.places.now) c.args.sum c.in-Some.last.now c.requires.some c.in-Some.ensures.last c.requires.summed c.finish.ensures.summed;
}
