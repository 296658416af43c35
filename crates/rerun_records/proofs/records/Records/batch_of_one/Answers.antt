use Rattle.record_theory.proofs.Singles.{batch_of_one}
use Rattle.rerun_records.proofs.Wholes.{with_all}
use Rattle.rerun_records.proofs.records.Records.batch_of_one.Goals as goal

pub returns-in-Some : goal.returns-in-Some
returns-in-Some c =
    let P = c.args.program.now in
    let T = c.args.tables.now.tables in
    let k = c.args.record.now in
    record {
      batch =
          rw (c.one.ensures.count, c.one.ensures.one)
          (with_all c.args.series.keeps P T c.args.series.depth c.args.self.now k.procedure k.arguments c.args.series.counted c.args.series.most 1 c.in-Some.record.now
          (batch_of_one P T c.args.series.depth c.args.self.now k.procedure k.arguments c.args.series.counted c.args.series.most c.in-Some.record.now c.requires.counted c.requires.some c.requires.deep c.requires.values c.in-Some.ensures.valid));
      none = tt;
    }
