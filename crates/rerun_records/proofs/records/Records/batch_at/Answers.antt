use Rattle.std.proofs.Common.{subst}
use Rattle.record_theory.specs.Commits.{AreSingle}
use Rattle.rerun_records.specs.Blocks.{BlocksFit}
use Rattle.rerun_records.proofs.WithNumbers.{single_with_numbers}
use Rattle.rerun_records.proofs.Leaves.{found_fits}
use Rattle.rerun_records.proofs.Wholes.{batch_of_block}
use Rattle.rerun_records.proofs.records.Records.batch_at.Goals as goal

pub returns-in-Some : goal.returns-in-Some
returns-in-Some c =
    let P = c.args.program.now in
    let T = c.args.tables.now.tables in
    let records = c.args.self.now in
    let single = subst AreSingle c.self.view_is (single_with_numbers c.self.inside.numbers.items c.self.inside.list.items c.self.invariant.0.single) in
    let fits = found_fits P.kinds records c.self.inside.blocks c.in-Some.block.now (subst (λ rs. BlocksFit rs c.self.inside.blocks) c.self.view_is c.self.invariant.1) c.in-Some.ensures.block in
    record {
      batch =
          rw (c.whole.ensures.count, c.whole.ensures.whole)
          (batch_of_block P T c.args.series.depth records c.args.place c.args.series.counted c.args.series.most c.args.series.keeps c.args.record.now c.in-Some.block.now single c.requires.in_step c.requires.there fits c.in-Some.ensures.answers);
      none = tt;
    }
