use Rattle.std.proofs.Common.{subst}
use Rattle.record_theory.specs.Commits.{AreSingle}
use Rattle.rerun_records.proofs.WithNumbers.{single_with_numbers}
use Rattle.rerun_records.proofs.records.Records.single.Goals as goal

pub returns : goal.returns
returns c = record {
  single = subst AreSingle c.self.view_is (single_with_numbers c.self.inside.numbers.items c.self.inside.list.items c.self.invariant.0.single);
}
