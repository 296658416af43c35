use Rattle.std.proofs.Common.{sym, ap, ◌∙◌, map}
use Rattle.record_theory.specs.Record.{as_made}
use Rattle.rerun_records.proofs.WithNumbers.{same_without_numbers}
use Rattle.rerun_records.proofs.records.Records.as_slice.Goals as goal

pub returns : goal.returns
returns c = record {
  records = c.deref.ensures.value ∙ sym c.self.invariant.0.as_made_are ∙ sym (same_without_numbers c.self.inside.numbers.items c.self.inside.list.items)
      ∙ ap (map as_made) c.self.view_is;
}
