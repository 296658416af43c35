use Rattle.std.proofs.Common.{rules, ◌≡◌, sym, ap, ◌∙◌, length}
use Rattle.rerun_records.proofs.WithNumbers.{length_with_numbers}
use Rattle.rerun_records.proofs.records.Records.len.Goals as goal

pub returns : goal.returns
returns c =
    let long : c.len.result ≡ length c.self.inside.list.items = search rules in
    record {
      count = long ∙ sym (length_with_numbers c.self.inside.numbers.items c.self.inside.list.items) ∙ ap length c.self.view_is;
    }
