use Rattle.std.proofs.Common.{rules, ◌≡◌, ◌↔◌, IsTrue, ℕ, subst, sym, ap, ◌∙◌, length}
use Rattle.std.specs.Vec.{vec_len}
use Rattle.rerun_records.proofs.WithNumbers.{length_with_numbers}
use Rattle.rerun_records.proofs.records.Records.is_empty.Goals as goal

pub returns : goal.returns
returns c =
    let items : length c.self.inside.list.items ≡ vec_len c.self.inside.list = search rules in
    let long : length c.args.self.now ≡ vec_len c.self.inside.list =
    sym (ap length c.self.view_is) ∙ length_with_numbers c.self.inside.numbers.items c.self.inside.list.items ∙ items in
    record { empty = subst (λ (n : ℕ). IsTrue c.is_empty.result ↔ (n ≡ 0)) (sym long) (search rules) }
