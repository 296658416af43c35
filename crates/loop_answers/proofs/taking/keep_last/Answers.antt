use Rattle.std.proofs.Common.{rules, ◌≡◌, ◌∙◌, sym}
use Rattle.loop_answers.proofs.Lists.{last_at}
use Rattle.loop_answers.proofs.taking.keep_last.Goals as goal

pub returns-in_ok-extend_from_slice : goal.returns-in_ok-extend_from_slice
returns-in_ok-extend_from_slice c =
    let items : c.extend_from_slice.new.self.items ≡ c.in-Some.last.now.sum.now.arguments = search rules in
    record { last = items ∙ sym (last_at (λ b. b.sum.now) c.args.arguments.now.items c.args.found.now c.in-Some.last.now c.in-Some.ensures.value) }
