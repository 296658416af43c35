use Rattle.std.proofs.Common.{◌≡◌, ◌∙◌, IfOk, IfSome, ap, sym}
use Rattle.linked_program.specs.Linked.{Linked}
use Rattle.linked_program.specs.CodeView.{beginning, chain, linked_by}
use Rattle.linked_program.proofs.Shorts.{chained_push}
use Rattle.linked_program.proofs.shortening.longer.Goals as goal

pub returns-in_ok-push-in-Some : goal.returns-in_ok-push-in-Some
returns-in_ok-push-in-Some c =
    let made = c.in-Some.chain in
    let link = c.args.link in
    record {
      longer = λ e h.
          let was : IfOk c.args.made (λ o. IfSome o (λ b. e ≡ chain b)) = h in
          let some : IfSome c.in_ok-chain.field-0 (λ b. e ≡ chain b) = rw c.in_ok-chain.was at was in
          let is : e ≡ chain made = rw c.in-Some.is at some in
          rw (c.in_ok-push-in-Some.ensures.items) (ap (λ (x : Linked). linked_by x link) is ∙ sym (chained_push (beginning made.start) made.links.items link));
    }
