use Rattle.std.proofs.Common.{rules, ◌≡◌, ◌∙◌, ap, sym}
use Rattle.linked_program.specs.declared.code.Expression.{Expression}
use Rattle.linked_program.specs.Linked.{joined}
use Rattle.linked_program.specs.CodeView.{expression, linked_by}
use Rattle.linked_program.proofs.Shorts.{chain_as}
use Rattle.linked_program.proofs.shortening.+chain.Goals as goal

pub returns-in-Some : goal.returns-in-Some
returns-in-Some t c =
    let op = c.in-Binary.operator in
    let x = c.deref-in-Some.result.now in
    let y = c.deref.result.now in
    let left : x ≡ c.in-Binary.left.value = search rules in
    let right : y ≡ c.in-Binary.right.value = search rules in
    record {
      chain = chain_as (linked_by (expression x) c.in-Some.link) (expression c.args.expression.now)
          (c.in-Some.ensures.link (expression x) ∙ ap (λ (z : Expression). joined op (expression z) (expression y)) left
          ∙ ap (λ (z : Expression). joined op (expression c.in-Binary.left.value) (expression z)) right ∙ sym (ap expression c.in-Binary.is)) c.longer.result
          (c.longer.ensures.longer (expression x) c.chain.ensures.chain);
    }

pub returns-in-Some-left_link : goal.returns-in-Some-left_link
returns-in-Some-left_link t c =
    let op = c.in-Binary.operator in
    let x = c.deref-in-None.result.now in
    let y = c.deref-in-Some-left_link.result.now in
    let left : x ≡ c.in-Binary.left.value = search rules in
    let right : y ≡ c.in-Binary.right.value = search rules in
    record {
      chain = chain_as (linked_by (expression y) c.in-Some-left_link.link) (expression c.args.expression.now)
          (c.in-Some-left_link.ensures.link (expression y) ∙ ap (λ (z : Expression). joined op (expression z) (expression y)) left
          ∙ ap (λ (z : Expression). joined op (expression c.in-Binary.left.value) (expression z)) right ∙ sym (ap expression c.in-Binary.is)) c.longer-in-Some-left_link.result
          (c.longer-in-Some-left_link.ensures.longer (expression y) c.chain-in-Some-left_link.ensures.chain);
    }
