use Rattle.std.proofs.Common.{rules, ◌≡◌, ◌∙◌, ℤ, ap, sym, to_z, of_z, w64}
use Rattle.linked_program.specs.Linked.{constant, joined, slot}
use Rattle.linked_program.specs.CodeView.{expression, linked_by}
use Rattle.linked_program.specs.declared.code.Link.TheVariants as link
use Rattle.linked_program.proofs.Shorts.{chain_as}
use Rattle.linked_program.proofs.shortening.begun.Goals as goal

pub returns-in-Slots : goal.returns-in-Slots
returns-in-Slots c = record {
  chain = chain_as (linked_by (slot c.in-Slots.left) (link.SlotRight c.in-Slots.operator c.in-Slots.right)) (expression c.args.expression.now) (sym (ap expression c.in-Slots.is)) c.begun_with.result
      c.begun_with.ensures.chain;
}

pub returns-in-SlotAndNumber : goal.returns-in-SlotAndNumber
returns-in-SlotAndNumber c =
    let op = c.in-SlotAndNumber.operator in
    let x = c.in-SlotAndNumber.left in
    let n = c.in-SlotAndNumber.right in
    let same : to_z w64 (of_z w64 n) ≡ n = search rules in
    record {
      chain = chain_as (linked_by (slot x) c.number_link.result) (expression c.args.expression.now)
          (c.number_link.ensures.link (slot x) ∙ ap (λ (m : ℤ). joined op (slot x) (constant m)) same ∙ sym (ap expression c.in-SlotAndNumber.is)) c.begun_with-in-SlotAndNumber.result
          c.begun_with-in-SlotAndNumber.ensures.chain;
    }

pub returns-in-NumberAndSlot : goal.returns-in-NumberAndSlot
returns-in-NumberAndSlot c =
    let op = c.in-NumberAndSlot.operator in
    let x = c.in-NumberAndSlot.right in
    let n = c.in-NumberAndSlot.left in
    let same : to_z w64 (of_z w64 n) ≡ n = search rules in
    record {
      chain = chain_as (linked_by (slot x) (link.NumberLeft op (to_z w64 (of_z w64 n)))) (expression c.args.expression.now)
          (ap (λ (m : ℤ). joined op (constant m) (slot x)) same ∙ sym (ap expression c.in-NumberAndSlot.is)) c.begun_with-in-NumberAndSlot.result
          c.begun_with-in-NumberAndSlot.ensures.chain;
    }
