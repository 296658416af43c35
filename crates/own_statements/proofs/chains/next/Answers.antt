use Rattle.std.proofs.Common.{rules, ◌≡◌, ℤ, subst, sym, to_z, of_z, w64}
use Rattle.meaning.specs.declared.tree.Operator.TheVariants.{Add, Subtract, Multiply, Divide, Remainder}
use Rattle.linked_program.specs.declared.code.Link.{Link}
use Rattle.linked_program.specs.CodeView.{linked_by}
use Rattle.linked_program.specs.Linked.{constant, joined}
use Rattle.evaluation.specs.Values.{value_at}
use Rattle.evaluation.proofs.Rows.{if_some}
use Rattle.own_statements.specs.Fills.{Reads}
use Rattle.own_statements.proofs.chains.next.Goals as goal

pub returns-in-Plus : goal.returns-in-Plus
returns-in-Plus c =
    let x = c.args.value in
    let n = c.in-Plus.number in
    let value : x ≡ to_z w64 (of_z w64 x) = search rules in
    let number : to_z w64 (of_z w64 n) ≡ n = search rules in
    record {
      value = if_some c.number_right.result (λ v h keeps all e read. subst (λ (k : Link). Reads keeps (value_at all c.args.slots.now (linked_by e k)) v) (sym c.in-Plus.is)
          (subst (λ (m : ℤ). Reads keeps (value_at all c.args.slots.now (joined Add e (constant m))) v) number
          (h keeps all c.args.slots.now e (subst (λ (m : ℤ). Reads keeps (value_at all c.args.slots.now e) m) value read)))) c.number_right.ensures.value;
    }

pub returns-in-Minus : goal.returns-in-Minus
returns-in-Minus c =
    let x = c.args.value in
    let n = c.in-Minus.number in
    let value : x ≡ to_z w64 (of_z w64 x) = search rules in
    let number : to_z w64 (of_z w64 n) ≡ n = search rules in
    record {
      value = if_some c.number_right-in-Minus.result (λ v h keeps all e read. subst (λ (k : Link). Reads keeps (value_at all c.args.slots.now (linked_by e k)) v) (sym c.in-Minus.is)
          (subst (λ (m : ℤ). Reads keeps (value_at all c.args.slots.now (joined Subtract e (constant m))) v) number
          (h keeps all c.args.slots.now e (subst (λ (m : ℤ). Reads keeps (value_at all c.args.slots.now e) m) value read)))) c.number_right-in-Minus.ensures.value;
    }

pub returns-in-Times : goal.returns-in-Times
returns-in-Times c =
    let x = c.args.value in
    let n = c.in-Times.number in
    let value : x ≡ to_z w64 (of_z w64 x) = search rules in
    let number : to_z w64 (of_z w64 n) ≡ n = search rules in
    record {
      value = if_some c.number_right-in-Times.result (λ v h keeps all e read. subst (λ (k : Link). Reads keeps (value_at all c.args.slots.now (linked_by e k)) v) (sym c.in-Times.is)
          (subst (λ (m : ℤ). Reads keeps (value_at all c.args.slots.now (joined Multiply e (constant m))) v) number
          (h keeps all c.args.slots.now e (subst (λ (m : ℤ). Reads keeps (value_at all c.args.slots.now e) m) value read)))) c.number_right-in-Times.ensures.value;
    }

pub returns-in-Over : goal.returns-in-Over
returns-in-Over c =
    let x = c.args.value in
    let n = c.in-Over.number in
    let value : x ≡ to_z w64 (of_z w64 x) = search rules in
    let number : to_z w64 (of_z w64 n) ≡ n = search rules in
    record {
      value = if_some c.number_right-in-Over.result (λ v h keeps all e read. subst (λ (k : Link). Reads keeps (value_at all c.args.slots.now (linked_by e k)) v) (sym c.in-Over.is)
          (subst (λ (m : ℤ). Reads keeps (value_at all c.args.slots.now (joined Divide e (constant m))) v) number
          (h keeps all c.args.slots.now e (subst (λ (m : ℤ). Reads keeps (value_at all c.args.slots.now e) m) value read)))) c.number_right-in-Over.ensures.value;
    }

pub returns-in-Modulo : goal.returns-in-Modulo
returns-in-Modulo c =
    let x = c.args.value in
    let n = c.in-Modulo.number in
    let value : x ≡ to_z w64 (of_z w64 x) = search rules in
    let number : to_z w64 (of_z w64 n) ≡ n = search rules in
    record {
      value = if_some c.number_right-in-Modulo.result (λ v h keeps all e read. subst (λ (k : Link). Reads keeps (value_at all c.args.slots.now (linked_by e k)) v) (sym c.in-Modulo.is)
          (subst (λ (m : ℤ). Reads keeps (value_at all c.args.slots.now (joined Remainder e (constant m))) v) number
          (h keeps all c.args.slots.now e (subst (λ (m : ℤ). Reads keeps (value_at all c.args.slots.now e) m) value read)))) c.number_right-in-Modulo.ensures.value;
    }

pub returns-in-NumberRight : goal.returns-in-NumberRight
returns-in-NumberRight c =
    let x = c.args.value in
    let n = c.in-NumberRight.number in
    let value : x ≡ to_z w64 (of_z w64 x) = search rules in
    let number : to_z w64 (of_z w64 n) ≡ n = search rules in
    record {
      value = if_some c.number_right-in-NumberRight.result (λ v h keeps all e read. subst (λ (k : Link). Reads keeps (value_at all c.args.slots.now (linked_by e k)) v) (sym c.in-NumberRight.is)
          (subst (λ (m : ℤ). Reads keeps (value_at all c.args.slots.now (joined c.in-NumberRight.operator e (constant m))) v) number
          (h keeps all c.args.slots.now e (subst (λ (m : ℤ). Reads keeps (value_at all c.args.slots.now e) m) value read)))) c.number_right-in-NumberRight.ensures.value;
    }

pub returns-in-NumberLeft : goal.returns-in-NumberLeft
returns-in-NumberLeft c =
    let x = c.args.value in
    let n = c.in-NumberLeft.number in
    let value : x ≡ to_z w64 (of_z w64 x) = search rules in
    let number : to_z w64 (of_z w64 n) ≡ n = search rules in
    record {
      value = if_some c.number_left.result (λ v h keeps all e read. subst (λ (k : Link). Reads keeps (value_at all c.args.slots.now (linked_by e k)) v) (sym c.in-NumberLeft.is)
          (subst (λ (m : ℤ). Reads keeps (value_at all c.args.slots.now (joined c.in-NumberLeft.operator (constant m) e)) v) number
          (h keeps all c.args.slots.now e (subst (λ (m : ℤ). Reads keeps (value_at all c.args.slots.now e) m) value read)))) c.number_left.ensures.value;
    }

pub returns-in-SlotRight : goal.returns-in-SlotRight
returns-in-SlotRight c =
    let x = c.args.value in
    let value : x ≡ to_z w64 (of_z w64 x) = search rules in
    record {
      value = if_some c.slot_right.result (λ v h keeps all e read. subst (λ (k : Link). Reads keeps (value_at all c.args.slots.now (linked_by e k)) v) (sym c.in-SlotRight.is)
          (h keeps all e (subst (λ (m : ℤ). Reads keeps (value_at all c.args.slots.now e) m) value read))) c.slot_right.ensures.value;
    }

pub returns-in-SlotLeft : goal.returns-in-SlotLeft
returns-in-SlotLeft c =
    let x = c.args.value in
    let value : x ≡ to_z w64 (of_z w64 x) = search rules in
    record {
      value = if_some c.slot_left.result (λ v h keeps all e read. subst (λ (k : Link). Reads keeps (value_at all c.args.slots.now (linked_by e k)) v) (sym c.in-SlotLeft.is)
          (h keeps all e (subst (λ (m : ℤ). Reads keeps (value_at all c.args.slots.now e) m) value read))) c.slot_left.ensures.value;
    }
