-- Values of the links of a chain.
use Rattle.std.proofs.Common.{◌≡◌, ℕ, ℤ, Bool, List, refl, ap, sym, slice_get}
use Rattle.meaning.specs.Tables.{Tables}
use Rattle.meaning.specs.declared.tree.Operator.{Operator}
use Rattle.linked_program.specs.Linked.{Linked, constant, joined, slot}
use Rattle.evaluation.specs.declared.slot.Slot.{Slot}
use Rattle.evaluation.specs.Slots.{number_in}
use Rattle.evaluation.specs.Values.{applied, pure, value_at}
use Rattle.own_statements.specs.Fills.{Reads}
use Rattle.own_statements.proofs.AtOnce.{joined_reads, pure_reads}

module _ (keeps : Bool) (ts : Tables) (slots : List Slot) where
  -- what a slot holds
  pub slot_reads : (x : ℕ) (n : ℤ) → n ≡ number_in (slice_get slots x) → Reads keeps (value_at ts slots (slot x)) n
  slot_reads x n is = pure_reads keeps (value_at ts slots (slot x)) n (ap (λ (m : ℤ). pure m) (sym is))

  -- an operator on a value and a number or what a slot holds, which stand to its right or to its left
  pub number_to_right : (op : Operator) (e : Linked) (x n v : ℤ) → applied op x n ≡ pure v → Reads keeps (value_at ts slots e) x → Reads keeps (value_at ts slots (joined op e (constant n))) v
  number_to_right op e x n v is h = joined_reads keeps ts slots op e (constant n) x n h (pure_reads keeps (pure n) n refl) v is

  pub number_to_left : (op : Operator) (e : Linked) (x n v : ℤ) → applied op n x ≡ pure v → Reads keeps (value_at ts slots e) x → Reads keeps (value_at ts slots (joined op (constant n) e)) v
  number_to_left op e x n v is h = joined_reads keeps ts slots op (constant n) e n x (pure_reads keeps (pure n) n refl) h v is

  pub slot_to_right : (op : Operator) (e : Linked) (x n v : ℤ) (y : ℕ) → n ≡ number_in (slice_get slots y) → applied op x n ≡ pure v → Reads keeps (value_at ts slots e) x
      → Reads keeps (value_at ts slots (joined op e (slot y))) v
  slot_to_right op e x n v y same is h = joined_reads keeps ts slots op e (slot y) x n h (slot_reads y n same) v is

  pub slot_to_left : (op : Operator) (e : Linked) (x n v : ℤ) (y : ℕ) → n ≡ number_in (slice_get slots y) → applied op n x ≡ pure v → Reads keeps (value_at ts slots e) x
      → Reads keeps (value_at ts slots (joined op (slot y) e)) v
  slot_to_left op e x n v y same is h = joined_reads keeps ts slots op (slot y) e n x (slot_reads y n same) h v is
