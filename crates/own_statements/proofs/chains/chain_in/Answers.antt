use Rattle.std.proofs.Common.{rules, ◌≡◌, ◌∙◌, List, slice_get, subst, sym, to_z, of_z, w64, FitsSigned}
use Rattle.std.proofs.lemmas.Int.{to_z-of_z}
use Rattle.linked_program.specs.declared.code.Link.{Link}
use Rattle.linked_program.specs.declared.code.Start.{Start}
use Rattle.linked_program.specs.CodeView.{beginning, chained}
use Rattle.linked_program.specs.Linked.{slot}
use Rattle.evaluation.specs.Slots.{number_in}
use Rattle.evaluation.specs.Values.{value_at}
use Rattle.evaluation.proofs.Rows.{if_some}
use Rattle.own_statements.specs.Fills.{Reads}
use Rattle.own_statements.proofs.Links.{slot_reads}
use Rattle.own_statements.proofs.chains.chain_in.Goals as goal

pub returns-in-Slot : goal.returns-in-Slot
returns-in-Slot c =
    let ts = c.args.tables.now.tables in
    let ss = c.args.slots.now in
    let keeps = c.args.keeps in
    let x = c.in-Slot.slot in
    let n = to_z w64 (of_z w64 c.number_in.result) in
    let fits : FitsSigned w64 c.number_in.result = search rules in
    let number : n ≡ number_in (slice_get ss x) = to_z-of_z w64 c.number_in.result fits ∙ c.number_in.ensures in
    record {
      value = if_some c.linked.result (λ v h. subst (λ (s : Start). Reads keeps (value_at ts ss (chained (beginning s) c.args.chain.now.links.items)) v) (sym c.in-Slot.is)
          (subst (λ (ks : List Link). Reads keeps (value_at ts ss (chained (slot x) ks)) v) c.as_slice.ensures.value
          (h keeps ts (slot x) (slot_reads keeps ts ss x n number)))) c.linked.ensures.value;
    }
