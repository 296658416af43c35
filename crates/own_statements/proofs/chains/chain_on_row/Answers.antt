use Rattle.std.proofs.Common.{rules, ◌≡◌, ◌∙◌, List, Ok, false, ap, subst, to_z, of_z, w64}
use Rattle.linked_program.specs.declared.code.Link.{Link}
use Rattle.linked_program.specs.CodeView.{beginning, chained}
use Rattle.evaluation.specs.Values.{value_at}
use Rattle.evaluation.proofs.Rows.{if_some}
use Rattle.own_statements.specs.Fills.{Reads}
use Rattle.own_statements.proofs.chains.chain_on_row.Goals as goal

pub returns-in-Some : goal.returns-in-Some
returns-in-Some c =
    let ts = c.args.tables.now.tables in
    let ss = c.args.slots.now in
    let e = beginning c.args.chain.now.start in
    let x = c.in-Some.start in
    let same : x ≡ to_z w64 (of_z w64 x) = search rules in
    record {
      value = if_some c.linked.result (λ v h. subst (λ (ks : List Link). Reads false (value_at ts ss (chained e ks)) v) c.as_slice.ensures.value
          (h false ts e (c.in-Some.ensures.value ∙ ap Ok same, (λ k. absurd cc)))) c.linked.ensures.value;
    }
