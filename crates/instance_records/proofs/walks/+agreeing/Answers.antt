use Rattle.std.proofs.Common.{ap, sym, map, ◌∙◌}
use Rattle.std.specs.List.{flat_map}
use Rattle.meaning.specs.Every.{every}
use Rattle.instance_records.specs.ShortLists.{items_in}
use Rattle.instance_records.specs.declared.readings.Below.{out-Below}
use Rattle.evaluation.specs.Short.{note_of}
use Rattle.instance_records.specs.Readings.{shared_notes}
use Rattle.record_theory.specs.Validity.{note_agrees}
use Rattle.instance_records.proofs.NodeNotes.{every_with_parts}
use Rattle.instance_records.proofs.walks.+agreeing.Goals as goal

pub node_agrees-returns-in-Some : goal.node_agrees-returns-in-Some
node_agrees-returns-in-Some t c =
    let p = note_agrees c.args.tables.now.tables in
    let own = ap (λ rs. every p (map note_of rs)) (sym c.as_slice.ensures.items) ∙ sym c.reads_agree.ensures.agree ∙ c.if-not-reads_agree.false in
    record {
      agrees =
          c.parts_agree.ensures.agree
          ∙ ap (λ ps. every p (flat_map shared_notes ps)) (c.as_slice-in-Some.ensures.items ∙ ap (λ b. items_in (out-Below b).parts) c.deref.ensures)
          ∙ sym (every_with_parts c.args.node.now p c.in-Some.below c.in-Some.is own);
    }
