use Rattle.std.proofs.Common.{ap, map, ◌++◌, ◌∙◌}
use Rattle.std.specs.List.{flat_map}
use Rattle.instance_records.specs.ShortLists.{items_in}
use Rattle.instance_records.specs.declared.readings.Below.{out-Below}
use Rattle.evaluation.specs.Short.{note_of}
use Rattle.instance_records.specs.Readings.{shared_notes}
use Rattle.instance_records.proofs.NodeNotes.{on_ok, put_with_parts}
use Rattle.instance_records.proofs.walks.+putting.Goals as goal

pub put_notes-returns-in-Some : goal.put_notes-returns-in-Some
put_notes-returns-in-Some t c = record {
  put =
      on_ok c.put_parts.result
      (λ e.
      put_with_parts c.args.node.now c.in-Some.below c.args.notes.now.items c.put_own.new.notes.items c.put_parts.new.notes.items c.in-Some.is
      (c.in_ok-put_own.ensures.put ∙ ap (λ rs. c.args.notes.now.items ++ map note_of rs) c.as_slice.ensures.items)
      (e ∙ ap (λ ps. c.put_own.new.notes.items ++ flat_map shared_notes ps) (c.as_slice-in-Some.ensures.items ∙ ap (λ b. items_in (out-Below b).parts) c.deref.ensures)))
      c.put_parts.ensures.put;
}
