use Rattle.std.proofs.Common.{◌≡◌, ◌∷◌, ◌∙◌, ap, sym, subst, true}
use Rattle.std.specs.Arc.{arc_value}
use Rattle.std.specs.List.{flat_map}
use Rattle.std.specs.Vec.Iter.{into_iter_items}
use Rattle.meaning.specs.Every.{every}
use Rattle.instance_records.specs.Spans.{is_covered_by}
use Rattle.instance_records.specs.Full.{IsFull}
use Rattle.instance_records.specs.Readings.{all_of, node_notes, shared_notes}
use Rattle.instance_records.proofs.MoreRows.{among_all}
use Rattle.instance_records.proofs.NodeNotes.{moved_on, one_more_covered, one_more_each}
use Rattle.instance_records.proofs.below.nodes.Goals as goal

pub loop-part-preserved : goal.loop-part-preserved
loop-part-preserved c =
    let before = c.loop-part.nodes.items in
    let after = c.push.new.self.items in
    let node = c.in_ok-node.node in
    let joined = c.in_ok-push.ensures.items in
    record {
      can_next = tt;
      is_finite = tt;
      moved =
          moved_on before after node c.in-Some.part (all_of c.args.parts.items) (into_iter_items c.loop-part.part-iterator) (into_iter_items c.next.new.self)
          joined c.in_ok-node.ensures.notes c.in-Some.ensures.steps.0 c.loop-part.invariant.moved;
      each = one_more_each before after node joined c.loop-part.invariant.each c.in_ok-node.ensures.covered;
      held =
          one_more_covered c.loop-part.spans.items c.put_part.new.spans.items before after node joined c.in_ok-part.ensures.kept c.loop-part.invariant.held
          (subst (λ n. every (is_covered_by c.put_part.new.spans.items) (node_notes n) ≡ true) c.deref.ensures c.in_ok-part.ensures.put);
      full =
          c.join.ensures.full (all_of c.args.parts.items) c.loop-part.invariant.full
          (among_all (flat_map shared_notes before) (node_notes (arc_value node)) (all_of c.args.parts.items) (into_iter_items c.loop-part.part-iterator) (into_iter_items c.next.new.self) c.in_ok-part.part
          (c.in-Some.ensures.steps.0 ∙ ap (λ part. part ∷ into_iter_items c.next.new.self) (sym c.in_ok-node.ensures.notes)) c.loop-part.invariant.moved
          (subst (λ n. IsFull (node_notes n) c.in_ok-part.part) c.deref.ensures c.in_ok-part.ensures.full));
    }
