use Rattle.std.proofs.Common.{rules, ap, subst, arith, ◌∙◌, ◌≡◌, true}
use Rattle.std.specs.List.{flat_map}
use Rattle.instance_records.specs.ShortLists.{items_in}
use Rattle.instance_records.specs.declared.readings.Below.{out-Below}
use Rattle.instance_records.specs.declared.readings.Below.TheViews.{the_lemmas}
use Rattle.instance_records.specs.Readings.{node_notes, shared_notes}
use Rattle.record_theory.specs.Same.{is_read}
use Rattle.instance_records.proofs.Parts.{read_below, read_in_part}
use Rattle.instance_records.proofs.ways.+ways.Goals as goal

pub node_by-node_of-requires : goal.node_by-node_of-requires
node_by-node_of-requires t c =
    let parts = c.as_slice.ensures.items ∙ ap (λ b. items_in (out-Below b).parts) c.deref.ensures in (
      search (rules, the_lemmas),
      λ note e. read_below c.args.node.now note c.in-Some.below c.in-Some.is (subst (λ ps. is_read (flat_map shared_notes ps) note ≡ true) parts e),
    )

pub node_of-returns : goal.node_of-returns
node_of-returns t c = record {
  read = λ note e.
      c.requires.below note
      (read_in_part c.args.parts.now _ c.index-parts-place.result note (omega (arith, c.if-place-parts.false)) c.index-parts-place.is
      (subst (λ n. is_read (node_notes n) note ≡ true) c.deref.ensures (c.node_by.ensures.read note e)));
}
