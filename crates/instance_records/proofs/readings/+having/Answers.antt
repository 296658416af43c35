use Rattle.std.proofs.Common.{rules, ap, sym, map, ◌∙◌}
use Rattle.std.specs.List.{flat_map}
use Rattle.meaning.specs.Every.{every}
use Rattle.instance_records.specs.ShortLists.{items_in}
use Rattle.instance_records.specs.declared.readings.Below.{out-Below}
use Rattle.instance_records.specs.declared.readings.Below.TheViews.{the_lemmas}
use Rattle.evaluation.specs.Short.{note_of}
use Rattle.instance_records.specs.Spans.{is_covered_by, spans_in}
use Rattle.instance_records.specs.Readings.{shared_notes, is_covered_share}
use Rattle.record_theory.specs.Same.{is_read}
use Rattle.instance_records.proofs.NodeNotes.{parts_covered}
use Rattle.instance_records.proofs.Among.{read_own, read_alone, read_in_parts, read_outside}
use Rattle.instance_records.proofs.readings.+having.Goals as goal

pub node_has-returns-then-has_own : goal.node_has-returns-then-has_own
node_has-returns-then-has_own t c =
    record { has = sym (read_own c.args.node.now c.args.note.now (ap (λ rs. is_read (map note_of rs) c.args.note.now) (sym c.as_slice.ensures.items) ∙ sym c.has_own.ensures.has ∙ c.if-has_own.true)) }

pub node_has-parts_have-requires : goal.node_has-parts_have-requires
node_has-parts_have-requires t c =
    let parts = c.as_slice-then-may_have.ensures.items ∙ ap (λ b. items_in (out-Below b).parts) c.deref-then-may_have.ensures in (
      search (rules, the_lemmas),
      ap (every is_covered_share) parts ∙ parts_covered c.args.node.now c.in-Some.below c.in-Some.is c.requires.covered,
    )

pub node_has-returns-then-may_have : goal.node_has-returns-then-may_have
node_has-returns-then-may_have t c =
    let own = ap (λ rs. is_read (map note_of rs) c.args.note.now) (sym c.as_slice.ensures.items) ∙ sym c.has_own.ensures.has ∙ c.if-has_own.false in
    record {
      has =
          c.parts_have.ensures.have
          ∙ ap (λ ps. is_read (flat_map shared_notes ps) c.args.note.now) (c.as_slice-then-may_have.ensures.items ∙ ap (λ b. items_in (out-Below b).parts) c.deref-then-may_have.ensures)
          ∙ sym (read_in_parts c.args.node.now c.args.note.now c.in-Some.below c.in-Some.is own);
    }

pub node_has-returns-else-may_have : goal.node_has-returns-else-may_have
node_has-returns-else-may_have t c =
    let own = ap (λ rs. is_read (map note_of rs) c.args.note.now) (sym c.as_slice.ensures.items) ∙ sym c.has_own.ensures.has ∙ c.if-has_own.false in
    let spans_are = c.as_slice-in-Some.ensures.spans ∙ ap (λ b. spans_in (out-Below b).spans) c.deref.ensures in
    let outside = ap (λ ss. is_covered_by ss c.args.note.now) (sym spans_are) ∙ sym c.may_have.ensures.has ∙ c.if-may_have.false in
    record { has = sym (read_outside c.args.node.now c.args.note.now c.in-Some.below c.in-Some.is c.requires.covered outside own) }

pub node_has-returns-in-None : goal.node_has-returns-in-None
node_has-returns-in-None t c =
    let own = ap (λ rs. is_read (map note_of rs) c.args.note.now) (sym c.as_slice.ensures.items) ∙ sym c.has_own.ensures.has ∙ c.if-has_own.false in
    record { has = sym (read_alone c.args.node.now c.args.note.now c.in-None.is own) }
