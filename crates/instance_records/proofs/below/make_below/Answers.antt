use Rattle.std.proofs.Common.{◌≡◌, true, ap, sym, subst, ◌∙◌}
use Rattle.std.specs.Prelude.{◌&&◌}
use Rattle.std.specs.List.{flat_map}
use Rattle.meaning.specs.Every.{every}
use Rattle.instance_records.specs.Spans.{is_covered_by, spans_in}
use Rattle.instance_records.specs.Readings.{all_of, below_told, is_covered_share, shared_notes}
use Rattle.record_theory.proofs.Members.{both}
use Rattle.instance_records.proofs.MoreRows.{below_is_full}
use Rattle.instance_records.proofs.NodeNotes.{below_roll, below_covered_roll}
use Rattle.instance_records.proofs.below.make_below.Goals as goal

pub returns-clause-below : goal.returns-clause-below
returns-clause-below c =
    ap (λ b. (below_told b).0) c.in_ok-new.ensures.ok
    ∙ below_roll _
    ∙ ap (flat_map shared_notes) c.packed-parts.ensures.same
    ∙ c.in_ok-list.ensures.nodes

pub returns-clause-covered : goal.returns-clause-covered
returns-clause-covered c =
    let list = c.in_ok-list.list.items in
    ap (λ b. (below_told b).1) c.in_ok-new.ensures.ok
    ∙ below_covered_roll _
    ∙ ap (λ ps. every is_covered_share ps && every (is_covered_by (spans_in c.packed-spans.result)) (flat_map shared_notes ps)) c.packed-parts.ensures.same
    ∙ both (every is_covered_share list) (every (is_covered_by (spans_in c.packed-spans.result)) (flat_map shared_notes list)) c.in_ok-list.ensures.each
    (subst (λ ss. every (is_covered_by ss) (flat_map shared_notes list) ≡ true) (sym c.packed-spans.ensures.same) c.in_ok-list.ensures.spans)

pub returns-clause-full : goal.returns-clause-full
returns-clause-full c =
    below_is_full c.in_ok-new.field-0.value _ (all_of c.args.parts.items) c.in_ok-new.ensures.ok
    (ap (flat_map shared_notes) c.packed-parts.ensures.same ∙ c.in_ok-list.ensures.nodes) c.in_ok-list.ensures.full
