use Rattle.std.proofs.Common.{rules, [], ◌∷◌, map, ap, sym, ◌∙◌, ◌+◌, arith}
use Rattle.std.specs.List.{flat_map, list_any}
use Rattle.meaning.specs.Every.{every}
use Rattle.instance_records.specs.ShortLists.{items_in}
use Rattle.instance_records.specs.declared.readings.Below.{out-Below}
use Rattle.instance_records.specs.declared.readings.Below.TheViews.{the_lemmas}
use Rattle.evaluation.specs.Short.{note_of}
use Rattle.record_theory.specs.InStep.{is_apart, rests_on}
use Rattle.instance_records.specs.Readings.{node_notes, shared_notes, is_covered_share}
use Rattle.record_theory.specs.Same.{is_read}
use Rattle.instance_records.proofs.NodeNotes.{parts_covered}
use Rattle.instance_records.proofs.Narrowed.{below_is, only_part, every_behind, behind_is}
use Rattle.instance_records.proofs.narrowing.+narrowing.Goals as goal

pub lowest-lowest_of-requires : goal.lowest-lowest_of-requires
lowest-lowest_of-requires t c =
    let node = c.args.node.now in
    let parts = c.as_slice-in-Some.ensures.items ∙ ap (λ b. items_in (out-Below b).parts) c.deref.ensures in
    let untouched =
    ap (λ rs. list_any (λ note. list_any (rests_on note) c.from_ref.result.now) (map note_of rs)) (sym c.as_slice.ensures.items)
    ∙ sym c.are_own_touched.ensures.touched
    ∙ c.if-are_own_touched.false in (
      search (rules, the_lemmas),
      (
        c.requires.covered,
        (
          ap (every is_covered_share) parts ∙ parts_covered node c.in-Some.below c.in-Some.is c.requires.covered,
          λ note h. below_is node note c.args.change.now c.from_ref.result.now c.in-Some.below c.in-Some.is c.from_ref.ensures.value untouched h ∙ ap (λ ps. is_read (flat_map shared_notes ps) note) (sym parts),
        ),
      ),
    )

pub lowest_of-are_apart-requires : goal.lowest_of-are_apart-requires
lowest_of-are_apart-requires t c = record { covered = every_behind is_covered_share (c.first_touched-place.result + 1) c.args.parts.now c.requires.parts }

pub lowest_of-returns-clause-same : goal.lowest_of-returns-clause-same
lowest_of-returns-clause-same t c = λ note h.
    let q = is_apart (c.args.change.now ∷ []) in
    let parts = c.args.parts.now in
    let place = c.first_touched-place.result in
    c.lowest.ensures.same note h
    ∙ ap (λ n. is_read (node_notes n) note) c.deref.ensures
    ∙ only_part q parts place c.index-parts-place.result note (omega (arith, c.if-place-parts.false)) c.index-parts-place.is c.first_touched-place.ensures.apart
    (behind_is q (place + 1) parts (c.are_apart.ensures.apart c.if-not-are_apart.false)) h
    ∙ sym (c.requires.below note h)
