use Rattle.std.proofs.Common.{false, [], ap, sym, refl, ◌∙◌, subst}
use Rattle.std.proofs.lemmas.List.{take_all}
use Rattle.gathered_records.specs.Summing.{PlainSum, at_places, HasSummed}
use Rattle.gathered_records.proofs.Summed.{nothing_summed_so}
use Rattle.gathered_records.proofs.Rows.{record_more}
use Rattle.gathered_records.proofs.FlatSums.{flat_over}
use Rattle.gathered_records.proofs.flat.flat_sum_at.Goals as goal

pub loop-place-init : goal.loop-place-init
loop-place-init c = record {
  summed = subst (HasSummed c.args.kinds.now []) (sym c.in_ok-sum.ensures.none) (nothing_summed_so c.args.kinds.now false c.requires.monoids);
  keeps = ap (λ (s : PlainSum). s.keeps) c.in_ok-sum.ensures.none;
}

pub add_at-requires-clause-right : goal.add_at-requires-clause-right
add_at-requires-clause-right c = c.loop-place.invariant.summed.right

pub loop-place-preserved : goal.loop-place-preserved
loop-place-preserved c = record {
  summed =
      record_more c.args.kinds.now c.args.records.now c.args.places.now c.loop-place.place-index _ _ c.loop-place.sum c.add_at.new.self c.requires.monoids c.requires.values c.loop-place-test.true refl
      c.in_ok-add_at.ensures.none c.in_ok-add_at.ensures.added c.in_ok-add_at.ensures.low c.loop-place.invariant.summed;
  keeps = c.in_ok-add_at.ensures.keeps ∙ c.loop-place.invariant.keeps;
}

pub returns : goal.returns
returns c = record {
  sum =
      flat_over c.finish.result c.args.kinds.now (at_places c.args.records.now c.args.places.now) c.loop-place.sum c.in_ok-last.last.now c.loop-place.invariant.keeps c.requires.some c.in_ok-last.ensures.last
      (subst (λ qs. HasSummed c.args.kinds.now (at_places c.args.records.now qs) c.loop-place.sum) (take_all c.loop-place.place-index c.args.places.now c.loop-place-test.false) c.loop-place.invariant.summed)
      c.finish.ensures.summed;
}
