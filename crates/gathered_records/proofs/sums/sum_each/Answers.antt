use Rattle.std.proofs.Common.{Bool, [], IfOk, refl, sym, ap, ◌∙◌, subst}
use Rattle.std.proofs.lemmas.List.{take_all}
use Rattle.rerun_records.specs.Sums.{IsSumFor}
use Rattle.gathered_records.specs.Summing.{PlainSum, at_places, HasSummed}
use Rattle.gathered_records.proofs.Summed.{nothing_summed_so}
use Rattle.gathered_records.proofs.Rows.{record_more}
use Rattle.gathered_records.proofs.sums.sum_each.Goals as goal

pub loop-place-init : goal.loop-place-init
loop-place-init c = record {
  summed = subst (HasSummed c.args.kinds.now []) (sym c.in_ok-sum.ensures.none) (nothing_summed_so c.args.kinds.now c.args.keeps c.requires.monoids);
  keeps = ap (λ (s : PlainSum). s.keeps) c.in_ok-sum.ensures.none;
}

pub loop-place-preserved : goal.loop-place-preserved
loop-place-preserved c = record {
  summed =
      record_more c.args.kinds.now c.args.records.now c.args.places.now c.loop-place.place-index _ _ c.loop-place.sum c.add_record.new.sum c.requires.monoids c.requires.values c.loop-place-test.true refl
      c.in_ok-add_record.ensures.none c.in_ok-add_record.ensures.added c.in_ok-add_record.ensures.low c.loop-place.invariant.summed;
  keeps = c.in_ok-add_record.ensures.keeps ∙ c.loop-place.invariant.keeps;
}

pub finish_at-requires : goal.finish_at-requires
finish_at-requires c = record {
  some = c.requires.some;
  summed =
      subst (λ qs. HasSummed c.args.kinds.now (at_places c.args.records.now qs) c.loop-place.sum) (take_all c.loop-place.place-index c.args.places.now c.loop-place-test.false)
      c.loop-place.invariant.summed;
}

pub returns : goal.returns
returns c = record {
  sum =
      subst (λ (b : Bool). IfOk c.finish_at.result (λ s. IsSumFor b c.args.kinds.now (at_places c.args.records.now c.args.places.now) s)) c.loop-place.invariant.keeps c.finish_at.ensures.sum;
}
