use Rattle.std.proofs.Common.{rules, ◌≡◌, ℤ, length, sym, subst, w64}
use Rattle.std.proofs.lemmas.Int.{to_z-of_z}
use Rattle.gathered_records.specs.Gathering.{AreInRow}
use Rattle.gathered_records.proofs.Summed.{nothing_summed_so}
use Rattle.gathered_records.proofs.Rows.{none_in_row, next_part, next_summed, in_row_moved}
use Rattle.gathered_records.proofs.widening.join_parts.Goals as goal

pub loop-init : goal.loop-init
loop-init c = record {
  row = subst (AreInRow c.args.records.now c.args.row.now _) (sym c.requires.none) (none_in_row c.args.records.now c.args.row.now _);
  summed = rw (c.requires.none, c.requires.nothing) (nothing_summed_so c.args.kinds.now c.args.joined.now.sum.keeps c.requires.monoids);
}

pub put_part-requires : goal.put_part-requires
put_part-requires c = record {
  monoids = c.requires.monoids;
  worths = c.loop.invariant.summed.right;
  values = c.in-Some.ensures.part.fits.sum_is.sum_is.values;
}

pub loop-preserved : goal.loop-preserved
loop-preserved c =
    let count : c.len.result ≡ length c.loop.joined.places.items = search rules in
    record {
      row = next_part c.args.records.now c.loop.row c.part_next.new.row _ c.loop.joined.places.items c.put_part.new.joined.places.items c.len.result c.args.kinds.now c.in-Some.block.now c.in-Some.ensures.moved count
          c.in-Some.ensures.part c.in-Some.ensures.within c.in_ok-put_part-in-Some.ensures.places c.loop.invariant.row;
      summed = next_summed c.args.records.now c.loop.row c.part_next.new.row _ c.loop.joined.places.items c.put_part.new.joined.places.items c.len.result c.args.kinds.now c.in-Some.block.now c.in-Some.ensures.moved count
          c.in-Some.ensures.part c.in-Some.ensures.within c.in_ok-put_part-in-Some.ensures.places c.loop.invariant.row c.loop.joined.sum c.put_part.new.joined.sum c.requires.monoids c.in_ok-put_part-in-Some.ensures.read c.in_ok-put_part-in-Some.ensures.added c.loop.invariant.summed;
    }

pub returns-in-None-clause-row : goal.returns-in-None-clause-row
returns-in-None-clause-row c =
    subst (λ (f : ℤ). AreInRow c.args.records.now c.part_next.new.row f c.loop.joined.places.items) (to_z-of_z w64 _ c.ranges.first)
    (in_row_moved c.args.records.now c.loop.row c.part_next.new.row _ c.loop.joined.places.items (λ z. sym (c.part_next.ensures.row z)) c.loop.invariant.row)

pub returns-clause-row : goal.returns-clause-row
returns-clause-row c = subst (λ (f : ℤ). AreInRow c.args.records.now c.loop.row f c.loop.joined.places.items) (to_z-of_z w64 _ c.ranges.first) c.loop.invariant.row
