use Rattle.std.proofs.Common.{◌≡◌, ◌<◌, ℕ, Bool, List, map, length, sym, subst}
use Rattle.record_theory.specs.Record.{PlainRecord, as_made}
use Rattle.rerun_records.specs.Sums.{IsSumFor}
use Rattle.rerun_records.specs.Blocks.{PlainBlock, BlockFits}
use Rattle.gathered_records.specs.Summing.{at_places, HasSummed}
use Rattle.gathered_records.proofs.Rows.{some_in_row, block_fits}
use Rattle.gathered_records.proofs.widening.add_wide.Goals as goal

pub finish_at-requires : goal.finish_at-requires
finish_at-requires c = record {
  some =
      subst (λ (rs : List PlainRecord). 0 < length (at_places rs c.deref.result.now)) (sym c.as_slice.ensures.records)
      (subst (λ (ps : List ℕ). 0 < length (at_places (map as_made c.args.records.now) ps)) (sym c.deref.ensures.value)
      (some_in_row c.args.records.now c.args.row.now _ c.args.joined.places.items c.requires.row c.requires.some));
  summed =
      subst (λ (rs : List PlainRecord). HasSummed c.args.kinds.now (at_places rs c.deref.result.now) c.args.joined.sum) (sym c.as_slice.ensures.records)
      (subst (λ (ps : List ℕ). HasSummed c.args.kinds.now (at_places (map as_made c.args.records.now) ps) c.args.joined.sum) (sym c.deref.ensures.value) c.requires.summed);
}

pub add_block-requires : goal.add_block-requires
add_block-requires c =
    let keeps : Bool = c.args.joined.sum.keeps in
    let is : IsSumFor keeps c.args.kinds.now (at_places (map as_made c.args.records.now) c.args.joined.places.items) c.in_ok-sum.sum =
    subst (λ (rs : List PlainRecord). IsSumFor keeps c.args.kinds.now (at_places rs c.args.joined.places.items) c.in_ok-sum.sum) c.as_slice.ensures.records
    (subst (λ (ps : List ℕ). IsSumFor keeps c.args.kinds.now (at_places c.as_slice.result.now ps) c.in_ok-sum.sum) c.deref.ensures.value c.in_ok-sum.ensures.sum) in
    let same : c.keeps-keeps.result ≡ keeps = c.keeps-keeps.ensures.keeps in
    record {
      fits = subst (λ (b : PlainBlock). BlockFits c.args.kinds.now c.args.records.now b) (sym c.new-block.ensures.block)
          (block_fits c.args.records.now c.args.row.now _ c.args.joined.places.items c.requires.row c.args.kinds.now c.keeps-keeps.result c.in_ok-sum.sum c.counted-counted.result c.counted-counted.ensures.counted c.counted-counted.ensures.within
          (subst (λ (b : Bool). IsSumFor b c.args.kinds.now (at_places (map as_made c.args.records.now) c.args.joined.places.items) c.in_ok-sum.sum) (sym same) is));
    }
