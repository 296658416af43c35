use Rattle.std.proofs.Common.{rules, ◌≡◌, ◌<◌, ◌≤◌, ◌∙◌, ℕ, List, All, map, length, sym, subst, arith}
use Rattle.monoid_laws.specs.declared.Kind.{Kind}
use Rattle.monoid_laws.specs.Kinds.{IsMonoid}
use Rattle.record_theory.specs.Record.{PlainRecord, as_made}
use Rattle.record_theory.specs.Named.{HaveValues}
use Rattle.gathered_records.specs.Summing.{at_places}
use Rattle.rerun_records.specs.Sums.{IsSumFor}
use Rattle.rerun_records.specs.Blocks.{PlainBlock, BlockFits}
use Rattle.gathered_records.proofs.Rows.{values_as_made, some_there, block_fits}
use Rattle.gathered_records.proofs.gathering.gather_row.Goals as goal

pub sum_at-requires : goal.sum_at-requires
sum_at-requires c =
    let count : c.len.result ≡ length c.in_ok-places.places.items = search rules in
    let more : 2 ≤ length c.in_ok-places.places.items = subst (λ (n : ℕ). 2 ≤ n) count c.if-len-lt2.false in
    let values : HaveValues c.args.program.now.kinds (map as_made c.args.records.now) =
    values_as_made c.args.program.now.kinds c.args.records.now c.requires.values in
    record {
      monoids = subst (λ (ks : List Kind). All IsMonoid ks) (sym c.kinds.ensures.kinds) c.requires.monoids;
      values =
          subst (λ (rs : List PlainRecord). HaveValues c.kinds.result.now rs) (sym c.as_slice.ensures.records)
          (subst (λ (ks : List Kind). HaveValues ks (map as_made c.args.records.now)) (sym c.kinds.ensures.kinds) values);
      some =
          subst (λ (rs : List PlainRecord). 0 < length (at_places rs c.deref-2.result.now)) (sym c.as_slice.ensures.records)
          (subst (λ (ps : List ℕ). 0 < length (at_places (map as_made c.args.records.now) ps)) (sym c.deref-2.ensures.value)
          (some_there c.args.records.now c.fresh_in_row.new.row _ c.in_ok-places.places.items c.in_ok-places.ensures.row (omega (arith, more))));
    }

pub add_block-requires : goal.add_block-requires
add_block-requires c =
    let is : IsSumFor c.keeps_reads-keeps.result c.kinds-2.result.now (at_places (map as_made c.args.records.now) c.in_ok-places.places.items) c.in_ok-sum.sum =
    subst (λ (ks : List Kind). IsSumFor c.keeps_reads-keeps.result ks (at_places (map as_made c.args.records.now) c.in_ok-places.places.items) c.in_ok-sum.sum) (c.kinds.ensures.kinds ∙ sym c.kinds-2.ensures.kinds)
    (subst (λ (rs : List PlainRecord). IsSumFor c.keeps_reads-keeps.result c.kinds.result.now (at_places rs c.in_ok-places.places.items) c.in_ok-sum.sum) c.as_slice.ensures.records
    (subst (λ (ps : List ℕ). IsSumFor c.keeps_reads-keeps.result c.kinds.result.now (at_places c.as_slice.result.now ps) c.in_ok-sum.sum) c.deref-2.ensures.value c.in_ok-sum.ensures.sum)) in
    record {
      fits = subst (λ (b : PlainBlock). BlockFits c.kinds-2.result.now c.args.records.now b) (sym c.new-block.ensures.block)
          (block_fits c.args.records.now c.fresh_in_row.new.row _ c.in_ok-places.places.items c.in_ok-places.ensures.row c.kinds-2.result.now c.keeps_reads-keeps.result c.in_ok-sum.sum c.counted.result c.counted.ensures.counted c.counted.ensures.within
          is);
    }
