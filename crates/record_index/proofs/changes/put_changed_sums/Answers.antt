use Rattle.std.proofs.Common.{rules, arith, ◌≡◌, ◌<◌, ◌∙◌, pos, length, get_or, FitsSigned, w64, to_z-of_z}
use Rattle.record_index.specs.Befores.{sums_from}
use Rattle.record_index.proofs.RowSums.{sums_only_more, get_total, nothing_left, length_sums, total_is}
use Rattle.record_index.proofs.changes.put_changed_sums.Goals as goal

pub loop-column-preserved : goal.loop-column-preserved
loop-column-preserved c =
    let long : length (sums_from c.args.tables.now.tables c.args.table 0 (length c.args.sums.now)) ≡ length c.args.sums.now = length_sums c.args.tables.now.tables c.args.table 0 (length c.args.sums.now) in
    let within : c.loop-column.column < length c.args.sums.now = c.loop-column-test.true in
    let was_fits : FitsSigned w64 (get_or c.args.sums.now c.loop-column.column (pos 0)) = search rules in
    let now_fits : FitsSigned w64 c.sum-now.result = search rules in
    record {
      lost = sums_only_more c.args.table c.loop-column.column _ _ c.args.sums.now _ c.loop-column.lost.items _ _ within
          (to_z-of_z was_fits ∙ get_total c.args.sums.now c.loop-column.column) (to_z-of_z now_fits ∙ total_is c.args.tables.now.tables c.args.table (length c.args.sums.now) _ _ within c.sum-now.ensures.numbered)
          c.put_sum.ensures.put c.loop-column.invariant.lost;
      won = sums_only_more c.args.table c.loop-column.column _ _ _ c.args.sums.now c.loop-column.won.items _ _ (omega (arith, within, long))
          (to_z-of_z now_fits ∙ total_is c.args.tables.now.tables c.args.table (length c.args.sums.now) _ _ within c.sum-now.ensures.numbered) (to_z-of_z was_fits ∙ get_total c.args.sums.now c.loop-column.column)
          c.put_sum-in-loop-column.ensures.put c.loop-column.invariant.won;
      few = omega (arith, c.put_sum.ensures.few, c.loop-column.invariant.few);
      few_won = omega (arith, c.put_sum-in-loop-column.ensures.few, c.loop-column.invariant.few_won);
      room = c.put_sum.ensures.room ∙ c.loop-column.invariant.room;
      room_won = c.put_sum-in-loop-column.ensures.room ∙ c.loop-column.invariant.room_won;
    }

pub returns-clause-won : goal.returns-clause-won
returns-clause-won c = nothing_left c.args.tables.now.tables _ (length c.args.sums.now) c.loop-column.column c.args.sums.now c.loop-column.won.items _ c.loop-column-test.false c.loop-column.invariant.won
