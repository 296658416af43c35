use Rattle.std.proofs.Common.{rules, Ok, Err, refl, w64, FitsSigned}
use Rattle.std.proofs.lemmas.Int.{to_z-of_z}
use Rattle.linked_program.specs.CodeView.{expression as plain}
use Rattle.evaluation.specs.Values.{value_at, ◌>>=◌}
use Rattle.evaluation.specs.declared.ranges.LoopRange.{LoopRange}
use Rattle.evaluation.specs.declared.stop.Stop.TheVariants.{Fault}
use Rattle.meaning.specs.declared.FaultKind.TheVariants.{RangeTooLong}
use Rattle.evaluation.proofs.Ending.{second_ends, first_stops}
use Rattle.evaluation.proofs.RangeEnds.{Ranges, between, both_bounds, few_between, many_between}
use Rattle.evaluation.proofs.ranges.range.Goals as goal

pub returns-in-Some : goal.returns-in-Some
returns-in-Some c =
    let low = value_at c.args.tables.now.tables c.args.slots.now (plain c.args.low.now) in
    let high = value_at c.args.tables.now.tables c.args.slots.now (plain c.args.high.now) in
    let old = c.args.notes.now in
    let mid = c.evaluate.new.notes in
    let new = c.evaluate-in-Ok.new.notes in
    let x = c.in-Ok.low in
    let y = c.in-Ok-evaluate.high in
    let n = c.in-Some.count in
    let fits_low : FitsSigned w64 x = search rules in
    let fits_high : FitsSigned w64 y = search rules in
    let counted = rw (to_z-of_z w64 x fits_low, to_z-of_z w64 y fits_high) at c.in-Some.ensures.counted in
    let ends : Ranges (low >>= (λ a. high >>= (λ b. between a b))) old new (Ok (x, n)) =
    both_bounds low high old mid new x y (Ok (x, n)) c.in-Ok.ensures.stops.0 c.in-Ok.ensures.stops.1 c.in-Ok-evaluate.ensures.stops.0 c.in-Ok-evaluate.ensures.stops.1
    (few_between x y new n counted c.in-Some.ensures.within) in
    record { stops = rw (to_z-of_z w64 x fits_low) ends }

pub returns-in-None : goal.returns-in-None
returns-in-None c =
    let low = value_at c.args.tables.now.tables c.args.slots.now (plain c.args.low.now) in
    let high = value_at c.args.tables.now.tables c.args.slots.now (plain c.args.high.now) in
    let old = c.args.notes.now in
    let mid = c.evaluate.new.notes in
    let new = c.evaluate-in-Ok.new.notes in
    let x = c.in-Ok.low in
    let y = c.in-Ok-evaluate.high in
    let fits_low : FitsSigned w64 x = search rules in
    let fits_high : FitsSigned w64 y = search rules in
    let above = rw (to_z-of_z w64 x fits_low, to_z-of_z w64 y fits_high) at c.in-None.ensures.above in
    record {
      stops = both_bounds low high old mid new x y (Err (Fault RangeTooLong)) c.in-Ok.ensures.stops.0 c.in-Ok.ensures.stops.1 c.in-Ok-evaluate.ensures.stops.0 c.in-Ok-evaluate.ensures.stops.1
          (many_between x y new _ refl above);
    }

pub returns-in-Err-evaluate : goal.returns-in-Err-evaluate
returns-in-Err-evaluate c =
    let low = value_at c.args.tables.now.tables c.args.slots.now (plain c.args.low.now) in
    let high = value_at c.args.tables.now.tables c.args.slots.now (plain c.args.high.now) in
    let old = c.args.notes.now in
    let mid = c.evaluate.new.notes in
    let new = c.evaluate-in-Ok.new.notes in
    let x = c.in-Ok.low in
    let stop = c.in-Err-evaluate.stop in
    record {
      stops = second_ends (λ (r : LoopRange). (r.low, r.count)) low (λ a. high >>= (λ b. between a b)) old mid new x (Err stop) c.in-Ok.ensures.stops.0 c.in-Ok.ensures.stops.1
          (first_stops (λ v. v) (λ (r : LoopRange). (r.low, r.count)) high (λ b. between x b) mid new stop c.in-Err-evaluate.ensures.stops);
    }

pub returns-in-Err : goal.returns-in-Err
returns-in-Err c =
    let low = value_at c.args.tables.now.tables c.args.slots.now (plain c.args.low.now) in
    let high = value_at c.args.tables.now.tables c.args.slots.now (plain c.args.high.now) in
    record {
      stops = first_stops (λ v. v) (λ (r : LoopRange). (r.low, r.count)) low (λ a. high >>= (λ b. between a b)) c.args.notes.now c.evaluate.new.notes c.in-Err.stop c.in-Err.ensures.stops;
    }
