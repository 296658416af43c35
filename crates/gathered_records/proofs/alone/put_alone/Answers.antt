use Rattle.std.proofs.Common.{rules, ◌≡◌, ℤ, length, sym, subst, w64}
use Rattle.std.proofs.lemmas.Int.{to_z-of_z}
use Rattle.gathered_records.specs.Gathering.{AreInRow}
use Rattle.gathered_records.proofs.Rows.{none_in_row, next_stays}
use Rattle.gathered_records.proofs.alone.put_alone.Goals as goal

pub loop-init : goal.loop-init
loop-init c = subst (AreInRow c.args.records.now c.args.row.now _) (sym c.requires.none) (none_in_row c.args.records.now c.args.row.now _)

pub loop-preserved : goal.loop-preserved
loop-preserved c =
    let count : c.len.result ≡ length c.loop.places.items = search rules in
    next_stays c.args.records.now c.args.row.now _ c.loop.places.items c.push.new.self.items c.len.result c.in-Some.place
    count c.in-Some.ensures.there c.in-Some.ensures.fresh c.in_ok-push-in-Some.ensures.items c.loop.invariant

pub returns-in-None : goal.returns-in-None
returns-in-None c = record { row = subst (λ (f : ℤ). AreInRow c.args.records.now c.args.row.now f c.loop.places.items) (to_z-of_z w64 _ c.ranges.first) c.loop.invariant }

pub returns : goal.returns
returns c = record { row = subst (λ (f : ℤ). AreInRow c.args.records.now c.args.row.now f c.loop.places.items) (to_z-of_z w64 _ c.ranges.first) c.loop.invariant }
