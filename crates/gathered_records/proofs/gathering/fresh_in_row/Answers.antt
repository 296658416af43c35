use Rattle.std.proofs.Common.{rules, ◌≡◌, ℤ, length, subst, w64}
use Rattle.std.proofs.lemmas.Int.{to_z-of_z}
use Rattle.gathered_records.specs.Gathering.{AreInRow}
use Rattle.gathered_records.proofs.Rows.{next_stands, stopped_in_row}
use Rattle.gathered_records.proofs.gathering.fresh_in_row.Goals as goal

pub loop-init : goal.loop-init
loop-init c = c.in_ok-put_alone.ensures.row

pub loop-preserved : goal.loop-preserved
loop-preserved c =
    let count : c.len.result ≡ length c.loop.places.items = search rules in
    next_stands c.args.records.now c.loop.row c.next_fresh.new.row _ c.loop.places.items c.push.new.self.items c.len.result c.in-Some.place
    c.in-Some.ensures.moved count c.in-Some.ensures.there c.in-Some.ensures.fresh c.in_ok-push-in-Some.ensures.items c.loop.invariant

pub returns-in-None : goal.returns-in-None
returns-in-None c = record {
  row =
      subst (λ (f : ℤ). AreInRow c.args.records.now c.next_fresh.new.row f c.loop.places.items) (to_z-of_z w64 _ c.ranges.first)
      (stopped_in_row c.args.records.now c.loop.row c.next_fresh.new.row _ c.loop.places.items c.next_fresh.ensures.row c.loop.invariant);
}

pub returns : goal.returns
returns c = record { row = subst (λ (f : ℤ). AreInRow c.args.records.now c.loop.row f c.loop.places.items) (to_z-of_z w64 _ c.ranges.first) c.loop.invariant }
