use Rattle.std.proofs.Common.{rules, ◌≡◌, ◌∙◌, ◌+◌, ◌<◌, ◌≤◌, ℕ, length, reverse, ap, subst, arith}
use Rattle.positions.specs.declared.work.Loop.{Loop}
use Rattle.positions.specs.declared.work.Work.TheVariants.{Turns}
use Rattle.positions.specs.Activations.{PlainActivation, at}
use Rattle.activations.specs.Turned.{turned_by}
use Rattle.running_ahead.specs.Leaves.{AreRecorded}
use Rattle.running_ahead.proofs.PartsRecorded.{half_over, half_stops}
use Rattle.recording_ahead.proofs.recorded_half.half_goes.Goals as goal

pub returns-then-done-ready : goal.returns-then-done-ready
returns-then-done-ready c =
    let p = c.args.ready.part in
    let a : PlainActivation = c.args.top.now in
    let all : c.args.done ≡ p.share.count = search rules in
    record {
      recorded = λ setting x y grain halved those.
          half_over setting p.site p.halvings p.share a c.requires.there x c.args.path.now.items (reverse c.args.below.now.items) (length c.args.ready.copies.items) p.grain c.requires.levels c.end_half.new.top y
          grain c.requires.reached halved (subst (λ (n : ℕ). AreRecorded setting p.site a.procedure a.slots a.left p.share.first x n y) all those) c.end_half.ensures.ended;
    }

pub turn_to-requires-clause-children : goal.turn_to-requires-clause-children
turn_to-requires-clause-children c =
    let a : c.descend-last.new.top.children ≤ c.args.top.now.children = c.descend-last.ensures.children in
    let d : c.descend-last.result.done < c.descend-last.result.part.share.count = c.descend-last.ensures.some in
    let f : c.descend-last.result.part.share.count ≤ c.args.ready.part.share.count = c.descend-last.ensures.fewer in
    let few : c.args.ready.part.share.count ≤ 256 = c.requires.few in
    let room : c.args.top.now.children + 1024 < 18446744073709551616 = c.requires.children in
    omega (arith, a, d, f, few, room)

pub returns : goal.returns
returns c =
    let p = c.args.ready.part in
    let a : PlainActivation = c.args.top.now in
    let last = c.descend-last.result in
    let b : PlainActivation = c.descend-last.new.top in
    record {
      recorded = λ setting x y grain halved those.
          half_stops setting p.site p.halvings p.share a c.requires.there x c.args.path.now.items (reverse c.args.below.now.items) (length c.args.ready.copies.items) p.grain c.requires.levels
          c.descend-last.new.path.items (reverse c.descend-last.new.below.items) c.args.done last.part.halvings last.part.share b last.done c.descend-last.ensures.some c.descend-last.ensures.procedure grain c.descend-last.ensures.few
          c.turn_to.new.top y (λ s clear path below. c.descend-last.ensures.arrives setting s x y grain clear path below those)
          (c.turn_to.ensures.turned ∙ ap (λ (l : Loop). turned_by last.done l last.part.share (at (Turns l last.part.share) b)) c.descend-last.ensures.site);
    }
