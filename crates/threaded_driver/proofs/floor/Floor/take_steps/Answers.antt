use Rattle.std.proofs.Common.{List, suc, ◌+◌, length, refl, ap, ◌∙◌}
use Rattle.positions.specs.Layers.{PlainLayer}
use Rattle.threaded_driver.proofs.Feeding.{fed_on}
use Rattle.threaded_driver.proofs.Binding.{stays_after, returned_after}
use Rattle.threaded_driver.proofs.floor.Floor.take_steps.Goals as goal

pub record_ahead-requires-clause-kits : goal.record_ahead-requires-clause-kits
record_ahead-requires-clause-kits g c κs within = ap (λ (ls : List PlainLayer). suc (length ls) + c.loop.supply.free) c.steps_ahead.ensures.lower ∙ c.loop.invariant.1

pub loop-preserved : goal.loop-preserved
loop-preserved g c =
    let s = c.record_ahead.new.strand.strand in
    let t = c.advance.new.self.strand in
    let stays = stays_after _ _ g.J.Run.setting s t c.in_ok-paused.ensures.advanced in (
      stays ∙ c.in_ok-record_ahead.ensures.spot ∙ c.in_ok-steps_ahead.ensures.spot ∙ c.loop.invariant.0,
      fed_on s s t c.record_ahead.new.supply.free c.advance.new.kits.free c.record_ahead.ensures.kits refl c.in_ok-paused.ensures.kits,
      c.loop.invariant.2,
    )

pub returns-in_default : goal.returns-in_default
returns-in_default g c =
    let s = c.record_ahead.new.strand.strand in
    let t = c.advance.new.self.strand in
    record {
      kits = fed_on s s t c.record_ahead.new.supply.free c.advance.new.kits.free c.record_ahead.ensures.kits refl c.in_ok-paused.ensures.kits;
      seat = c.loop.invariant.2;
      spot = stays_after _ _ g.J.Run.setting s t c.in_ok-paused.ensures.advanced ∙ c.in_ok-record_ahead.ensures.spot ∙ c.in_ok-steps_ahead.ensures.spot ∙ c.loop.invariant.0;
      returned = returned_after _ _ g.J.Run.setting s t c.in_ok-paused.paused c.in_ok-paused.ensures.pause c.in_ok-paused.ensures.advanced;
    }
