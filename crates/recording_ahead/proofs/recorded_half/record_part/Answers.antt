use Rattle.std.proofs.Common.{◌≡◌, ◌∙◌, ◌+◌, ◌<◌, ◌^◌, All, sym, ap, subst}
use Rattle.positions.specs.Strands.{PlainStrand}
use Rattle.recording_ahead.proofs.recorded_half.record_part.Goals as goal

pub settle_half-requires-clause-there : goal.settle_half-requires-clause-there
settle_half-requires-clause-there g c κs within = ap (λ (s : PlainStrand). s.top.work) c.in-Ok.ensures.others ∙ c.requires.there

pub settle_half-requires-clause-running : goal.settle_half-requires-clause-running
settle_half-requires-clause-running g c κs within = ap (λ (s : PlainStrand). s.phase) c.in-Ok.ensures.others ∙ c.requires.running

pub settle_half-requires-clause-children : goal.settle_half-requires-clause-children
settle_half-requires-clause-children g c κs within =
    subst (λ (s : PlainStrand). s.top.children + 1024 < 2 ^ 64) (sym c.in-Ok.ensures.others) c.requires.children

pub settle_half-requires-clause-copies : goal.settle_half-requires-clause-copies
settle_half-requires-clause-copies g c κs within =
    subst (λ (s : PlainStrand). All (λ v. v.items ≡ s.top.slots) c.args.ready.copies.items) (sym c.in-Ok.ensures.others) c.requires.copies
