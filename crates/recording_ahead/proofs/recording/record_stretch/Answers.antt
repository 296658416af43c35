use Rattle.std.proofs.Common.{◌≡◌, ◌∙◌, ◌+◌, ◌<◌, ◌≤◌, ◌^◌, ap, arith}
use Rattle.positions.specs.Strands.{PlainStrand}
use Rattle.recording_ahead.proofs.recording.record_stretch.Goals as goal

pub settle-requires-clause-there : goal.settle-requires-clause-there
settle-requires-clause-there g c κs within = ap (λ (s : PlainStrand). s.top.work) c.in-Ok.ensures.others ∙ c.requires.there

pub settle-requires-clause-some : goal.settle-requires-clause-some
settle-requires-clause-some g c κs within =
    let done : c.in-Ok.done ≤ c.args.stretch.most = c.in-Ok.ensures.some in
    let most : c.args.stretch.most ≤ c.args.stretch.share.count = c.requires.some in
    omega (arith, done, most)

pub settle-requires-clause-room : goal.settle-requires-clause-room
settle-requires-clause-room g c κs within =
    let done : c.in-Ok.done ≤ c.args.stretch.most = c.in-Ok.ensures.some in
    let same : c.chain_through.new.machine.top.children ≡ c.args.machine.now.top.children = ap (λ (s : PlainStrand). s.top.children) c.in-Ok.ensures.others in
    let room : c.args.machine.now.top.children + c.args.stretch.most < 2 ^ 64 = c.requires.room in
    omega (arith, done, same, room)
