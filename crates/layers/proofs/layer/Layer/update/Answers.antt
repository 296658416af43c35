use Rattle.std.proofs.Common.{◌≡◌, ◌<◌, length, subst, sym}
use Rattle.hypermaps.specs.Layer.{IsAt}
use Rattle.instance_records.specs.Readings.{all_of}
use Rattle.positions.specs.Layers.{PlainLayer, updating}
use Rattle.layers.specs.Updates.{IsIdentity}
use Rattle.layers.proofs.Updates.{unchanged_by}
use Rattle.layers.proofs.layer.Layer.update.Goals as goal

pub returns-then-not-branch-clause-updated : goal.returns-then-not-branch-clause-updated
returns-then-not-branch-clause-updated g c =
    let l : PlainLayer = record { keeps = c.self.inside.keeps; kinds = c.self.inside.hypermap.kinds; worths = c.self.inside.hypermap.worths; notes = c.self.inside.notes; shared = all_of c.self.inside.shared.items; entered = c.self.inside.entered.items; deepest = c.self.inside.deepest } in
    let at : IsAt l.kinds c.args.reducer c.args.kind.now = subst (λ (z : PlainLayer). IsAt z.kinds c.args.reducer c.args.kind.now) (sym c.self.view_is) c.requires.kind in
    let less : c.args.reducer < length l.kinds = subst (λ (z : PlainLayer). c.args.reducer < length z.kinds) (sym c.self.view_is) c.requires.there in
    let i : IsIdentity c.args.kind.now c.args.numbers.now.items = c.in_ok-fit.ensures.identity c.if-not-branch.true in
    subst (λ (z : PlainLayer). z ≡ updating c.args.reducer c.args.kind.now c.args.numbers.now.items z) c.self.view_is
    (unchanged_by l c.args.reducer c.args.kind.now c.args.numbers.now.items c.len.ensures.worths less at i)
