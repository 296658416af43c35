use Rattle.std.proofs.Common.{◌≡◌, ◌<◌, length, OnOk, subst, sym}
use Rattle.hypermaps.specs.Layer.{IsAt}
use Rattle.instance_records.specs.Readings.{all_of}
use Rattle.positions.specs.Layers.{PlainLayer, updating}
use Rattle.layers.proofs.Updates.{updated_on}
use Rattle.layers.proofs.layer.Layer.update_fitting.Goals as goal

pub returns-clause-updated : goal.returns-clause-updated
returns-clause-updated g c =
    let l : PlainLayer = record { keeps = c.self.inside.keeps; kinds = c.self.inside.hypermap.kinds; worths = c.self.inside.hypermap.worths; notes = c.self.inside.notes; shared = all_of c.self.inside.shared.items; entered = c.self.inside.entered.items; deepest = c.self.inside.deepest } in
    let at : IsAt l.kinds c.args.reducer c.args.kind.now = subst (λ (z : PlainLayer). IsAt z.kinds c.args.reducer c.args.kind.now) (sym c.self.view_is) c.requires.kind in
    let less : c.args.reducer < length l.kinds = subst (λ (z : PlainLayer). c.args.reducer < length z.kinds) (sym c.self.view_is) c.requires.there in
    let e : OnOk c.update.result (record l { kinds = c.update.new.self.kinds; worths = c.update.new.self.worths } ≡ updating c.args.reducer c.args.kind.now c.args.numbers.now l) =
    updated_on c.update.result l c.update.new.self.kinds c.update.new.self.worths c.args.reducer c.args.kind.now c.args.numbers.now c.len.ensures.worths less c.update.ensures.kinds
    (λ x p. c.update.ensures.done c.args.kind.now x at p) in
    subst (λ (z : PlainLayer). OnOk c.update.result (record l { kinds = c.update.new.self.kinds; worths = c.update.new.self.worths } ≡ updating c.args.reducer c.args.kind.now c.args.numbers.now z)) c.self.view_is e
