use Rattle.std.proofs.Common.{rules, ◌≡◌, ◌<◌, ◌∷◌, [], map, length, ◌∙◌}
use Rattle.std.proofs.lemmas.List.{map-append}
use Rattle.monoid_laws.specs.Kinds.{meaning}
use Rattle.layers.proofs.Worths.{copied_next, copied_all}
use Rattle.layers.proofs.closing.values_of.Goals as goal

pub loop-i-preserved : goal.loop-i-preserved
loop-i-preserved g c =
    let less : c.loop-i.i < length c.args.hypermap.now.kinds = search rules in
    rw (c.in_ok-push.ensures.items)
    (map-append meaning c.loop-i.values.items (c.in_ok-value.field-0 ∷ [])
    ∙ copied_next c.args.hypermap.now.kinds c.args.hypermap.now.worths (map meaning c.loop-i.values.items) c.loop-i.i (meaning c.in_ok-value.field-0) c.len-count.ensures.worths less c.loop-i.invariant c.in_ok-value.ensures)

pub returns : goal.returns
returns g c =
    let all : c.loop-i.i ≡ length c.args.hypermap.now.kinds = search rules in
    record { values = c.loop-i.invariant ∙ copied_all c.args.hypermap.now.kinds c.args.hypermap.now.worths c.loop-i.i c.len-count.ensures.worths all }
