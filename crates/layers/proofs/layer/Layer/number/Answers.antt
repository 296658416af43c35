use Rattle.std.proofs.Common.{rules, ◌≡◌, Some, None, slice_get}
use Rattle.monoid_laws.specs.Kinds.{meaning}
use Rattle.layers.proofs.Worths.{read_in, read_out}
use Rattle.layers.proofs.layer.Layer.number.Goals as goal

pub returns-then-reducer-len : goal.returns-then-reducer-len
returns-then-reducer-len g c =
    let out : slice_get c.self.inside.hypermap.worths c.args.reducer ≡ None =
    read_out c.self.inside.hypermap.kinds c.self.inside.hypermap.worths c.args.reducer c.len.ensures.worths (search rules) in
    search (rules, out)

pub returns : goal.returns
returns g c =
    let found : slice_get c.self.inside.hypermap.worths c.args.reducer ≡ Some (meaning c.in_ok-value.value) =
    read_in c.self.inside.hypermap.kinds c.self.inside.hypermap.worths c.args.reducer (meaning c.in_ok-value.value) c.len.ensures.worths (search rules) (search rules) in
    search (rules, found)
