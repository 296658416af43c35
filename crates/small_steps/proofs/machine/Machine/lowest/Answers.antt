use Rattle.std.proofs.Common.{rules, ◌≡◌, ◌<◌, length, reverse}
use Rattle.positions.specs.Layers.{lowest}
use Rattle.layers.proofs.Lowest.{lowest_first}
use Rattle.small_steps.proofs.machine.Machine.lowest.Goals as goal

pub returns-in-Some : goal.returns-in-Some
returns-in-Some g c =
    let there : 0 < length c.self.inside.lower.items = search rules in
    let e : c.in-Some.layer.now ≡ lowest c.self.inside.layer (reverse c.self.inside.lower.items) =
    lowest_first c.self.inside.layer c.in-Some.layer.now c.self.inside.lower.items there (search rules) in
    search (rules, e)
