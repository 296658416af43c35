use Rattle.std.proofs.Common.{rules, ◌≡◌, ◌-◌, true, ap, ◌∙◌, ℕ}
use Rattle.positions.specs.declared.phase.Phase.TheVariants.{Running}
use Rattle.positions.specs.Advance.{in_phase, split}
use Rattle.activations.specs.Given.{lent}
use Rattle.running_ahead.proofs.Halving.{first_ahead}
use Rattle.running_ahead.proofs.halves.first_ahead.Goals as goal

pub returns-then-first_half : goal.returns-then-first_half
returns-then-first_half g c =
    let is_called : c.first_half.result ≡ true = search rules in
    let fewer : c.saturating_sub.result ≡ c.args.halvings - 1 = search rules in
    let is : c.first_half.new.machine ≡ in_phase Running (split c.args.site (c.args.halvings - 1) c.args.share c.args.machine.now) =
    c.first_half.ensures.called is_called ∙ ap (λ (k : ℕ). in_phase Running (split c.args.site k c.args.share c.args.machine.now)) fewer in
    record { ahead = first_ahead (lent c.args.setting) c.args.site c.args.halvings c.args.share c.args.machine.now c.first_half.new.machine c.requires.running c.requires.there c.requires.halved is }
