use Rattle.std.proofs.Common.{◌≡◌, drop, map}
use Rattle.positions.specs.Layers.{flagged}
use Rattle.layers.proofs.absorbing.flag_entered.Given as goal

abbrev pub invariant-loop-entry : goal.invariant-loop-entry
invariant-loop-entry l = flagged l.flags.items (map (λ e. e.0) (drop l.entry-index l.entered)) ≡ flagged l.fn.flags.items (map (λ e. e.0) l.entered)
