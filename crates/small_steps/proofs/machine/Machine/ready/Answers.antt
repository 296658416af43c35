use Rattle.std.proofs.Common.{◌≡◌, ◌<◌, length, subst}
use Rattle.positions.specs.declared.phase.Phase.TheVariants.{AtSpawn}
use Rattle.positions.specs.Strands.{PlainStrand}
use Rattle.small_steps.proofs.Ready.{parent_waits}
use Rattle.small_steps.proofs.machine.Machine.ready.Goals as goal

pub returns : goal.returns
returns g c = record {
  parent = subst (λ (s : PlainStrand). s.phase ≡ AtSpawn → 0 < length s.below) c.self.view_is
      (λ e. parent_waits c.self.inside.phase c.self.inside.below.items c.self.inside.place.items c.self.inside.path.items c.self.invariant e);
}
