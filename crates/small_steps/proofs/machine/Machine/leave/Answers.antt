use Rattle.std.proofs.Common.{rules, ◌≡◌, reverse, refl, subst}
use Rattle.evaluation.specs.declared.slot.Slot.TheVariants.{Has}
use Rattle.positions.specs.declared.phase.Phase.TheVariants.{Running}
use Rattle.positions.specs.Activations.{bound}
use Rattle.positions.specs.Strands.{PlainStrand, shorter}
use Rattle.positions.specs.Advance.{left_to}
use Rattle.small_steps.proofs.Leaving.{left_popped}
use Rattle.small_steps.proofs.machine.Machine.leave.Goals as goal

pub returns-in-Some : goal.returns-in-Some
returns-in-Some g c =
    let v = c.args.value in
    let s : PlainStrand = record { start = c.self.inside.start; layer = c.self.inside.layer; lower = reverse c.self.inside.lower.items; path = c.self.inside.path.items; top = c.self.inside.top; below = reverse c.self.inside.below.items; phase = c.self.inside.phase; arguments = c.self.inside.arguments.items; tally = c.self.inside.tally } in
    let path : c.pop-in-Some.new.self.items ≡ shorter s.path = search rules in
    let top : c.receive.new.self ≡ bound c.in-Some.parent.into (Has v) c.in-Some.parent = search rules in
    let new : PlainStrand = record s { path = c.pop-in-Some.new.self.items; top = c.receive.new.self; below = reverse c.pop.new.self.items; phase = Running } in
    record {
      left = subst (λ (z : PlainStrand). new ≡ left_to z.below v z) c.self.view_is
          (left_popped s c.pop-in-Some.new.self.items c.self.inside.below.items c.pop.new.self.items c.in-Some.parent c.receive.new.self v refl c.in-Some.ensures.items path top);
    }
