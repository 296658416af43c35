use Rattle.std.proofs.Common.{◌∙◌, ℕ, List, reverse, ap}
use Rattle.positions.specs.Activations.{PlainActivation}
use Rattle.positions.specs.Strands.{PlainStrand}
use Rattle.small_steps.proofs.Tops.{err_given}
use Rattle.small_steps.proofs.machine.Machine.push_spawned.Goals as goal

pub returns-in_err-reserve-2-clause-unchanged : goal.returns-in_err-reserve-2-clause-unchanged
returns-in_err-reserve-2-clause-unchanged g c =
    let m : PlainStrand = record { start = c.self.inside.start; layer = c.self.inside.layer; lower = reverse c.self.inside.lower.items; path = c.self.inside.path.items; top = c.self.inside.top; below = reverse c.self.inside.below.items; phase = c.self.inside.phase; arguments = c.self.inside.arguments.items; tally = c.self.inside.tally } in
    err_given _ (ap (λ (ns : List ℕ). record m { path = ns; below = reverse c.reserve-2.new.self.items }) c.reserve.ensures.items ∙ ap (λ (ps : List PlainActivation). record m { below = reverse ps }) c.reserve-2.ensures.items ∙ c.self.view_is) c.from_residual-in_err-reserve-2.result

pub returns-in_err-extend_from_slice-clause-unchanged : goal.returns-in_err-extend_from_slice-clause-unchanged
returns-in_err-extend_from_slice-clause-unchanged g c =
    let m : PlainStrand = record { start = c.self.inside.start; layer = c.self.inside.layer; lower = reverse c.self.inside.lower.items; path = c.self.inside.path.items; top = c.self.inside.top; below = reverse c.self.inside.below.items; phase = c.self.inside.phase; arguments = c.self.inside.arguments.items; tally = c.self.inside.tally } in
    err_given _ (ap (λ (ns : List ℕ). record m { path = ns; below = reverse c.reserve-2.new.self.items }) c.reserve.ensures.items ∙ ap (λ (ps : List PlainActivation). record m { below = reverse ps }) c.reserve-2.ensures.items ∙ c.self.view_is) c.from_residual-in_err-extend_from_slice.result

pub returns-in_err-push-clause-unchanged : goal.returns-in_err-push-clause-unchanged
returns-in_err-push-clause-unchanged g c =
    let m : PlainStrand = record { start = c.self.inside.start; layer = c.self.inside.layer; lower = reverse c.self.inside.lower.items; path = c.self.inside.path.items; top = c.self.inside.top; below = reverse c.self.inside.below.items; phase = c.self.inside.phase; arguments = c.self.inside.arguments.items; tally = c.self.inside.tally } in
    err_given _ (ap (λ (ns : List ℕ). record m { path = ns; below = reverse c.reserve-2.new.self.items }) c.reserve.ensures.items ∙ ap (λ (ps : List PlainActivation). record m { below = reverse ps }) c.reserve-2.ensures.items ∙ c.self.view_is) c.from_residual-in_err-push.result
