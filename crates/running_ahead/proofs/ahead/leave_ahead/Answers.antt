use Rattle.std.proofs.Common.{rules, ◌≡◌, ℤ, subst, to_z, of_z, w64}
use Rattle.positions.specs.declared.phase.Phase.TheVariants.{Leaving}
use Rattle.running_ahead.proofs.Paths.{ahead_here, leave_ahead}
use Rattle.running_ahead.proofs.ahead.leave_ahead.Goals as goal

pub returns-then-is_empty : goal.returns-then-is_empty
returns-then-is_empty g c = record { ahead = λ setting. ahead_here setting c.args.machine.now }

pub returns : goal.returns
returns g c =
    let v : ℤ = to_z w64 (of_z w64 c.args.value) in
    let same : c.args.value ≡ v = search rules in
    record { ahead = λ setting. leave_ahead setting v c.args.machine.now c.leave.new.self (subst (λ (x : ℤ). c.args.machine.now.phase ≡ Leaving x) same c.requires.leaving) c.leave.ensures.left }
