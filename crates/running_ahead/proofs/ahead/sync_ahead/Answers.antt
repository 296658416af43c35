use Rattle.std.proofs.Common.{rules, ℤ, to_z, of_z, w64, ◌≡◌, false, reverse, subst}
use Rattle.positions.specs.declared.phase.Phase.TheVariants.{Leaving, Returning}
use Rattle.positions.specs.Strands.{PlainStrand, is_entry}
use Rattle.positions.specs.Advance.{in_phase, owns_top}
use Rattle.running_ahead.specs.Ahead.{IsAhead}
use Rattle.running_ahead.proofs.Paths.{ahead_here, ahead_join, sync_ahead}
use Rattle.running_ahead.proofs.ahead.sync_ahead.Goals as goal

pub returns-then-is_entry : goal.returns-then-is_entry
returns-then-is_entry g c = record { ahead = λ setting. ahead_here setting c.args.machine.now }

pub returns : goal.returns
returns g c =
    let s : PlainStrand = record { start = c.machine.inside.start; layer = c.machine.inside.layer; lower = reverse c.machine.inside.lower.items; path = c.machine.inside.path.items; top = c.machine.inside.top; below = reverse c.machine.inside.below.items; phase = c.machine.inside.phase; arguments = c.machine.inside.arguments.items; tally = c.machine.inside.tally } in
    let v : ℤ = to_z w64 (of_z w64 c.args.value) in
    let phase : s.phase ≡ Returning v = search rules in
    let entry : is_entry s ≡ false = search rules in
    let own : owns_top s ≡ false = search rules in
    record { ahead = λ setting. subst (λ (z : PlainStrand). IsAhead setting z c.leave_ahead.new.machine) c.machine.view_is (ahead_join setting s (in_phase (Leaving v) s) c.leave_ahead.new.machine (sync_ahead setting v s phase entry own) (c.leave_ahead.ensures.ahead setting)) }
