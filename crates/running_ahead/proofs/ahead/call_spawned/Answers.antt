use Rattle.std.proofs.Common.{rules, ◌≡◌, reverse, refl, subst}
use Rattle.positions.specs.declared.phase.Phase.TheVariants.{AtSpawn}
use Rattle.positions.specs.Strands.{PlainStrand}
use Rattle.positions.specs.Moves.{inlined}
use Rattle.running_ahead.specs.Ahead.{IsAhead}
use Rattle.running_ahead.proofs.Paths.{ahead_here, inlined_ahead}
use Rattle.running_ahead.proofs.ahead.call_spawned.Goals as goal

pub returns-then-not-is_called-clause-ahead : goal.returns-then-not-is_called-clause-ahead
returns-then-not-is_called-clause-ahead g c setting = ahead_here setting c.args.machine.now

pub returns-clause-ahead : goal.returns-clause-ahead
returns-clause-ahead g c setting =
    let s : PlainStrand = record { start = c.machine.inside.start; layer = c.machine.inside.layer; lower = reverse c.machine.inside.lower.items; path = c.machine.inside.path.items; top = c.machine.inside.top; below = reverse c.machine.inside.below.items; phase = c.machine.inside.phase; arguments = c.machine.inside.arguments.items; tally = c.machine.inside.tally } in
    let phase : s.phase ≡ AtSpawn = search rules in
    subst (λ (z : PlainStrand). IsAhead setting z (inlined s)) c.machine.view_is (inlined_ahead setting s (inlined s) phase refl)
