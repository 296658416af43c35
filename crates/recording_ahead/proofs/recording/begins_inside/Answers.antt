use Rattle.std.proofs.Common.{rules, ◌≡◌, ◌≤◌, length, reverse, subst}
use Rattle.positions.specs.declared.start.Start.TheVariants.{Root, Behind}
use Rattle.positions.specs.Strands.{PlainStrand}
use Rattle.running_ahead.specs.Leaves.{IsAmid}
use Rattle.recording_ahead.proofs.Amid.{root_amid, behind_amid}
use Rattle.recording_ahead.proofs.recording.begins_inside.Goals as goal

pub returns-in-Root : goal.returns-in-Root
returns-in-Root g c =
    let s : PlainStrand = record { start = c.machine.inside.start; layer = c.machine.inside.layer; lower = reverse c.machine.inside.lower.items; path = c.machine.inside.path.items; top = c.machine.inside.top; below = reverse c.machine.inside.below.items; phase = c.machine.inside.phase; arguments = c.machine.inside.arguments.items; tally = c.machine.inside.tally } in
    let begins : s.start ≡ Root = search rules in
    record { amid = λ held. subst IsAmid c.machine.view_is (root_amid s begins) }

pub returns-in-Behind : goal.returns-in-Behind
returns-in-Behind g c =
    let s : PlainStrand = record { start = c.machine.inside.start; layer = c.machine.inside.layer; lower = reverse c.machine.inside.lower.items; path = c.machine.inside.path.items; top = c.machine.inside.top; below = reverse c.machine.inside.below.items; phase = c.machine.inside.phase; arguments = c.machine.inside.arguments.items; tally = c.machine.inside.tally } in
    let begins : s.start ≡ Behind c.in-Behind.depth c.in-Behind.child = search rules in
    record {
      amid = λ held.
          let short : c.in-Behind.depth ≤ length s.path = search rules in
          subst IsAmid c.machine.view_is (behind_amid c.in-Behind.depth c.in-Behind.child s begins short);
    }
