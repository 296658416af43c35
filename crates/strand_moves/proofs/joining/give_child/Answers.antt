use Rattle.std.proofs.Common.{rules, ◌≡◌, ◌-◌, ◌<◌, ◌≤◌, length, reverse, set, refl, subst, FitsSigned, w64}
use Rattle.std.proofs.lemmas.Int.{to_z-of_z}
use Rattle.positions.specs.Strands.{PlainStrand}
use Rattle.positions.specs.Moves.{settled, settled_by}
use Rattle.strand_moves.proofs.Settling.{settled_under, settled_nowhere}
use Rattle.strand_moves.proofs.joining.give_child.Goals as goal

pub returns-then-above-len : goal.returns-then-above-len
returns-then-above-len g c =
    let s : PlainStrand = record { start = c.machine.inside.start; layer = c.machine.inside.layer; lower = reverse c.machine.inside.lower.items; path = c.machine.inside.path.items; top = c.machine.inside.top; below = reverse c.machine.inside.below.items; phase = c.machine.inside.phase; arguments = c.machine.inside.arguments.items; tally = c.machine.inside.tally } in
    let above : c.saturating_sub-above.result ≡ length s.path - c.in-Behind.depth = search rules in
    let more : 0 < c.saturating_sub-above.result = search rules in
    let within : c.saturating_sub-above.result ≤ length c.machine.inside.below.items = search rules in
    let place : c.len-then-above-len.result - c.saturating_sub-above.result ≡ length c.machine.inside.below.items - c.saturating_sub-above.result = search rules in
    let fits : FitsSigned w64 c.args.value = c.ranges.value in
    let new : c.give_child-then-above-len.new.self ≡ settled c.in-Behind.child c.args.value c.index_mut.result.now = simp to_z-of_z at c.give_child-then-above-len.ensures.settled in
    let e : record s { below = reverse (set c.machine.inside.below.items (c.len-then-above-len.result - c.saturating_sub-above.result) c.give_child-then-above-len.new.self) } ≡ settled_by s.start c.args.value s =
    settled_under s c.machine.inside.below.items c.index_mut.result.now c.give_child-then-above-len.new.self c.in-Behind.depth c.in-Behind.child c.saturating_sub-above.result
    (c.len-then-above-len.result - c.saturating_sub-above.result) c.args.value c.in-Behind.is refl above more within place c.index_mut.ensures.value new in
    record { settled = subst (λ (z : PlainStrand). record s { below = reverse (set c.machine.inside.below.items (c.len-then-above-len.result - c.saturating_sub-above.result) c.give_child-then-above-len.new.self) } ≡ settled_by z.start c.args.value z) c.machine.view_is e }

pub returns-else-above-len : goal.returns-else-above-len
returns-else-above-len g c =
    let s : PlainStrand = record { start = c.machine.inside.start; layer = c.machine.inside.layer; lower = reverse c.machine.inside.lower.items; path = c.machine.inside.path.items; top = c.machine.inside.top; below = reverse c.machine.inside.below.items; phase = c.machine.inside.phase; arguments = c.machine.inside.arguments.items; tally = c.machine.inside.tally } in
    let above : c.saturating_sub-above.result ≡ length s.path - c.in-Behind.depth = search rules in
    let beyond : length c.machine.inside.below.items < c.saturating_sub-above.result = search rules in
    record {
      settled = subst (λ (z : PlainStrand). z ≡ settled_by z.start c.args.value z) c.machine.view_is
          (settled_nowhere s c.machine.inside.below.items c.in-Behind.depth c.in-Behind.child c.saturating_sub-above.result c.args.value c.in-Behind.is refl above beyond);
    }
