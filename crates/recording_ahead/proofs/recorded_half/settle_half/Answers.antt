use Rattle.std.proofs.Common.{rules, ◌≡◌, ◌∙◌, ◌+◌, ◌<◌, ◌≤◌, ◌^◌, true, false, All, List, length, reverse, sym, ap, subst, vec_len, vec_capacity, arith}
use Rattle.positions.specs.declared.phase.Phase.{Phase}
use Rattle.positions.specs.declared.phase.Phase.TheVariants.{Running}
use Rattle.positions.specs.Activations.{PlainActivation}
use Rattle.positions.specs.Strands.{PlainStrand}
use Rattle.running_ahead.specs.Leaves.{IsRecordedAhead, arguments_then}
use Rattle.recording_ahead.proofs.HalfSettled.{half_settled}
use Rattle.recording_ahead.proofs.recorded_half.settle_half.Goals as goal

pub returns-then-half_goes-clause-settled : goal.returns-then-half_goes-clause-settled
returns-then-half_goes-clause-settled g c =
    let p = c.args.ready.part in
    let n = c.args.done in
    let t : PlainStrand = c.args.machine.now in
    let i : PlainStrand = record { start = c.machine.inside.start; layer = c.machine.inside.layer; lower = reverse c.machine.inside.lower.items; path = c.machine.inside.path.items; top = c.machine.inside.top; below = reverse c.machine.inside.below.items; phase = c.machine.inside.phase; arguments = c.machine.inside.arguments.items; tally = c.machine.inside.tally } in
    let path : i.path ≡ c.reserve.new.self.items = search rules in
    let items : c.machine.inside.below.items ≡ c.reserve-2.new.self.items = search rules in
    let below : i.below ≡ reverse c.reserve-2.new.self.items = ap (λ (xs : List PlainActivation). reverse xs) items in
    λ setting s others clear grain halved those.
    half_settled setting p.site p.halvings p.share p.grain n s t i c.machine.view_is others c.reserve.new.self.items c.half_goes.new.path.items (reverse c.reserve-2.new.self.items) (reverse c.half_goes.new.below.items) path below
    true c.half_goes.new.top (arguments_then n p.site p.share s.arguments) c.put_last.new.arguments.items
    (c.in_ok-put_last.ensures.put ∙ ap (λ (z : PlainStrand). arguments_then n p.site p.share z.arguments) (c.machine.view_is ∙ others)) (c.if-half_goes.ensures.recorded setting)
    (sym (ap (λ (z : PlainStrand). z.phase) others) ∙ c.requires.running) clear grain halved those

pub returns-clause-settled : goal.returns-clause-settled
returns-clause-settled g c =
    let p = c.args.ready.part in
    let n = c.args.done in
    let t : PlainStrand = c.args.machine.now in
    let i : PlainStrand = record { start = c.machine.inside.start; layer = c.machine.inside.layer; lower = reverse c.machine.inside.lower.items; path = c.machine.inside.path.items; top = c.machine.inside.top; below = reverse c.machine.inside.below.items; phase = c.machine.inside.phase; arguments = c.machine.inside.arguments.items; tally = c.machine.inside.tally } in
    let path : i.path ≡ c.reserve.new.self.items = search rules in
    let items : c.machine.inside.below.items ≡ c.reserve-2.new.self.items = search rules in
    let below : i.below ≡ reverse c.reserve-2.new.self.items = ap (λ (xs : List PlainActivation). reverse xs) items in
    let phase : i.phase ≡ Running = ap (λ (z : PlainStrand). z.phase) c.machine.view_is ∙ c.requires.running in
    λ setting s others clear grain halved those.
    subst (λ (f : Phase). IsRecordedAhead setting s (record i { path = c.half_goes.new.path.items; top = c.half_goes.new.top; below = reverse c.half_goes.new.below.items; phase = f; arguments = c.put_last.new.arguments.items })) (sym phase)
    (half_settled setting p.site p.halvings p.share p.grain n s t i c.machine.view_is others c.reserve.new.self.items c.half_goes.new.path.items (reverse c.reserve-2.new.self.items) (reverse c.half_goes.new.below.items) path below
    false c.half_goes.new.top (arguments_then n p.site p.share s.arguments) c.put_last.new.arguments.items
    (c.in_ok-put_last.ensures.put ∙ ap (λ (z : PlainStrand). arguments_then n p.site p.share z.arguments) (c.machine.view_is ∙ others)) (c.if-half_goes.ensures.recorded setting)
    (sym (ap (λ (z : PlainStrand). z.phase) others) ∙ c.requires.running) clear grain halved those)

pub half_goes-requires-clause-there : goal.half_goes-requires-clause-there
half_goes-requires-clause-there g c = ap (λ (s : PlainStrand). s.top.work) c.machine.view_is ∙ c.requires.there

pub half_goes-requires-clause-children : goal.half_goes-requires-clause-children
half_goes-requires-clause-children g c =
    subst (λ (s : PlainStrand). s.top.children + 1024 < 2 ^ 64) (sym c.machine.view_is) c.requires.children

pub half_goes-requires-clause-copies : goal.half_goes-requires-clause-copies
half_goes-requires-clause-copies g c =
    subst (λ (s : PlainStrand). All (λ v. v.items ≡ s.top.slots) c.args.ready.copies.items) (sym c.machine.view_is) c.requires.copies

pub half_goes-requires-clause-path_room : goal.half_goes-requires-clause-path_room
half_goes-requires-clause-path_room g c =
    let room : vec_len c.reserve.new.self + (length c.args.ready.copies.items + 1) ≤ vec_capacity c.reserve.new.self = search rules in
    omega (arith, room)

pub half_goes-requires-clause-below_room : goal.half_goes-requires-clause-below_room
half_goes-requires-clause-below_room g c =
    let room : vec_len c.reserve-2.new.self + (length c.args.ready.copies.items + 1) ≤ vec_capacity c.reserve-2.new.self = search rules in
    omega (arith, room)
