use Rattle.std.proofs.Common.{rules, ◌≡◌, ◌+◌, ◌≤◌, arith, length, true, vec_len, vec_capacity, ℤ, to_z, of_z, w64, Some, List, reverse, refl, sym, ap, ◌∙◌, subst}
use Rattle.positions.specs.declared.phase.Phase.{Phase}
use Rattle.positions.specs.declared.phase.Phase.TheVariants.{Running, Returning}
use Rattle.positions.specs.Activations.{PlainActivation}
use Rattle.positions.specs.Strands.{PlainStrand}
use Rattle.activations.specs.Given.{lent}
use Rattle.own_statements.specs.Paths.{MayPass, ComesTo, stacked, topped}
use Rattle.running_ahead.specs.Ahead.{IsAhead}
use Rattle.running_ahead.specs.Chains.{under}
use Rattle.running_ahead.proofs.Paths.{ahead_here, come_ahead, stop_ahead, same_parts}
use Rattle.running_ahead.proofs.ahead.statements_ahead.Goals as goal

pub returns-in-Gave-clause-ahead : goal.returns-in-Gave-clause-ahead
returns-in-Gave-clause-ahead g c =
    let S = lent c.args.setting in
    let s : PlainStrand = record { start = c.machine.inside.start; layer = c.machine.inside.layer; lower = reverse c.machine.inside.lower.items; path = c.machine.inside.path.items; top = c.machine.inside.top; below = reverse c.machine.inside.below.items; phase = c.machine.inside.phase; arguments = c.machine.inside.arguments.items; tally = c.machine.inside.tally } in
    let passes = c.passes_syncs-passes.result in
    let v : ℤ = to_z w64 (of_z w64 c.in-Gave.value) in
    let same : c.in-Gave.value ≡ v = search rules in
    let running : s.phase ≡ Running = ap (λ (z : PlainStrand). z.phase) c.machine.view_is ∙ c.requires.running in
    let may : MayPass passes s = subst (MayPass passes) (sym c.machine.view_is) c.passes_syncs-passes.ensures.passes in
    let come : ComesTo S passes s.top s.layer (Some v) c.run_over.new.top c.run_over.new.layer = subst (λ (x : ℤ). ComesTo S passes s.top s.layer (Some x) c.run_over.new.top c.run_over.new.layer) same c.in-Gave.ensures.ahead in
    let items : c.has_room.new.below.items ≡ c.machine.inside.below.items = search rules in
    let below : reverse c.has_room.new.below.items ≡ s.below = ap (λ (xs : List PlainActivation). reverse xs) items in
    let t = record (topped (Returning v) c.run_over.new.top c.run_over.new.layer s) { path = c.has_room.new.path.items; below = reverse c.has_room.new.below.items } in
    let ends : t ≡ topped (Returning v) c.run_over.new.top c.run_over.new.layer s = same_parts s c.run_over.new.layer _ _ _ _ _ _ _ _ c.has_room.ensures.path refl below refl in
    subst (λ (z : PlainStrand). IsAhead S z t) c.machine.view_is (come_ahead S passes (Some v) s c.run_over.new.top c.run_over.new.layer t running may come c.run_over.ensures.kinds ends)

pub returns-in-Stopped-clause-ahead : goal.returns-in-Stopped-clause-ahead
returns-in-Stopped-clause-ahead g c =
    let S = lent c.args.setting in
    let s : PlainStrand = record { start = c.machine.inside.start; layer = c.machine.inside.layer; lower = reverse c.machine.inside.lower.items; path = c.machine.inside.path.items; top = c.machine.inside.top; below = reverse c.machine.inside.below.items; phase = c.machine.inside.phase; arguments = c.machine.inside.arguments.items; tally = c.machine.inside.tally } in
    let passes = c.passes_syncs-passes.result in
    let more = c.in-Stopped.more in
    let running : s.phase ≡ Running = ap (λ (z : PlainStrand). z.phase) c.machine.view_is ∙ c.requires.running in
    let may : MayPass passes s = subst (MayPass passes) (sym c.machine.view_is) c.passes_syncs-passes.ensures.passes in
    let path : s.path ≡ c.has_room.new.path.items = sym c.has_room.ensures.path in
    let items : c.machine.inside.below.items ≡ c.has_room.new.below.items = search rules in
    let below : s.below ≡ reverse c.has_room.new.below.items = ap (λ (xs : List PlainActivation). reverse xs) items in
    let ys : List PlainActivation = c.run_over.new.above.items in
    let stacks : stacked more c.run_over.new.top ys c.run_over.new.layer s ≡ topped Running c.put_any.new.top c.run_over.new.layer (under c.put_any.new.path.items (reverse c.put_any.new.below.items) s) =
    c.put_any.ensures.stacked c.run_over.new.layer s path below in
    let t = topped s.phase c.put_any.new.top c.run_over.new.layer (under c.put_any.new.path.items (reverse c.put_any.new.below.items) s) in
    let ends : t ≡ stacked more c.run_over.new.top ys c.run_over.new.layer s = ap (λ (f : Phase). topped f c.put_any.new.top c.run_over.new.layer (under c.put_any.new.path.items (reverse c.put_any.new.below.items) s)) running ∙ sym stacks in
    subst (λ (z : PlainStrand). IsAhead S z t) c.machine.view_is (stop_ahead S passes s more c.run_over.new.top ys c.run_over.new.layer t running may c.in-Stopped.ensures.ahead c.run_over.ensures.kinds ends)

pub returns-then-not-has_room-clause-ahead : goal.returns-then-not-has_room-clause-ahead
returns-then-not-has_room-clause-ahead g c =
    let S = lent c.args.setting in
    let s : PlainStrand = record { start = c.machine.inside.start; layer = c.machine.inside.layer; lower = reverse c.machine.inside.lower.items; path = c.machine.inside.path.items; top = c.machine.inside.top; below = reverse c.machine.inside.below.items; phase = c.machine.inside.phase; arguments = c.machine.inside.arguments.items; tally = c.machine.inside.tally } in
    let items : c.has_room.new.below.items ≡ c.machine.inside.below.items = search rules in
    let below : reverse c.has_room.new.below.items ≡ s.below = ap (λ (xs : List PlainActivation). reverse xs) items in
    let t = record s { path = c.has_room.new.path.items; below = reverse c.has_room.new.below.items } in
    let ends : t ≡ s = same_parts s s.layer _ _ _ _ _ _ _ _ c.has_room.ensures.path refl below refl in
    subst (λ (z : PlainStrand). IsAhead S z t) c.machine.view_is (subst (λ (z : PlainStrand). IsAhead S s z) (sym ends) (ahead_here S s))

pub put_any-requires-clause-path_room : goal.put_any-requires-clause-path_room
put_any-requires-clause-path_room g c =
    let few : c.in-Stopped.more ≤ length c.run_over.new.above.items = c.in-Stopped.ensures.ahead.0 in
    let long : length c.run_over.new.above.items ≡ c.len-most.result = search rules in
    let yes : c.has_room.result ≡ true = search rules in
    let room : vec_len c.has_room.new.path + c.len-most.result ≤ vec_capacity c.has_room.new.path = c.has_room.ensures.path_room yes in
    omega (arith, few, long, room)

pub put_any-requires-clause-below_room : goal.put_any-requires-clause-below_room
put_any-requires-clause-below_room g c =
    let few : c.in-Stopped.more ≤ length c.run_over.new.above.items = c.in-Stopped.ensures.ahead.0 in
    let long : length c.run_over.new.above.items ≡ c.len-most.result = search rules in
    let yes : c.has_room.result ≡ true = search rules in
    let room : vec_len c.has_room.new.below + c.len-most.result ≤ vec_capacity c.has_room.new.below = c.has_room.ensures.below_room yes in
    omega (arith, few, long, room)
