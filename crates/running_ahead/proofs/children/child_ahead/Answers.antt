use Rattle.std.proofs.Common.{rules, ◌≡◌, ◌≤◌, arith, length, vec_len, vec_capacity, ◌∙◌, ◌+◌, ◌-◌, ◌==◌, ℕ, suc, Some, true, false, List, [], ◌∷◌, ◌++◌, map, reverse, refl, sym, ap, subst}
use Rattle.meaning.specs.Elision.{depth_limit}
use Rattle.linked_program.specs.CodeView.{expression, slots_of}
use Rattle.evaluation.specs.declared.slot.Slot.TheVariants.{Has}
use Rattle.evaluation.specs.Values.{entry_at}
use Rattle.positions.specs.declared.phase.Phase.{Phase}
use Rattle.positions.specs.declared.phase.Phase.TheVariants.{Running}
use Rattle.positions.specs.declared.work.Work.TheVariants.{Block}
use Rattle.positions.specs.Activations.{PlainActivation, bound, waiting, made, first_of}
use Rattle.positions.specs.Layers.{PlainLayer, noting, entering}
use Rattle.positions.specs.Strands.{PlainStrand, is_entry}
use Rattle.positions.specs.Advance.{evaluated, child_of, owns_top, noted}
use Rattle.activations.specs.Given.{lent}
use Rattle.own_statements.specs.Fills.{Fills}
use Rattle.small_steps.specs.Steps.{nested_plain}
use Rattle.running_ahead.specs.Ahead.{GoesAhead, is_spawned}
use Rattle.own_statements.specs.Paths.{ComesTo, HasRoomAbove, MayPass, StopsBy, stacked, topped}
use Rattle.running_ahead.specs.Chains.{under}
use Rattle.running_ahead.proofs.OwnAhead.{room_over}
use Rattle.running_ahead.proofs.Iterations.{stacked_same}
use Rattle.running_ahead.proofs.Paths.{same_parts, with_child, layer_then, child_stays, child_returns, enter_ahead}
use Rattle.running_ahead.proofs.children.child_ahead.Goals as goal

pub returns-in-Gave-clause-came : goal.returns-in-Gave-clause-came
returns-in-Gave-clause-came g c n e =
    let S = lent c.args.setting in
    let s : PlainStrand = record { start = c.machine.inside.start; layer = c.machine.inside.layer; lower = reverse c.machine.inside.lower.items; path = c.machine.inside.path.items; top = c.machine.inside.top; below = reverse c.machine.inside.below.items; phase = c.machine.inside.phase; arguments = c.machine.inside.arguments.items; tally = c.machine.inside.tally } in
    let way = c.args.callee.way in
    let into = c.args.callee.into in
    let w = Block c.args.callee.next in
    let f = c.args.callee.procedure in
    let slots = c.fills.new.child.slots in
    let o = entry_at S.tables s.top.slots (slots_of S.codes f) (map expression c.args.callee.arguments.now) in
    let x : PlainStrand = record s { layer = c.fills.new.layer } in
    let is_filled : c.fills.result ≡ true = search rules in
    let filled : Fills o slots s.layer c.fills.new.layer = subst (λ (k : ℕ). Fills (entry_at S.tables s.top.slots k (map expression c.args.callee.arguments.now)) slots s.layer c.fills.new.layer) c.requires.size (c.fills.ensures.filled is_filled) in
    let layer : c.fills.new.layer ≡ noting o.notes s.layer = filled.1 in
    let is : x ≡ noted o.notes s = ap (λ (l : PlainLayer). record s { layer = l }) layer in
    let goes = λ (t z : PlainStrand). GoesAhead S (evaluated n (entry_at S.tables z.top.slots (slots_of S.codes f) (map expression c.args.callee.arguments.now)) (nested_plain n way into w f)) z t in
    let phase : s.phase ≡ Running = ap (λ (z : PlainStrand). z.phase) c.machine.view_is ∙ c.requires.running in
    let deep : (x.top.left == 0) ≡ false = search rules in
    let count : c.left-left.result ≡ x.top.left = search rules in
    let room : HasRoomAbove s = subst HasRoomAbove (sym c.machine.view_is) (c.if-not-has_room_above.ensures.room refl) in
    let child = with_child S way into w f slots x in
    let entry : is_entry child ≡ false = room.entry (s.top.children + 1) [] in
    let may : MayPass true child = λ _. (entry, room_over (s.top.children + 1) s room child.top child.layer child.phase child.below) in
    let v = c.in-Gave.value in
    let own : owns_top child ≡ false = room.own (s.top.children + 1) [] in
    let come : ComesTo S true (child_of f slots x) (layer_then S way into w f slots x) (Some v) c.call_over.new.nest.child c.call_over.new.layer =
    subst (λ (k : ℕ). ComesTo S true (made f slots (Block (first_of 0)) (k - 1)) (entering f (depth_limit - (k - 1)) c.fills.new.layer) (Some v) c.call_over.new.nest.child c.call_over.new.layer) count c.in-Gave.ensures.ahead in
    let path : c.reserve.new.self.items ≡ s.path = search rules in
    let top : c.receive.new.self ≡ bound into (Has v) (waiting (is_spawned way) into w s.top) = search rules in
    let items : c.reserve-else-is_err.new.self.items ≡ c.machine.inside.below.items = search rules in
    let below : reverse c.reserve-else-is_err.new.self.items ≡ s.below = ap (λ (xs : List PlainActivation). reverse xs) items in
    subst (goes _) c.machine.view_is (enter_ahead S n o way into w f slots s x _ filled.0 is
    (child_returns S way into w f slots x n deep c.requires.plain c.call_over.new.nest.child c.call_over.new.layer c.call_over.ensures.kinds v entry own _ may come (same_parts s c.call_over.new.layer _ _ _ _ _ _ _ _ path top below phase))) e

pub returns-in-Stopped-clause-came : goal.returns-in-Stopped-clause-came
returns-in-Stopped-clause-came g c n e =
    let S = lent c.args.setting in
    let s : PlainStrand = record { start = c.machine.inside.start; layer = c.machine.inside.layer; lower = reverse c.machine.inside.lower.items; path = c.machine.inside.path.items; top = c.machine.inside.top; below = reverse c.machine.inside.below.items; phase = c.machine.inside.phase; arguments = c.machine.inside.arguments.items; tally = c.machine.inside.tally } in
    let way = c.args.callee.way in
    let into = c.args.callee.into in
    let w = Block c.args.callee.next in
    let f = c.args.callee.procedure in
    let slots = c.fills.new.child.slots in
    let o = entry_at S.tables s.top.slots (slots_of S.codes f) (map expression c.args.callee.arguments.now) in
    let x : PlainStrand = record s { layer = c.fills.new.layer } in
    let is_filled : c.fills.result ≡ true = search rules in
    let filled : Fills o slots s.layer c.fills.new.layer = subst (λ (k : ℕ). Fills (entry_at S.tables s.top.slots k (map expression c.args.callee.arguments.now)) slots s.layer c.fills.new.layer) c.requires.size (c.fills.ensures.filled is_filled) in
    let layer : c.fills.new.layer ≡ noting o.notes s.layer = filled.1 in
    let is : x ≡ noted o.notes s = ap (λ (l : PlainLayer). record s { layer = l }) layer in
    let goes = λ (t z : PlainStrand). GoesAhead S (evaluated n (entry_at S.tables z.top.slots (slots_of S.codes f) (map expression c.args.callee.arguments.now)) (nested_plain n way into w f)) z t in
    let phase : s.phase ≡ Running = ap (λ (z : PlainStrand). z.phase) c.machine.view_is ∙ c.requires.running in
    let deep : (x.top.left == 0) ≡ false = search rules in
    let count : c.left-left.result ≡ x.top.left = search rules in
    let room : HasRoomAbove s = subst HasRoomAbove (sym c.machine.view_is) (c.if-not-has_room_above.ensures.room refl) in
    let child = with_child S way into w f slots x in
    let entry : is_entry child ≡ false = room.entry (s.top.children + 1) [] in
    let may : MayPass true child = λ _. (entry, room_over (s.top.children + 1) s room child.top child.layer child.phase child.below) in
    let more = c.in-Stopped.more in
    let ys : List PlainActivation = c.call_over.new.nest.above.items in
    let stop : StopsBy S true (child_of f slots x) (layer_then S way into w f slots x) more c.call_over.new.nest.child ys c.call_over.new.layer =
    subst (λ (k : ℕ). StopsBy S true (made f slots (Block (first_of 0)) (k - 1)) (entering f (depth_limit - (k - 1)) c.fills.new.layer) more c.call_over.new.nest.child ys c.call_over.new.layer) count c.in-Stopped.ensures.ahead in
    let path : s.path ≡ c.reserve.new.self.items = search rules in
    let items : c.machine.inside.below.items ≡ c.reserve-else-is_err.new.self.items = search rules in
    let below : s.below ≡ reverse c.reserve-else-is_err.new.self.items = ap (λ (xs : List PlainActivation). reverse xs) items in
    let top : c.wait_at.new.self ≡ waiting (is_spawned way) into w s.top = search rules in
    let stacks : stacked (suc more) c.wait_at.new.self (c.call_over.new.nest.child ∷ ys) c.call_over.new.layer s ≡ topped Running c.put_on_top.new.top c.call_over.new.layer (under c.put_on_top.new.path.items (reverse c.put_on_top.new.below.items) s) =
    c.put_on_top.ensures.stacked c.call_over.new.layer s path below in
    let lands : topped Running c.put_on_top.new.top c.call_over.new.layer (under c.put_on_top.new.path.items (reverse c.put_on_top.new.below.items) s) ≡ stacked more c.call_over.new.nest.child ys c.call_over.new.layer child =
    sym stacks ∙ ap (λ (b : PlainActivation). stacked (suc more) b (c.call_over.new.nest.child ∷ ys) c.call_over.new.layer s) top
    ∙ stacked_same more c.call_over.new.nest.child ys c.call_over.new.layer (record s { path = s.path ++ (s.top.children + 1) ∷ []; below = waiting (is_spawned way) into w s.top ∷ s.below }) child.top child.layer child.phase in
    let ends = ap (λ (z : Phase). record (topped Running c.put_on_top.new.top c.call_over.new.layer (under c.put_on_top.new.path.items (reverse c.put_on_top.new.below.items) s)) { phase = z }) phase in
    subst (goes _) c.machine.view_is (enter_ahead S n o way into w f slots s x _ filled.0 is
    (child_stays S way into w f slots x n deep c.requires.plain c.call_over.new.nest.child c.call_over.new.layer c.call_over.ensures.kinds more ys _ may stop (ends ∙ lands))) e

pub put_on_top-requires-clause-path_room : goal.put_on_top-requires-clause-path_room
put_on_top-requires-clause-path_room g c =
    let few : c.in-Stopped.more ≤ length c.call_over.new.nest.above.items = c.in-Stopped.ensures.ahead.0 in
    let long : length c.call_over.new.nest.above.items ≡ c.len-most.result = search rules in
    let room : vec_len c.reserve.new.self + (c.len-most.result + 1) ≤ vec_capacity c.reserve.new.self = search rules in
    omega (arith, few, long, room)

pub put_on_top-requires-clause-below_room : goal.put_on_top-requires-clause-below_room
put_on_top-requires-clause-below_room g c =
    let few : c.in-Stopped.more ≤ length c.call_over.new.nest.above.items = c.in-Stopped.ensures.ahead.0 in
    let long : length c.call_over.new.nest.above.items ≡ c.len-most.result = search rules in
    let room : vec_len c.reserve-else-is_err.new.self + (c.len-most.result + 1) ≤ vec_capacity c.reserve-else-is_err.new.self = search rules in
    omega (arith, few, long, room)
