use Rattle.std.proofs.Common.{rules, ◌≡◌, ◌∙◌, ◌∷◌, ◌+◌, ◌<◌, ◌≤◌, ◌^◌, false, All, List, ℕ, length, reverse, sym, ap, subst, vec_len, vec_capacity, arith}
use Rattle.positions.specs.Activations.{PlainActivation}
use Rattle.positions.specs.Code.{PlainLoop, loop_at}
use Rattle.positions.specs.Strands.{PlainStrand}
use Rattle.activations.specs.Given.{lent}
use Rattle.answered_loops.specs.Answered.{is_by_turns}
use Rattle.running_ahead.specs.Chains.{ChainsTo}
use Rattle.running_ahead.proofs.HalvesAtOnce.{half_leaves, half_goes}
use Rattle.running_ahead.proofs.called_halves.half_at_once.Goals as goal

pub returns-then-goes_on-clause-ahead : goal.returns-then-goes_on-clause-ahead
returns-then-goes_on-clause-ahead g c =
    let S = lent c.args.setting in
    let site = c.args.site in
    let h = c.args.share in
    let s : PlainStrand = record { start = c.machine.inside.start; layer = c.machine.inside.layer; lower = reverse c.machine.inside.lower.items; path = c.machine.inside.path.items; top = c.machine.inside.top; below = reverse c.machine.inside.below.items; phase = c.machine.inside.phase; arguments = c.machine.inside.arguments.items; tally = c.machine.inside.tally } in
    let a : PlainActivation = c.chain-came.new.top in
    let same : a ≡ s.top = c.chain-came.ensures.top in
    let procedure : c.procedure.result ≡ a.procedure = c.procedure.ensures.procedure ∙ ap (λ (x : PlainActivation). x.procedure) (sym same) in
    let grain : c.loop_code-code.result.grain ≡ (loop_at S.codes a.procedure site).grain = ap (λ (j : PlainLoop). j.grain) c.loop_code-code.ensures.found ∙ ap (λ (f : ℕ). (loop_at S.codes f site).grain) procedure in
    let top : c.args.machine.now.top ≡ a = ap (λ (z : PlainStrand). z.top) (sym c.machine.view_is) ∙ sym same in
    let halved : is_by_turns S.codes a site c.args.halvings h.count ≡ false = subst (λ (x : PlainActivation). is_by_turns S.codes x site c.args.halvings h.count ≡ false) top c.requires.halved in
    let chained : ChainsTo S site a h.first h.count c.chain-came.result s.layer (c.chain-came.new.nest.child ∷ c.chain-came.new.nest.above.items) c.chain-came.new.layer =
    subst (λ (x : PlainActivation). ChainsTo S site x h.first h.count c.chain-came.result s.layer (c.chain-came.new.nest.child ∷ c.chain-came.new.nest.above.items) c.chain-came.new.layer) (sym same) c.chain-came.ensures.came in
    let path : s.path ≡ c.reserve.new.self.items = search rules in
    let items : c.machine.inside.below.items ≡ c.reserve-else-is_err.new.self.items = search rules in
    let below : s.below ≡ reverse c.reserve-else-is_err.new.self.items = ap (λ (xs : List PlainActivation). reverse xs) items in
    half_leaves S s c.args.machine.now c.machine.view_is c.requires.running c.in-Some.ensures.clear a same c.reserve.new.self.items (reverse c.reserve-else-is_err.new.self.items) path below
    c.goes_on.new.top c.chain-came.new.layer c.goes_on.new.path.items (reverse c.goes_on.new.below.items) (c.if-goes_on.ensures.came S s.layer c.chain-came.new.layer grain halved chained)

pub returns-clause-ahead : goal.returns-clause-ahead
returns-clause-ahead g c =
    let S = lent c.args.setting in
    let site = c.args.site in
    let h = c.args.share in
    let s : PlainStrand = record { start = c.machine.inside.start; layer = c.machine.inside.layer; lower = reverse c.machine.inside.lower.items; path = c.machine.inside.path.items; top = c.machine.inside.top; below = reverse c.machine.inside.below.items; phase = c.machine.inside.phase; arguments = c.machine.inside.arguments.items; tally = c.machine.inside.tally } in
    let a : PlainActivation = c.chain-came.new.top in
    let same : a ≡ s.top = c.chain-came.ensures.top in
    let procedure : c.procedure.result ≡ a.procedure = c.procedure.ensures.procedure ∙ ap (λ (x : PlainActivation). x.procedure) (sym same) in
    let grain : c.loop_code-code.result.grain ≡ (loop_at S.codes a.procedure site).grain = ap (λ (j : PlainLoop). j.grain) c.loop_code-code.ensures.found ∙ ap (λ (f : ℕ). (loop_at S.codes f site).grain) procedure in
    let top : c.args.machine.now.top ≡ a = ap (λ (z : PlainStrand). z.top) (sym c.machine.view_is) ∙ sym same in
    let halved : is_by_turns S.codes a site c.args.halvings h.count ≡ false = subst (λ (x : PlainActivation). is_by_turns S.codes x site c.args.halvings h.count ≡ false) top c.requires.halved in
    let chained : ChainsTo S site a h.first h.count c.chain-came.result s.layer (c.chain-came.new.nest.child ∷ c.chain-came.new.nest.above.items) c.chain-came.new.layer =
    subst (λ (x : PlainActivation). ChainsTo S site x h.first h.count c.chain-came.result s.layer (c.chain-came.new.nest.child ∷ c.chain-came.new.nest.above.items) c.chain-came.new.layer) (sym same) c.chain-came.ensures.came in
    let path : s.path ≡ c.reserve.new.self.items = search rules in
    let items : c.machine.inside.below.items ≡ c.reserve-else-is_err.new.self.items = search rules in
    let below : s.below ≡ reverse c.reserve-else-is_err.new.self.items = ap (λ (xs : List PlainActivation). reverse xs) items in
    half_goes S s c.args.machine.now c.machine.view_is c.requires.running c.in-Some.ensures.clear a same c.reserve.new.self.items (reverse c.reserve-else-is_err.new.self.items) path below
    c.goes_on.new.top c.chain-came.new.layer c.goes_on.new.path.items (reverse c.goes_on.new.below.items) (c.if-goes_on.ensures.came S s.layer c.chain-came.new.layer grain halved chained)

pub goes_on-requires-clause-copies : goal.goes_on-requires-clause-copies
goes_on-requires-clause-copies g c =
    subst (λ (x : PlainActivation). All (λ v. v.items ≡ x.slots) c.in-Some-copies.copies.items) (sym c.chain-came.ensures.top) c.in-Some-copies.ensures.copies

pub goes_on-requires-clause-children : goal.goes_on-requires-clause-children
goes_on-requires-clause-children g c =
    let same : c.args.machine.now.top ≡ c.chain-came.new.top = ap (λ (z : PlainStrand). z.top) (sym c.machine.view_is) ∙ sym c.chain-came.ensures.top in
    subst (λ (x : PlainActivation). x.children + 1024 < 2 ^ 64) same c.in-Some.ensures.children

pub goes_on-requires-clause-path_room : goal.goes_on-requires-clause-path_room
goes_on-requires-clause-path_room g c =
    let many : length c.in-Some-copies.copies.items ≡ c.in-Some.levels = c.in-Some-copies.ensures.many in
    let above : length c.chain-came.new.nest.above.items ≡ c.len.result = search rules in
    let room : vec_len c.reserve.new.self + (c.in-Some.levels + 1 + c.len.result) ≤ vec_capacity c.reserve.new.self = search rules in
    omega (arith, many, above, room)

pub goes_on-requires-clause-below_room : goal.goes_on-requires-clause-below_room
goes_on-requires-clause-below_room g c =
    let many : length c.in-Some-copies.copies.items ≡ c.in-Some.levels = c.in-Some-copies.ensures.many in
    let above : length c.chain-came.new.nest.above.items ≡ c.len.result = search rules in
    let room : vec_len c.reserve-else-is_err.new.self + (c.in-Some.levels + 1 + c.len.result) ≤ vec_capacity c.reserve-else-is_err.new.self = search rules in
    omega (arith, many, above, room)
