use Rattle.std.proofs.Common.{rules, ◌≡◌, ◌∙◌, ◌-◌, ℕ, ℤ, Some, None, true, false, List, length, map, refl, sym, ap, subst, to_z, of_z, w64}
use Rattle.meaning.specs.Elision.{depth_limit}
use Rattle.linked_program.specs.declared.code.Expression.{Expression}
use Rattle.linked_program.specs.CodeView.{expression, memo_of, slots_of}
use Rattle.evaluation.specs.declared.slot.Slot.TheVariants.{Has}
use Rattle.positions.specs.declared.work.Position.{Position}
use Rattle.positions.specs.declared.work.Work.TheVariants.{Block}
use Rattle.positions.specs.Activations.{PlainActivation, at, bound, next_of, waiting}
use Rattle.positions.specs.Layers.{PlainLayer, entering}
use Rattle.activations.specs.Given.{lent}
use Rattle.own_statements.specs.Paths.{ComesTo}
use Rattle.own_statements.specs.Recursion.{IsCalled}
use Rattle.own_statements.proofs.Calls.{own_returns}
use Rattle.own_statements.proofs.runs.find_inside.Goals as goal

pub returns-in-Some-called-clause-came : goal.returns-in-Some-called-clause-came
returns-in-Some-called-clause-came g c held =
    let S = lent c.args.setting in
    let p : Position = c.args.site.position in
    let a : PlainActivation = c.args.top.now in
    let l : PlainLayer = c.args.layer.now in
    let i = c.args.site.statement.now in
    let into = c.in-Enter.into in
    let way = c.in-Enter.way in
    let f = c.in-Enter.callee in
    let es = c.in-Enter.arguments in
    let v = to_z w64 (of_z w64 c.in-Some-called.value) in
    let new = c.called.new.least in
    let size : length a.slots ≡ slots_of S.codes f = search rules in
    let memo : memo_of S.codes f ≡ false = search rules in
    let called : IsCalled c.args.setting.program.now f a.left a.left a.slots way f (map expression es.items) v new = search rules in
    let top : c.receive.new.self ≡ bound into (Has v) (waiting false into (Block (next_of p)) a) = search rules in
    let layer : c.enter.new.self ≡ entering f (depth_limit - new) l = search rules in
    subst (λ (z : PlainActivation). ComesTo S true (at (Block p) a) l None (at (Block (next_of p)) z) c.enter.new.self) (sym top)
    (subst (λ (z : PlainLayer). ComesTo S true (at (Block p) a) l None (at (Block (next_of p)) (bound into (Has v) (waiting false into (Block (next_of p)) a))) z) (sym layer)
    (own_returns c.args.setting.program.now S.tables S.records p a l i into way f es v new called size memo c.in-Enter.is c.requires.found))
