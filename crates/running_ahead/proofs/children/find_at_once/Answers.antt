use Rattle.std.proofs.Common.{rules, ◌≡◌, ◌∙◌, ◌-◌, Some, false, [], length, map, reverse, refl, sym, ap, subst}
use Rattle.meaning.specs.Elision.{depth_limit}
use Rattle.linked_program.specs.CodeView.{expression, slots_of}
use Rattle.evaluation.specs.declared.slot.Slot.TheVariants.{Has}
use Rattle.evaluation.specs.Values.{entry_at}
use Rattle.positions.specs.declared.phase.Phase.TheVariants.{Running}
use Rattle.positions.specs.declared.work.Work.TheVariants.{Block}
use Rattle.positions.specs.Activations.{bound, waiting}
use Rattle.positions.specs.Layers.{PlainLayer, entering}
use Rattle.positions.specs.Strands.{PlainStrand}
use Rattle.positions.specs.Advance.{evaluated}
use Rattle.activations.specs.Given.{lent}
use Rattle.small_steps.specs.Steps.{nested_plain}
use Rattle.running_ahead.specs.Ahead.{GoesAhead}
use Rattle.own_statements.specs.Paths.{HasRoomAbove}
use Rattle.own_statements.specs.Recursion.{IsCalled}
use Rattle.running_ahead.proofs.Paths.{same_parts}
use Rattle.running_ahead.proofs.OwnAhead.{found_goes}
use Rattle.running_ahead.proofs.children.find_at_once.Goals as goal

pub returns-in-Some-called-clause-came : goal.returns-in-Some-called-clause-came
returns-in-Some-called-clause-came g c held n e =
    let S = lent c.args.setting in
    let s : PlainStrand = record { start = c.machine.inside.start; layer = c.machine.inside.layer; lower = reverse c.machine.inside.lower.items; path = c.machine.inside.path.items; top = c.machine.inside.top; below = reverse c.machine.inside.below.items; phase = c.machine.inside.phase; arguments = c.machine.inside.arguments.items; tally = c.machine.inside.tally } in
    let callee = c.args.callee in
    let w = Block callee.next in
    let f = callee.procedure in
    let es = map expression callee.arguments.now in
    let v = c.in-Some-called.value in
    let phase : s.phase ≡ Running = ap (λ (z : PlainStrand). z.phase) c.machine.view_is ∙ c.requires.running in
    let room : HasRoomAbove s = subst HasRoomAbove (sym c.machine.view_is) (c.if-not-has_room_above.ensures.room refl) in
    let size : length s.top.slots ≡ slots_of S.codes f = search rules in
    let layer : c.enter.new.self ≡ entering f (depth_limit - c.called.new.least) s.layer = search rules in
    let top : c.receive.new.self ≡ bound callee.into (Has v) (waiting false callee.into w s.top) = search rules in
    let called : IsCalled c.args.setting.program.now f s.top.left s.top.left s.top.slots callee.way f es v c.called.new.least = search rules in
    let goes = λ (t z : PlainStrand). GoesAhead S (evaluated n (entry_at S.tables z.top.slots (slots_of S.codes f) es) (nested_plain n callee.way callee.into w f)) z t in
    let ends = same_parts s c.enter.new.self _ _ _ _ _ _ _ _ refl top refl phase in
    let lands : record s { layer = c.enter.new.self; top = c.receive.new.self } ≡ record s { layer = entering f (depth_limit - c.called.new.least) s.layer; top = bound callee.into (Has v) (waiting false callee.into w s.top); phase = Running } =
    ends ∙ ap (λ (l : PlainLayer). record s { layer = l; top = bound callee.into (Has v) (waiting false callee.into w s.top); phase = Running }) layer in
    subst (goes _) c.machine.view_is
    (subst (λ (t : PlainStrand). goes t s) (sym lands) (found_goes c.args.setting.program.now S.tables S.records s n callee.way callee.into w f c.called.new.least es v called size c.requires.plain room)) e
