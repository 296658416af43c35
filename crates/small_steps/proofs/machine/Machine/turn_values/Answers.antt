use Rattle.std.proofs.Common.{rules, ◌≡◌, ◌+ℤ◌, pos, List, [], ◌∷◌, map, subst}
use Rattle.linked_program.specs.CodeView.{expression as plain}
use Rattle.evaluation.specs.declared.slot.Slot.{Slot}
use Rattle.positions.specs.Strands.{PlainStrand}
use Rattle.small_steps.specs.Ends.{TakesNumber}
use Rattle.small_steps.proofs.Turns.{number_taken}
use Rattle.small_steps.proofs.machine.Machine.turn_values.Goals as goal

pub returns-then-takes_number-clause-evaluated : goal.returns-then-takes_number-clause-evaluated
returns-then-takes_number-clause-evaluated g c =
    let inside : TakesNumber (map plain c.args.code.arguments.now) c.args.code.variable c.self.inside.top.slots =
    subst (λ (xs : List Slot). TakesNumber (map plain c.args.code.arguments.now) c.args.code.variable xs) c.slots.ensures.slots (c.takes_number.ensures.takes c.if-takes_number.true) in
    let takes : TakesNumber (map plain c.args.code.arguments.now) c.args.code.variable c.args.self.now.top.slots =
    subst (λ (s : PlainStrand). TakesNumber (map plain c.args.code.arguments.now) c.args.code.variable s.top.slots) c.self.view_is inside in
    let number : (c.args.turns.site.low +ℤ pos c.args.turns.share.first) ∷ [] ≡ c.push.new.self.items = search rules in
    number_taken c.args.tables.now.tables (map plain c.args.code.arguments.now) c.args.code.variable c.args.self.now.top.slots
    (c.args.turns.site.low +ℤ pos c.args.turns.share.first) c.push.new.self.items c.args.self.now takes number
