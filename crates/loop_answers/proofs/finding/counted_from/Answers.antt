use Rattle.std.proofs.Common.{rules, ◌≡◌, ℤ, List, [], ◌∷◌, map, length, Some, sym, ap, ◌∙◌}
use Rattle.std.proofs.lemmas.List.{length-map}
use Rattle.linked_program.specs.Linked.{Linked}
use Rattle.linked_program.specs.CodeView.{expression as plain}
use Rattle.evaluation.specs.Values.{pure}
use Rattle.loop_answers.specs.Batches.{CountsAt}
use Rattle.loop_answers.proofs.Counted.{counted_only}
use Rattle.loop_answers.proofs.finding.counted_from.Goals as goal

pub returns-then-code-eq1-clause-known : goal.returns-then-code-eq1-clause-known
returns-then-code-eq1-clause-known g c =
    let slots = c.args.machine.now.top.slots in
    let x = c.args.code.variable in
    let es : List Linked = map plain c.args.code.arguments.now in
    let counts : CountsAt slots x es c.in_ok-place.place = search rules in
    let one : length es ≡ 1 = length-map c.args.code.arguments.now plain ∙ c.if-code-eq1.true in
    let numbers : c.push.new.self.items ≡ c.args.number ∷ [] = search rules in
    record {
      of = c.args.number;
      values = counted_only c.args.tables.now.tables slots x c.args.number counts.has_slot c.in_ok-place.place es one counts.counts ∙ ap pure (sym numbers);
    }
