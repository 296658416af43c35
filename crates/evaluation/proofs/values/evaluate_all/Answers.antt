use Rattle.std.proofs.Common.{ℤ, List, ◌+◌, ◌++◌, ◌∷◌, [], ◌∙◌, ap, map, drop, refl}
use Rattle.linked_program.specs.CodeView.{expression as plain}
use Rattle.linked_program.specs.declared.code.Expression.{Expression}
use Rattle.evaluation.specs.Values.{NumberedOut, value_at, values_at, mapped}
use Rattle.evaluation.proofs.Sequences.{before}
use Rattle.evaluation.proofs.Stopped.{left_of, front_more, rest_stops}
use Rattle.evaluation.proofs.values.evaluate_all.Goals as goal

pub returns-then-is_err : goal.returns-then-is_err
returns-then-is_err c = record {
  stops = front_more c.args.notes.now c.loop-expression.notes c.loop-expression.invariant.front _ c.evaluated.new.notes c.in-Ok.ensures.stops.1;
}

pub returns-in-Err : goal.returns-in-Err
returns-in-Err c =
    let es = c.args.expressions.now in
    let i = c.loop-expression.expression-index in
    let x = c.expression-item.result in
    let notes = c.loop-expression.notes in
    let numbers = c.loop-expression.numbers.items in
    let at = value_at c.args.tables.now.tables c.args.slots.now in
    let all = values_at c.args.tables.now.tables c.args.slots.now in
    let left = ap (λ (l : List Expression). all (map plain l)) (left_of es i x c.loop-expression-test.true c.expression-item.is) in
    record {
      stops = rest_stops c.args.notes.now notes c.loop-expression.invariant.front {D = Unit {0}} (λ u. []) (all (map plain es)) (before numbers)
          (at (plain x)) (λ v. mapped (λ vs. v ∷ vs) (all (map plain (drop (i + 1) es)))) c.evaluated.new.notes c.in-Err.stop (λ k. refl)
          (c.loop-expression.invariant.answer ∙ ap (λ (o : NumberedOut (List ℤ)). before numbers o.answer) left)
          (c.loop-expression.invariant.notes ∙ ap (λ (o : NumberedOut (List ℤ)). notes ++ o.notes) left) c.in-Err.ensures.stops;
    }
