use Rattle.std.proofs.Common.{Ok, Err, sym, subst}
use Rattle.linked_program.specs.CodeView.{expression as plain}
use Rattle.linked_program.specs.declared.code.Expression.{Expression}
use Rattle.evaluation.specs.Values.{value_at, ◌>>=◌, applied}
use Rattle.evaluation.specs.Ends.{Stops}
use Rattle.evaluation.proofs.Ending.{second_ends, first_stops}
use Rattle.evaluation.proofs.values.+evaluate.Goals as goal

pub evaluate-returns-in-Err-operand-2 : goal.evaluate-returns-in-Err-operand-2
evaluate-returns-in-Err-operand-2 t c =
    let at = λ (e : Expression). value_at c.args.tables.now.tables c.args.slots.now (plain e) in
    let old = c.args.notes.now in
    let mid = c.operand.new.notes in
    let new = c.operand-in-Ok-operand.new.notes in
    let x = c.in-Ok-operand.left in
    let s = c.in-Err-operand-2.stop in
    let op = c.in-Binary.operator in
    let first : Stops (λ v. v) (at c.in-Binary.left.value) old mid (Ok x) =
    subst (λ e. Stops (λ v. v) (at e) old mid (Ok x)) c.deref-in-Binary.ensures c.in-Ok-operand.ensures.stops in
    let second : Stops (λ v. v) (at c.in-Binary.right.value) mid new (Err s) =
    subst (λ e. Stops (λ v. v) (at e) mid new (Err s)) c.deref-in-Ok-operand.ensures c.in-Err-operand-2.ensures.stops in
    record {
      stops = subst (λ e. Stops (λ v. v) (at e) old new (Err s)) (sym c.in-Binary.is)
          (second_ends (λ v. v) (at c.in-Binary.left.value) (λ w. at c.in-Binary.right.value >>= (λ y. applied op w y)) old mid new x (Err s) first.0 first.1
          (first_stops (λ v. v) (λ v. v) (at c.in-Binary.right.value) (λ y. applied op x y) mid new s second));
    }
