use Rattle.std.proofs.Common.{rules, if◌then◌else◌, ◌≡◌, ◌∷◌, [], List, length, map, slice_get, sym, ap}
use Rattle.linked_program.specs.declared.code.Expression.{Expression}
use Rattle.linked_program.specs.CodeView.{expression}
use Rattle.evaluation.specs.Values.{values_at}
use Rattle.positions.specs.declared.phase.Phase.TheVariants.{Running}
use Rattle.positions.specs.declared.work.Work.TheVariants.{Block}
use Rattle.positions.specs.Activations.{at}
use Rattle.positions.specs.Advance.{evaluated, combining}
use Rattle.activations.specs.Given.{lent}
use Rattle.own_statements.specs.declared.statements.Did.TheVariants.{Nothing, Next}
use Rattle.own_statements.specs.Paths.{topped}
use Rattle.linked_program.proofs.Ones.{one_of, two_of}
use Rattle.own_statements.proofs.Paths.{does_as}
use Rattle.own_statements.proofs.combining.combine_some.Goals as goal

pub returns-then-takes-clause-done : goal.returns-then-takes-clause-done
returns-then-takes-clause-done g c =
    let S = lent c.args.setting in
    let n = c.args.here.statement in
    let p = c.args.here.position in
    let r = c.args.reducer in
    let a = c.args.top.now in
    let xs = c.args.expressions.now in
    let x = c.index-expressions-0.result in
    let count : length xs ≡ 1 = search rules in
    let is : xs ≡ x ∷ [] = one_of xs x count c.index-expressions-0.is in
    does_as S c.args.here.passes_syncs p (λ kit. evaluated n (values_at S.tables a.slots (map expression (x ∷ []))) (combining (slice_get S.kinds r) n p r)) (λ kit. evaluated n (values_at S.tables a.slots (map expression xs)) (combining (slice_get S.kinds r) n p r))
    a c.args.layer.now (if c.combine_one.result then Next else Nothing) c.combine_one.new.top c.combine_one.new.layer
    (λ kit s. ap (λ (es : List Expression). evaluated n (values_at S.tables a.slots (map expression es)) (combining (slice_get S.kinds r) n p r) (topped Running (at (Block p) a) c.args.layer.now s)) (sym is)) c.combine_one.ensures.done

pub returns-then-takes-2-clause-done : goal.returns-then-takes-2-clause-done
returns-then-takes-2-clause-done g c =
    let S = lent c.args.setting in
    let n = c.args.here.statement in
    let p = c.args.here.position in
    let r = c.args.reducer in
    let a = c.args.top.now in
    let xs = c.args.expressions.now in
    let x = c.index-expressions-0-then-takes-2.result in
    let y = c.index-expressions-1.result in
    let count : length xs ≡ 2 = search rules in
    let is : xs ≡ x ∷ y ∷ [] = two_of xs x y count c.index-expressions-0-then-takes-2.is c.index-expressions-1.is in
    does_as S c.args.here.passes_syncs p (λ kit. evaluated n (values_at S.tables a.slots (map expression (x ∷ y ∷ []))) (combining (slice_get S.kinds r) n p r)) (λ kit. evaluated n (values_at S.tables a.slots (map expression xs)) (combining (slice_get S.kinds r) n p r))
    a c.args.layer.now (if c.combine_two.result then Next else Nothing) c.combine_two.new.top c.combine_two.new.layer
    (λ kit s. ap (λ (es : List Expression). evaluated n (values_at S.tables a.slots (map expression es)) (combining (slice_get S.kinds r) n p r) (topped Running (at (Block p) a) c.args.layer.now s)) (sym is)) c.combine_two.ensures.done
