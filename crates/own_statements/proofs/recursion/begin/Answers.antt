use Rattle.std.proofs.Common.{rules, ◌≡◌, ◌∙◌, ◌<◌, ◌≤◌, ◌+◌, ℤ, List, [], Some, length, map, take, slice_get, refl, sym, ap, subst, to_z, of_z, w64}
use Rattle.std.proofs.lemmas.List.{take_all}
use Rattle.std.proofs.lemmas.Option.{slice_get_read}
use Rattle.linked_program.specs.declared.code.Expression.{Expression}
use Rattle.linked_program.specs.CodeView.{expression}
use Rattle.evaluation.specs.Values.{pure}
use Rattle.own_statements.specs.Recursion.{IsBegun}
use Rattle.own_statements.proofs.OwnCalls.{begun_more}
use Rattle.own_statements.proofs.recursion.begin.Goals as goal

pub loop-place-init : goal.loop-place-init
loop-place-init c = record { begun = record { numbers = []; values = tt; laid = refl } }

pub loop-place-preserved : goal.loop-place-preserved
loop-place-preserved c =
    let xs = c.args.arguments.now in
    let slots = c.args.slots.now in
    let place = c.loop-place.place in
    let e = c.index-arguments-place.result in
    let there : place < length xs = search rules in
    let there_is : slice_get xs place ≡ Some e = slice_get_read xs (length xs) place e refl there c.index-arguments-place.is in
    let v = to_z w64 (of_z w64 c.in-Some.value) in
    let same : c.in-Some.value ≡ v = search rules in
    record {
      begun = begun_more slots xs place e v c.args.window.now c.loop-place.window c.loop-place.invariant.begun there_is
          (λ all. c.in-Some.ensures.value all ∙ ap (λ (u : ℤ). pure u) same);
    }

pub returns : goal.returns
returns c =
    let xs = c.args.arguments.now in
    let enough : length xs ≤ c.loop-place.place = search rules in
    record {
      begun = λ held. subst (λ (ys : List Expression). IsBegun c.args.slots.now (map expression ys) c.args.window.now c.loop-place.window) (take_all c.loop-place.place xs enough) c.loop-place.invariant.begun;
    }
