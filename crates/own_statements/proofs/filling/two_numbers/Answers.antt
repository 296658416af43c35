use Rattle.std.proofs.Common.{rules, ◌≡◌, ◌∙◌, ◌<◌, ℤ, Some, [], ◌∷◌, length, map, slice_get, refl, ap, to_z, of_z, w64}
use Rattle.std.proofs.lemmas.Option.{slice_get_read}
use Rattle.evaluation.specs.Values.{pure}
use Rattle.own_statements.proofs.Placed.{two_values}
use Rattle.own_statements.proofs.filling.two_numbers.Goals as goal

pub returns-in-Some-plain_number : goal.returns-in-Some-plain_number
returns-in-Some-plain_number c =
    let es = c.args.arguments.now in
    let e = c.index-arguments-0.result in
    let f = c.index-arguments-1.result in
    let v = c.in-Some.first in
    let w = c.in-Some-plain_number.second in
    let two : length es ≡ 2 = search rules in
    let some : 0 < length es = search rules in
    let more : 1 < length es = search rules in
    let first : slice_get es 0 ≡ Some e = slice_get_read es (length es) 0 e refl some c.index-arguments-0.is in
    let second : slice_get es 1 ≡ Some f = slice_get_read es (length es) 1 f refl more c.index-arguments-1.is in
    let is_first : v ≡ to_z w64 (of_z w64 v) = search rules in
    let is_second : w ≡ to_z w64 (of_z w64 w) = search rules in
    record {
      values = λ all. two_values all c.args.slots.now es e f v w two first second (c.in-Some.ensures.value all) (c.in-Some-plain_number.ensures.value all)
          ∙ ap (λ (x : ℤ). pure (x ∷ w ∷ [])) is_first ∙ ap (λ (x : ℤ). pure (to_z w64 (of_z w64 v) ∷ x ∷ [])) is_second;
    }
