use Rattle.std.proofs.Common.{◌∷◌, ◌++◌, [], length, ap, ◌∙◌}
use Rattle.strand_lines.proofs.Cuts.{total_after, cut_after}
use Rattle.strand_lines.proofs.place_list.PlaceList.push.Goals as goal

pub invariant_of-self-2 : goal.invariant_of-self-2
invariant_of-self-2 c =
    total_after c.self.inside.lengths.items c.self.inside.numbers.items c.args.place.now c.push_reserved.new.self.items c.extend_from_slice.new.self.items c.self.invariant
    (c.push_reserved.ensures.items ∙ ap (λ ls. ls ++ length c.args.place.now ∷ []) c.reserve.ensures.items) c.in_ok-extend_from_slice.ensures.items

pub returns-clause-pushed : goal.returns-clause-pushed
returns-clause-pushed c =
    cut_after c.self.inside.lengths.items c.self.inside.numbers.items c.args.place.now c.push_reserved.new.self.items c.extend_from_slice.new.self.items c.self.invariant
    (c.push_reserved.ensures.items ∙ ap (λ ls. ls ++ length c.args.place.now ∷ []) c.reserve.ensures.items) c.in_ok-extend_from_slice.ensures.items
    ∙ ap (λ ps. ps ++ c.args.place.now ∷ []) c.self.view_is
