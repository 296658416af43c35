use Rattle.std.proofs.Common.{rules, ◌≡◌, ◌+◌, ◌<◌, ◌≤◌, ◌++◌, ◌∷◌, [], vec_len, vec_capacity, length, subst, sym}
use Rattle.list_pieces.specs.Pieces.{all_in}
use Rattle.list_pieces.proofs.Strung.{behind_several, counted_several}
use Rattle.list_pieces.proofs.pieces.Pieces.append_lists.Goals as goal

pub returns-clause-items : goal.returns-clause-items
returns-clause-items g c =
    let left = c.args.self.now in
    let right = c.args.right.now in
    let lists : c.append.new.self.items ≡ ((left.earlier.items ++ left.last ∷ []) ++ right.first ∷ []) ++ right.earlier.items = search rules in
    let last : c.replace-last-2.new.dest ≡ right.last = search rules in
    subst (λ v. left.first.items ++ (all_in c.append.new.self.items ++ v.items)
    ≡ (left.first.items ++ (all_in left.earlier.items ++ left.last.items)) ++ (right.first.items ++ (all_in right.earlier.items ++ right.last.items))) (sym last)
    (behind_several left.first.items left.earlier.items right.earlier.items c.append.new.self.items left.last right.first right.last.items lists)

pub returns-clause-roomy : goal.returns-clause-roomy
returns-clause-roomy g c =
    let left = c.args.self.now in
    let right = c.args.right.now in
    let lists : c.append.new.self.items ≡ ((left.earlier.items ++ left.last ∷ []) ++ right.first ∷ []) ++ right.earlier.items = search rules in
    let (count, within, given, roomy) = c.requires.roomy in
    let (right_count, right_within, right_given, right_roomy) = c.requires.right_roomy in
    let (lists_fit, fits) = c.requires.ready in (
      counted_several left.earlier.items right.earlier.items c.append.new.self.items left.last right.first
          (length left.first.items) left.count c.len.result right.count lists count (search rules) right_count,
      search rules,
      search rules,
      λ some. search rules,
    )
