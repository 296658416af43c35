use Rattle.std.proofs.Common.{◌≡◌, ◌+◌, ◌∷◌, ◌++◌, [], drop, map, refl, ap, subst, ◌∙◌, arith}
use Rattle.meaning.specs.Tree.{Tree, procedure, reducer}
use Rattle.meaning.specs.TreeView.{decl, proc, red}
use Rattle.meaning.specs.Edits.{revised}
use Rattle.linked_program.specs.Checked.{numbers_in, nothing}
use Rattle.single_rules.proofs.Lists.{item_here}
use Rattle.spawn_checker.proofs.NewRevisions.{Going, new_one}
use Rattle.spawn_checker.proofs.revisions.first_revisions.Goals as goal
use Rattle.spawn_checker.proofs.revisions.first_revisions.Goals.{in-Procedure+in_ok-put_revision, in_default}

pub loop-declaration-preserved : goal.loop-declaration-preserved
loop-declaration-preserved c =
    let ds = c.args.declarations.now in
    let i = c.loop-declaration.declaration-index in
    let rest = drop (i + 1) ds in
    let ns = numbers_in c.loop-declaration.revisions.items in
    let next = c.loop-declaration.counter in
    let all = revised nothing (map decl ds) 0 in
    let here = item_here ds i c.declaration-item.result c.loop-declaration-test.true c.declaration-item.is in
    elim c.match-declaration.branch [
      | in-Procedure+in_ok-put_revision w ↦
          let p = proc w.in-Procedure.procedure in
          let front : map decl (drop i ds) ≡ procedure p ∷ map decl rest = ap (map decl) (here ∙ ap (λ y. y ∷ rest) w.in-Procedure.is) in
          let put : numbers_in c.match-declaration.revisions.items ≡ ns ++ (p.called, next) ∷ [] = rw w.revisions-is (rw w.as_str.ensures.value at w.in_ok-put_revision.ensures.put) in
          let after = new_one nothing all ns (numbers_in c.match-declaration.revisions.items) p (map decl rest) next (subst (λ (t : Tree). Going nothing all ns next t) front c.loop-declaration.invariant.numbers) c.match-declaration.counter refl put w.counter-is in
          record { numbers = after; few = omega (arith, c.loop-declaration.invariant.few, w.counter-is) }
      | in_default w ↦
          let r = red w.in_default.field-0 in
          let front : map decl (drop i ds) ≡ reducer r ∷ map decl rest = ap (map decl) (here ∙ ap (λ y. y ∷ rest) w.in_default.is) in
          let after : Going nothing all ns next (reducer r ∷ map decl rest) = subst (λ (t : Tree). Going nothing all ns next t) front c.loop-declaration.invariant.numbers in
          rw (w.revisions-is, w.counter-is) (record { numbers = after; few = omega (arith, c.loop-declaration.invariant.few) })
    ]
