use Rattle.std.proofs.Common.{◌≡◌, ◌+◌, ◌∷◌, ◌++◌, [], None, drop, map, ap, sym, subst, ◌∙◌}
use Rattle.std.proofs.lemmas.Bool.{eqb-true}
use Rattle.meaning.specs.Tree.{Tree, procedure, reducer}
use Rattle.meaning.specs.TreeView.{decl, proc, red}
use Rattle.meaning.specs.Edits.{most, revised}
use Rattle.linked_program.specs.Checked.{revised_of, numbers_in}
use Rattle.single_rules.specs.Kept.{kept_revision}
use Rattle.single_rules.proofs.Lists.{item_here}
use Rattle.spawn_checker.proofs.NewNumbers.{Numbered, exhausted_at}
use Rattle.spawn_checker.proofs.NewRevisions.{Going, kept_one, new_one}
use Rattle.spawn_checker.proofs.renumbering.next_revisions.Goals as goal
use Rattle.spawn_checker.proofs.renumbering.next_revisions.Goals.{in-Procedure+in-Some+in_ok-put_revision-in-Some, in-Procedure+in-None+else-is_last_number+in_ok-put_revision-in-None, in_default}

pub returns-then-is_last_number-clause-exhausted : goal.returns-then-is_last_number-clause-exhausted
returns-then-is_last_number-clause-exhausted c =
    let ds = c.args.declarations.now in
    let old = revised_of c.args.old.now in
    let i = c.loop-declaration.declaration-index in
    let n = c.loop-declaration.counter in
    let ns = numbers_in c.loop-declaration.revisions.items in
    let p = proc c.in-Procedure.procedure in
    let rest = drop (i + 1) ds in
    let here = item_here ds i c.declaration-item.result c.loop-declaration-test.true c.declaration-item.is ∙ ap (λ y. y ∷ rest) c.in-Procedure.is in
    let new : kept_revision old p ≡ None = sym c.kept_revision.ensures ∙ c.in-None.is in
    let all = revised old (map decl ds) old.counter in
    exhausted_at old p (map decl rest) ns n all.1 (ap (λ (m : Numbered). m.1) c.loop-declaration.invariant ∙ ap (λ xs. (revised old (map decl xs) n).1) here) new (eqb-true n most (sym c.is_last_number.ensures ∙ c.if-is_last_number.true))

pub loop-declaration-preserved : goal.loop-declaration-preserved
loop-declaration-preserved c =
    let ds = c.args.declarations.now in
    let i = c.loop-declaration.declaration-index in
    let rest = drop (i + 1) ds in
    let ns = numbers_in c.loop-declaration.revisions.items in
    let ms = numbers_in c.match-declaration.revisions.items in
    let next = c.loop-declaration.counter in
    let old = revised_of c.args.old.now in
    let all = revised old (map decl ds) old.counter in
    let here = item_here ds i c.declaration-item.result c.loop-declaration-test.true c.declaration-item.is in
    elim c.match-declaration.branch [
      | in-Procedure+in-Some+in_ok-put_revision-in-Some w ↦
          let p = proc w.in-Procedure.procedure in
          let front : map decl (drop i ds) ≡ procedure p ∷ map decl rest = ap (map decl) (here ∙ ap (λ y. y ∷ rest) w.in-Procedure.is) in
          let put : ms ≡ ns ++ (p.called, w.in-Some.revision) ∷ [] = rw w.revisions-is (rw w.as_str-name.ensures.value at w.in_ok-put_revision-in-Some.ensures.put) in
          let after = kept_one old all ns ms p (map decl rest) next (subst (λ (t : Tree). Going old all ns next t) front c.loop-declaration.invariant) w.in-Some.revision (sym w.kept_revision.ensures ∙ w.in-Some.is) put in
          rw w.counter-is after
      | in-Procedure+in-None+else-is_last_number+in_ok-put_revision-in-None w ↦
          let p = proc w.in-Procedure.procedure in
          let front : map decl (drop i ds) ≡ procedure p ∷ map decl rest = ap (map decl) (here ∙ ap (λ y. y ∷ rest) w.in-Procedure.is) in
          let put : ms ≡ ns ++ (p.called, next) ∷ [] = rw w.revisions-is (rw w.as_str-name.ensures.value at w.in_ok-put_revision-in-None.ensures.put) in
          new_one old all ns ms p (map decl rest) next (subst (λ (t : Tree). Going old all ns next t) front c.loop-declaration.invariant) c.match-declaration.counter (sym w.kept_revision.ensures ∙ w.in-None.is) put w.counter-is
      | in_default w ↦
          let r = red w.in_default.field-0 in
          let front : map decl (drop i ds) ≡ reducer r ∷ map decl rest = ap (map decl) (here ∙ ap (λ y. y ∷ rest) w.in_default.is) in
          let after : Going old all ns next (reducer r ∷ map decl rest) = subst (λ (t : Tree). Going old all ns next t) front c.loop-declaration.invariant in
          rw (w.revisions-is, w.counter-is) after
    ]
