use Rattle.std.proofs.Common.{◌≡◌, map, refl, ap, ◌∙◌, arith}
use Rattle.meaning.specs.TreeView.{tree}
use Rattle.meaning.specs.Edits.{revised}
use Rattle.linked_program.specs.TableNames.{columned}
use Rattle.linked_program.specs.Checked.{numbers_in, names_in, nothing}
use Rattle.spawn_checker.proofs.NewNumbers.{Numbered, revised_names, revised_below}
use Rattle.spawn_checker.proofs.checking.first_checked.Goals as goal

pub linked-requires-clause-each : goal.linked-requires-clause-each
linked-requires-clause-each c =
    let t = tree c.args.program in
    let made : (numbers_in c.in_ok-numbers.numbers.revisions.items, c.in_ok-numbers.numbers.counter) ≡ revised nothing t 0 = rw c.deref.ensures.value at c.in_ok-numbers.ensures.numbers in
    ap (λ (m : Numbered). names_in m.0) made ∙ revised_names nothing t 0

pub linked-requires-clause-below : goal.linked-requires-clause-below
linked-requires-clause-below c =
    let t = tree c.args.program in
    let made : (numbers_in c.in_ok-numbers.numbers.revisions.items, c.in_ok-numbers.numbers.counter) ≡ revised nothing t 0 = rw c.deref.ensures.value at c.in_ok-numbers.ensures.numbers in
    revised_below nothing refl (λ k d lt. absurd (omega (arith, lt))) t (numbers_in c.in_ok-numbers.numbers.revisions.items) c.in_ok-numbers.numbers.counter made
