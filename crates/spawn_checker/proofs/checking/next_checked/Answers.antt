use Rattle.std.proofs.Common.{◌≡◌, ◌<◌, map, ap, ◌∙◌}
use Rattle.meaning.specs.TreeView.{tree}
use Rattle.meaning.specs.Edits.{most, revised}
use Rattle.linked_program.specs.TableNames.{columned}
use Rattle.linked_program.specs.Checked.{revised_of, numbers_in, names_in}
use Rattle.spawn_checker.proofs.NewNumbers.{Numbered, revised_names, revised_below, too_many}
use Rattle.spawn_checker.proofs.checking.next_checked.Goals as goal

pub linked-requires-clause-each : goal.linked-requires-clause-each
linked-requires-clause-each c =
    let old = revised_of c.args.old.now in
    let t = tree c.args.program in
    let made : (numbers_in c.in-Some.numbers.revisions.items, c.in-Some.numbers.counter) ≡ revised old t old.counter = rw (c.in-Some.is, c.deref.ensures.value) at c.in_ok-next_revisions.ensures.numbers in
    ap (λ (m : Numbered). names_in m.0) made ∙ revised_names old t old.counter

pub linked-requires-clause-below : goal.linked-requires-clause-below
linked-requires-clause-below c =
    let old = revised_of c.args.old.now in
    let t = tree c.args.program in
    let made : (numbers_in c.in-Some.numbers.revisions.items, c.in-Some.numbers.counter) ≡ revised old t old.counter = rw (c.in-Some.is, c.deref.ensures.value) at c.in_ok-next_revisions.ensures.numbers in
    revised_below old c.revised.ensures.each c.revised.ensures.below t (numbers_in c.in-Some.numbers.revisions.items) c.in-Some.numbers.counter made

pub returns-in-None-clause-refused : goal.returns-in-None-clause-refused
returns-in-None-clause-refused c =
    let old = revised_of c.args.old.now in
    let many : most < (revised old (tree c.args.program) old.counter).1 = rw (c.in-None.is, c.deref.ensures.value) at c.in_ok-next_revisions.ensures.exhausted in
    (c.requires, too_many (revised old (tree c.args.program) old.counter).1 many)
