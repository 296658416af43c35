use Rattle.std.proofs.Common.{◌≡◌, Some, sym, ◌∙◌}
use Rattle.meaning.specs.TreeView.{tree, proc}
use Rattle.meaning.specs.Statements.{procedure_of}
use Rattle.linked_program.specs.Checked.{revised_of, number_in}
use Rattle.single_rules.proofs.NumberThere.{kept_is}
use Rattle.single_rules.proofs.keeping.kept_revision.Goals as goal

pub returns-then-is_as_it_was : goal.returns-then-is_as_it_was
returns-then-is_as_it_was c =
    let old = c.args.old.now in
    let p = proc c.args.procedure.now in
    let found : Some (proc c.in-Some.before.now) ≡ procedure_of (tree old.program) p.called = rw (c.deref.ensures.value, c.program.ensures.program, c.as_str.ensures.value) at c.in-Some.ensures.found in
    let number : c.revision.result ≡ number_in old.revisions p.called = rw c.as_str-then-is_as_it_was.ensures.value at c.revision.ensures.number in
    kept_is (revised_of old) p (proc c.in-Some.before.now) c.revision.result c.revised.ensures.each found (sym c.if-is_as_it_was.true ∙ c.is_as_it_was.ensures) number
