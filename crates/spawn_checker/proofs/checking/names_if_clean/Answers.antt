use Rattle.std.proofs.Common.{map, sym, ◌∙◌}
use Rattle.meaning.specs.TreeView.{decl, lined}
use Rattle.linked_program.specs.TableNames.{columned_of}
use Rattle.linked_program.specs.Declarations.{violations}
use Rattle.spawn_checker.proofs.Counting.{nothing_violated}
use Rattle.spawn_checker.proofs.checking.names_if_clean.Goals as goal

pub returns-in-None-clause-clean : goal.returns-in-None-clause-clean
returns-in-None-clause-clean c =
    let ds = c.args.program.now.declarations.items in
    nothing_violated (violations (columned_of c.args.tables.now.tables) (map decl ds) (map lined ds)) (rw (c.deref.ensures.value, c.deref-2.ensures.value, c.in_ok-names.ensures) at (sym c.in_ok-violation.ensures ∙ c.in-None.is))
