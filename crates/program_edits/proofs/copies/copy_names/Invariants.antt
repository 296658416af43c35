use Rattle.std.proofs.Common.{◌≡◌, ◌++◌, drop}
use Rattle.source_tree.specs.Source.{texts}
use Rattle.program_edits.proofs.copies.copy_names.Given as goal

abbrev pub invariant-loop-name : goal.invariant-loop-name
invariant-loop-name l = texts l.out.items ++ texts (drop l.name-index l.names) ≡ texts l.names
