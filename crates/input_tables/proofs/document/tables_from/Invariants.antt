use Rattle.std.proofs.Common.{◌≡◌, []}
use Rattle.input_tables.specs.Document.{tables_from, named}
use Rattle.input_tables.proofs.document.tables_from.Given as goal

abbrev pub invariant-loop-name : goal.invariant-loop-name
invariant-loop-name l = tables_from l.tables.items (named l.name-iterator) ≡ tables_from [] (named l.document.entries)
