use Rattle.std.proofs.Common.{◌≡◌, map, drop}
use Rattle.meaning.specs.TreeView.{decl}
use Rattle.meaning.specs.Statements.{reducers}
use Rattle.linked_program.specs.Rules.{reducer_of}
use Rattle.single_rules.proofs.names.kind_of.Given as goal

abbrev pub invariant-loop-declaration : goal.invariant-loop-declaration
invariant-loop-declaration l = reducer_of (reducers (map decl l.declarations)) l.name ≡ reducer_of (reducers (map decl (drop l.declaration-index l.declarations))) l.name
