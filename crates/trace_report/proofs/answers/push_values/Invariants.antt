use Rattle.std.proofs.Common.{◌≡◌, ◌++◌, map, string_bytes, drop}
use Rattle.monoid_laws.specs.Kinds.{meaning}
use Rattle.meaning.specs.Statements.{reducers}
use Rattle.meaning.specs.TreeView.{tree, decl}
use Rattle.meaning.specs.Text.{worths_text}
use Rattle.trace_report.proofs.answers.push_values.Given as goal

-- what is written, and then the lines of the declarations that are left
abbrev pub invariant-loop-declaration : goal.invariant-loop-declaration
invariant-loop-declaration l =
    string_bytes l.fn.text ++ worths_text (reducers (tree l.fn.program)) (map meaning l.fn.values)
    ≡ string_bytes l.text ++ worths_text (reducers (map decl (drop l.declaration-index l.declaration-items))) (map meaning (drop l.at l.values))
