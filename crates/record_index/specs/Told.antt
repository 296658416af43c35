-- The names of a program's procedures with their revision numbers, as they are gathered one by one.
use Rattle.std.specs.Prelude.{◌≡◌, ◌++◌, ℕ, List, map, length, take}
use Rattle.meaning.specs.Tree.{Name}
use Rattle.meaning.specs.TreeView.{decl}
use Rattle.meaning.specs.declared.tree.Declaration.{Declaration}
use Rattle.linked_program.specs.Checked.{names_in}
use Rattle.linked_program.specs.Procedures.{procedures}

-- these are the first of the revisions, and the procedures of these declarations have the others
pub record AreFirst (revisions told : List (Name × ℕ)) (rest : List Declaration) : Type 0 where
  pub first : told ≡ take (length told) revisions
  pub others : names_in told ++ map (λ p. p.called) (procedures (map decl rest)) ≡ names_in revisions
