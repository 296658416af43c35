-- The procedures of a program.
use Rattle.std.specs.Prelude.{List, [], ◌∷◌}
use Rattle.meaning.specs.Tree.{Proc, reducer, procedure, Tree}

-- the procedures in the order of the program
abbrev pub procedures : Tree → List Proc
procedures [] = []
procedures (reducer r ∷ rest) = procedures rest
procedures (procedure p ∷ rest) = p ∷ procedures rest
