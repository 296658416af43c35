-- The kinds of reducers that are one word each.
use Rattle.std.specs.Prelude.{ℕ, List, Option, Some, None, bytes_eq, if◌then◌else◌, codes}
use Rattle.source_tree.specs.Kinds.{WrittenKind, Add, Mul, Min, Max, And, Or, Xor, Items, Argmax, Affine, Hist}

unfoldable pub simple_kind : List ℕ → Option WrittenKind
simple_kind x =
    if bytes_eq x (codes "add") then Some Add
    else (if bytes_eq x (codes "mul") then Some Mul
    else (if bytes_eq x (codes "min") then Some Min
    else (if bytes_eq x (codes "max") then Some Max
    else (if bytes_eq x (codes "and") then Some And
    else (if bytes_eq x (codes "or") then Some Or
    else (if bytes_eq x (codes "xor") then Some Xor
    else (if bytes_eq x (codes "list") then Some Items
    else (if bytes_eq x (codes "argmax") then Some Argmax
    else (if bytes_eq x (codes "affine") then Some Affine
    else (if bytes_eq x (codes "hist") then Some Hist
    else None))))))))))
