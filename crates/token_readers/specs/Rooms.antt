-- Which procedures a text may define for a program.
use Rattle.std.specs.Prelude.{ℕ, suc, ◌+◌, ◌-◌, List, [], ◌∷◌, ◌++◌, length, Option, Some, None, nat_lt, if◌then◌else◌, remove}
use Rattle.meaning.specs.Tree.{Name, Tree}
use Rattle.meaning.specs.Tree as plain
use Rattle.token_scanner.specs.Words.{for_some}
use Rattle.source_tree.specs.Lowering.{found_index}

-- the names of the procedures that may still be replaced, and how many new ones may come
abbrev pub Room : Type 0
Room = List Name × ℕ

-- names, with one more, where it is new
abbrev pub with_new : List Name → Name → List Name
with_new names f = for_some (found_index f names) (names ++ f ∷ []) (λ n. names)

-- names, with those of a program's procedures, each once
abbrev pub names_from : List Name → Tree → List Name
names_from names [] = names
names_from names (plain.reducer r ∷ ds) = names_from names ds
names_from names (plain.procedure p ∷ ds) = names_from (with_new names p.called) ds

-- how many procedures a program has
abbrev pub procedures_in : Tree → ℕ
procedures_in [] = 0
procedures_in (plain.reducer r ∷ ds) = procedures_in ds
procedures_in (plain.procedure p ∷ ds) = suc (procedures_in ds)

-- a program has at most 256 procedures, and one of each name may be replaced
abbrev pub room_of : Tree → Room
room_of t = (names_from [] t, 256 - procedures_in t)

-- behind a procedure of this name, where there is room for it
abbrev pub room_behind : Room → Name → Option Room
room_behind room f = for_some (found_index f room.0) (if nat_lt 0 room.1 then Some (room.0, room.1 - 1) else None) (λ n. Some (remove room.0 n, room.1))

-- how many procedures may come
abbrev pub turns_of : Room → ℕ
turns_of room = length room.0 + room.1
