-- Items in several lists, and the room in which they become one.
use Rattle.std.specs.Prelude.{◌≡◌, ℕ, suc, ◌+◌, ◌<◌, ◌≤◌, List, [], ◌∷◌, ◌++◌, length, Vec, vec_len, vec_capacity}
use Rattle.std.specs.declared.alloc.Global.{Global}
use Rattle.list_pieces.specs.declared.pieces.Pieces.{Pieces}
use Rattle.list_pieces.specs.declared.pieces.Behind.{Behind}
use Rattle.list_pieces.specs.declared.pieces.Behind.TheVariants.{Copied, Kept, Taken}

-- what lies in these lists, in order
abbrev pub all_in : {T : Type 0} → List (Vec T Global) → List T
all_in [] = []
all_in (v ∷ vs) = v.items ++ all_in vs

-- all items
abbrev pub items_in : {T : Type 0} → Pieces T → List T
items_in m = m.first.items ++ (all_in m.earlier.items ++ m.last.items)

-- the counts are right, and where there are several lists the first has room for all that they take
abbrev pub IsRoomy : {T : Type 0} → Pieces T → Type 0
IsRoomy m = (m.count ≡ length m.first.items + length (all_in m.earlier.items)) × (vec_len m.last ≤ m.limit) × (m.limit ≤ vec_capacity m.last)
    × (0 < m.count → m.count + m.limit ≤ vec_capacity m.first)

-- the last list takes one more item
abbrev pub HasRoom : {T : Type 0} → Pieces T → Type 0
HasRoom m = vec_len m.last < m.limit

-- there is room for the others behind these: in the last list, or for their lists and for all together, or there are none
abbrev pub IsReadyFor : {T : Type 0} → Behind → Pieces T → Pieces T → Type 0
IsReadyFor Copied m r = (r.count ≡ 0) × (vec_len m.last + vec_len r.last ≤ m.limit)
IsReadyFor Taken m r = items_in m ≡ []
IsReadyFor Kept m r = (vec_len m.earlier + suc (suc (vec_len r.earlier)) ≤ vec_capacity m.earlier)
    × (m.count + (vec_len m.last + (r.count + vec_len r.last)) ≤ vec_capacity m.first)
