-- Names as numbers, by which the short ones are found.
use Rattle.std.specs.Prelude.{ℕ, ◌+◌, ◌-◌, ◌*◌, [], ◌∷◌, Option, Some, None, nat_lt, ◌&&◌, if◌then◌else◌}
use Rattle.std.specs.BTreeMap.{get, get_by_text}
use Rattle.std.specs.Option.{option_map}
use Rattle.std.specs.Ordering.{nat_cmp}
use Rattle.meaning.specs.Tree.{Name}
use Rattle.token_scanner.specs.Words.{for_some}
use Rattle.source_tree.specs.declared.places.Places.{Places}

-- the bytes of a name as digits behind a number, where 64 bits hold it
abbrev pub packed_behind : ℕ → Name → Option ℕ
packed_behind n [] = Some n
packed_behind n (b ∷ bs) = if nat_lt b 256 && nat_lt (n * 256 + b) 18446744073709551616 then packed_behind (n * 256 + b) bs else None

-- those of a name behind a 1, by which names of different lengths differ, counted down from the greatest number
abbrev pub packed : Name → Option ℕ
packed x = option_map (λ n. 18446744073709551615 - n) (packed_behind 1 x)

-- the place of a name: by its number, where it has one
abbrev pub placed : (ℕ → Option ℕ) → (Name → Option ℕ) → Name → Option ℕ
placed short long x = for_some (packed x) (long x) short

abbrev pub place_in : Places → Name → Option ℕ
place_in p x = placed (λ k. get nat_cmp p.short k) (λ y. get_by_text p.long y) x
