-- The items of a list of which most are short.
use Rattle.std.specs.Prelude.{List, [], ◌∷◌}
use Rattle.instance_records.specs.declared.short_list.ShortList.{ShortList}
use Rattle.instance_records.specs.declared.short_list.ShortList.TheVariants.{One, Two, Several}

abbrev pub items_in : {T : Type 0} → ShortList T → List T
items_in (One item) = item ∷ []
items_in (Two pair) = pair
items_in (Several items) = items.items
