-- Values that are gathered for a record, of which two lie by themselves.
use Rattle.std.specs.Prelude.{List, [], ◌∷◌, Option, Some, None}
use Rattle.instance_records.specs.declared.gift.Gift.{Gift}
use Rattle.layers.specs.declared.gathered.Gathered.{Gathered}

-- the two that lie by themselves, or where there is no first, the others
abbrev pub gathered_of : {A : Type 0} → Option A → Option A → List A → List A
gathered_of None second several = several
gathered_of (Some a) None several = a ∷ []
gathered_of (Some a) (Some b) several = a ∷ b ∷ []

abbrev pub gathered_in : Gathered → List Gift
gathered_in g = gathered_of g.first g.second g.several.items
