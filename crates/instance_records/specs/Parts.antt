-- The parts of a record that lie in few bytes.
use Rattle.std.specs.Prelude.{ℕ, ℤ, List, [], ◌∷◌}
use Rattle.std.specs.Arc.{arc_value}
use Rattle.instance_records.specs.declared.arguments.Arguments.{Arguments}
use Rattle.instance_records.specs.declared.arguments.Arguments.TheVariants as a
use Rattle.instance_records.specs.declared.called.Called.{Called}
use Rattle.instance_records.specs.declared.called.Called.TheVariants as c
use Rattle.instance_records.specs.declared.entries.Entries.{Entries}
use Rattle.instance_records.specs.declared.entries.Entries.TheVariants as e

-- the arguments of an instance
abbrev pub arguments_in : Arguments → List ℤ
arguments_in a.Nothing = []
arguments_in (a.One item) = item ∷ []
arguments_in (a.Two pair) = pair
arguments_in (a.Several items) = items.value.items

-- the same, of arguments that lie beside a height
abbrev pub arguments_of : Called → List ℤ
arguments_of (c.Nothing height) = []
arguments_of (c.One height item) = item ∷ []
arguments_of (c.Two height pair) = pair
arguments_of (c.Several height items) = items.value.items

-- the height beside them
abbrev pub height_of : Called → ℕ
height_of (c.Nothing height) = height
height_of (c.One height item) = height
height_of (c.Two height pair) = height
height_of (c.Several height items) = height

-- the procedures that an instance entered
abbrev pub entries_in : Entries → List (ℕ × ℕ)
entries_in e.Nothing = []
entries_in (e.One entry) = entry ∷ []
entries_in (e.Two pair) = arc_value pair
entries_in (e.Several entries) = entries.value.items
