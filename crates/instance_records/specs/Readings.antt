-- What an instance and those below it have read, one after another, and whether the spans of rows there hold it.
use Rattle.std.specs.Prelude.{Bool, true, false, ◌&&◌, List, [], ◌∷◌, ◌++◌, map, Option, Some, None, Box}
use Rattle.std.specs.declared.alloc.Global.{Global}
use Rattle.std.specs.declared.sync.Arc.{Arc}
use Rattle.std.specs.Arc.{arc_value}
use Rattle.std.specs.List.{flat_map}
use Rattle.evaluation.specs.declared.note.Note.{Note}
use Rattle.evaluation.specs.declared.reading.Reading.{Reading}
use Rattle.evaluation.specs.declared.reading.Reading.TheVariants as r
use Rattle.meaning.specs.Every.{every}
use Rattle.instance_records.specs.declared.readings.Node.{Node, Node-F, fold-Node}
use Rattle.instance_records.specs.declared.readings.Below.{Below, Below-F, fold-Below}
use Rattle.instance_records.specs.declared.readings.Held.{Held}
use Rattle.instance_records.specs.declared.readings.Held.TheVariants.{Nothing, One, Two, Shared}
use Rattle.evaluation.specs.Short.{note_of}
use Rattle.instance_records.specs.ShortLists.{items_in}
use Rattle.instance_records.specs.Spans.{is_covered_by, spans_in}

-- it is of a sum
abbrev pub is_a_sum : Reading → Bool
is_a_sum (r.Sum c t v) = true
is_a_sum (r.Cell c t row v) = false
is_a_sum (r.Has there t row) = false
is_a_sum (r.Limit t v) = false

-- lists one after another
abbrev pub all_of : List (List Note) → List Note
all_of parts = flat_map (λ part. part) parts

-- notes, and whether all spans there hold what was read under them
abbrev pub Told : Type 0
Told = List Note × Bool

-- where nothing is below, no note is
abbrev pub held_told : Option (Box Told Global) → Told
held_told None = ([], true)
held_told (Some b) = b.value

-- one node, with what is told of that below: its own notes, then those
abbrev pub node_step : Node-F Told Told → Told
node_step n = (map note_of (items_in n.own) ++ (held_told n.below).0, (held_told n.below).1)

-- what is below a node, with what is told of each part
abbrev pub below_step : Below-F Told Told → Told
below_step b =
    let notes = flat_map (λ (p : Arc Told Global). (arc_value p).0) (items_in b.parts) in
    (notes, every (λ (p : Arc Told Global). (arc_value p).1) (items_in b.parts) && every (is_covered_by (spans_in b.spans)) notes)

abbrev pub node_told : Node → Told
node_told = fold-Node Told Told below_step node_step

abbrev pub below_told : Below → Told
below_told = fold-Below Told Told below_step node_step

-- the notes of a node and of all below it
abbrev pub node_notes : Node → List Note
node_notes n = (node_told n).0

-- the spans there and below hold what was read under them
abbrev pub is_covered : Node → Bool
is_covered n = (node_told n).1

-- the notes of a node that is shared, and whether its spans hold what was read
abbrev pub shared_notes : Arc Node Global → List Note
shared_notes p = node_notes (arc_value p)

abbrev pub is_covered_share : Arc Node Global → Bool
is_covered_share p = is_covered (arc_value p)

-- the notes of what is below a node, if anything is
abbrev pub held_notes : Option (Box Below Global) → List Note
held_notes None = []
held_notes (Some b) = (below_told b.value).0

abbrev pub is_covered_below : Option (Box Below Global) → Bool
is_covered_below None = true
is_covered_below (Some b) = (below_told b.value).1

-- the notes that lie by themselves, or in a node that is shared
abbrev pub notes_in : Held → List Note
notes_in Nothing = []
notes_in (One reading) = note_of reading ∷ []
notes_in (Two pair) = map note_of pair
notes_in (Shared node) = shared_notes node

abbrev pub is_covered_in : Held → Bool
is_covered_in Nothing = true
is_covered_in (One reading) = true
is_covered_in (Two pair) = true
is_covered_in (Shared node) = is_covered_share node
