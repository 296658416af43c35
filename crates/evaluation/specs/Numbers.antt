-- Names and numbers: an evaluation of the definitions as one by numbers.
use Rattle.std.specs.Prelude.{◌≡◌, ℕ, ℤ, List, [], ◌∷◌, map, length, slice_set}
use Rattle.meaning.specs.Tree.{Name, Term}
use Rattle.meaning.specs.declared.FaultKind.{FaultKind}
use Rattle.meaning.specs.Tables.{Tables}
use Rattle.meaning.specs.Outcome.{Log, Out, Reads, Reading, CellHeld, HasHeld, LimitHeld, SumHeld}
use Rattle.meaning.specs.SmallStep.{slot}
use Rattle.meaning.specs.Statements.{bounds, fresh}
use Rattle.meaning.specs.Values.{put, value, values}
use Rattle.linked_program.specs.TableNames.{Columned, columned_of}
use Rattle.linked_program.specs.Linked.{table_number, column_number, linked_term}
use Rattle.evaluation.specs.declared.note.Note.{Note}
use Rattle.evaluation.specs.declared.note.Note.TheVariants.{Cell, Has, Limit, Sum}
use Rattle.evaluation.specs.declared.slot.Slot.{Slot}
use Rattle.evaluation.specs.declared.slot.Slot.TheVariants as s
use Rattle.evaluation.specs.Slots.{meant, env_of, slots_for}
use Rattle.evaluation.specs.Values.{NumberedOut, value_at, values_at, bounds_at}

-- a reading with its table and its column by number
abbrev pub numbered : List Columned → Reading → Note
numbered ts (CellHeld t row c v) = Cell (table_number ts t) row (column_number ts t c) v
numbered ts (HasHeld t row there) = Has (table_number ts t) row there
numbered ts (LimitHeld t v) = Limit (table_number ts t) v
numbered ts (SumHeld t c v) = Sum (table_number ts t) (column_number ts t c) v

abbrev pub readings : Log → List Reading
readings [] = []
readings (Reads r ∷ es) = r ∷ readings es
readings (_ ∷ es) = readings es

-- what the definitions say, by numbers
abbrev pub by_number : {A : Type 0} → List Columned → Out FaultKind A → NumberedOut A
by_number ts o = record { notes = map (numbered ts) (readings o.log); answer = o.answer }

-- a log in which nothing is done but reading
abbrev pub OnlyReads : Log → Type 0
OnlyReads log = log ≡ map Reads (readings log)

-- a linked expression has the value of the program's, and reads the same
abbrev pub ValueIs : Tables → List Slot → Term → Type 0
ValueIs tables slots e = value_at tables slots (linked_term (columned_of tables) e) ≡ by_number (columned_of tables) (value tables (env_of slots) e)

abbrev pub ValuesAre : Tables → List Slot → List Term → Type 0
ValuesAre tables slots es = values_at tables slots (map (linked_term (columned_of tables)) es)
    ≡ by_number (columned_of tables) (values tables (env_of slots) es)

abbrev pub BoundsAre : Tables → List Slot → Term → Term → Type 0
BoundsAre tables slots e f =
    bounds_at tables slots (linked_term (columned_of tables) e) (linked_term (columned_of tables) f)
    ≡ by_number (columned_of tables) (bounds tables (env_of slots) e f)

-- a slot that is given a value is a name that is given it
abbrev pub PutIs : List Slot → ℕ → ℤ → Type 0
PutIs slots x v = env_of (slice_set slots x (s.Has v)) ≡ put (env_of slots) x v

-- the slots of a new instance are its names' values
abbrev pub FreshIs : List Name → List ℤ → Type 0
FreshIs names vs = map meant (slots_for (length names) vs) ≡ map slot (fresh names vs)
