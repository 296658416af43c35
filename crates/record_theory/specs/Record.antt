-- Records as plain values: everything in them goes by number.
use Rattle.std.specs.Prelude.{◌≡◌, ◌≤◌, ℕ, nat_eq, ℤ, Bool, false, ◌&&◌, List, map, Some, slice_get}
use Rattle.std.specs.Cmp.Lexicographic.{pointwise}
use Rattle.std.specs.Ordering.{int_eq}
use Rattle.monoid_laws.specs.Worth.{Worth}
use Rattle.monoid_laws.specs.declared.Val.{Val}
use Rattle.monoid_laws.specs.Kinds.{meaning}
use Rattle.evaluation.specs.declared.note.Note.{Note}
use Rattle.place_chains.specs.Mixing.{number_of}

-- of a memo instance that is over: its procedure and arguments, its value, what it made of each reducer that it touched, what it read,
-- the procedures entered with their revision numbers, how many instances were nested in it at most, itself counted,
-- and how many of its different readings the tables don't hold, as edits have counted them since
pub record PlainRecord : Type 0 where
  pub procedure : ℕ
  pub arguments : List ℤ
  pub value : ℤ
  pub contribution : List (ℕ × Worth)
  pub reads : List Note
  pub entered : List (ℕ × ℕ)
  pub height : ℕ
  pub stale : ℕ

-- a reducer's number and its value
abbrev pub touched : ℕ × Val → ℕ × Worth
touched e = (e.0, meaning e.1)

-- the record is that of a procedure and arguments
abbrev pub is_of : ℕ → List ℤ → PlainRecord → Bool
is_of procedure arguments r = nat_eq procedure r.procedure && pointwise int_eq arguments r.arguments

-- two records are of one procedure with the same arguments
abbrev pub same_instance : PlainRecord → PlainRecord → Bool
same_instance r s = is_of r.procedure r.arguments s

-- the number of its procedure and arguments, by which it is found
abbrev pub instance_number : PlainRecord → ℕ
instance_number r = number_of r.procedure r.arguments

-- no record from that place on is that of a procedure and arguments
abbrev pub NoneFrom : ℕ → List ℤ → List PlainRecord → ℕ → Type 0
NoneFrom procedure arguments rs place = (i : ℕ) (r : PlainRecord) → place ≤ i → slice_get rs i ≡ Some r → is_of procedure arguments r ≡ false

-- the record of these parts
abbrev pub made_of : ℕ → List ℤ → ℤ → List (ℕ × Val) → List Note → List (ℕ × ℕ) → ℕ → PlainRecord
made_of procedure arguments value contribution reads entered height =
    record {
      procedure = procedure;
      arguments = arguments;
      value = value;
      contribution = map touched contribution;
      reads = reads;
      entered = entered;
      height = height;
      stale = 0;
    }

-- the record of which nothing is counted
abbrev pub as_made : PlainRecord → PlainRecord
as_made r = record r { stale = 0 }
