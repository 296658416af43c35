-- What a piece of a serial run gives: a number or another answer, or the fault that ended it, and the events on the way.
use Rattle.std.specs.Prelude.{ℕ, ℤ, Bool, List, [], ◌∷◌, ◌++◌, Option, Some, None, Result, Ok, Err, slice_get, slice_set}
use Rattle.monoid_laws.specs.declared.Kind.{Kind}
use Rattle.meaning.specs.Tree.{Name}
use Rattle.meaning.specs.declared.FaultKind.{FaultKind}
use Rattle.monoid_laws.specs.Worth.{Worth}
use Rattle.monoid_laws.specs.Kinds.{operate}

infixl 20 ◌>>=◌
infixl 20 ◌>>◌
-- a statement of a procedure
pub record Site : Type 0 where
  pub procedure : Name
  pub statement : ℕ

pub record Fault : Type 0 where
  pub kind : FaultKind
  pub site : Site

-- what was read, with what it held
pub data Reading : Type 0 where
  CellHeld : Name → ℤ → Name → ℤ → Reading
  HasHeld : Name → ℤ → Bool → Reading
  LimitHeld : Name → ℤ → Reading
  SumHeld : Name → Name → ℤ → Reading

-- what an instance or a statement comes to
abbrev pub Outcome : Type 0
Outcome = Result ℤ Fault

-- a place: the numbers of the instances from main to one
abbrev pub Place : Type 0
Place = List ℕ

-- what happens in a serial run. The elision notes the first three; the fourth comes where a record answers, with its
-- contribution; the trail has the last six too, a mark being true where a record answers, and a spawned child being named
-- before it begins
pub data Event : Type 0 where
  Reads : Reading → Event
  Enters : Name → List ℤ → ℕ → Event
  Updates : ℕ → Kind → Worth → Event
  Reuses : Name → List ℤ → List (Kind × Worth) → Event
  Begins : Place → ℕ → Event
  Syncs : Place → Event
  Leaves : Place → Outcome → Event
  Marks : Name → List ℤ → Bool → Event
  Faults : Fault → Event
  Spawns : Place → Event

abbrev pub Log : Type 0
Log = List Event

-- the reducers' values, in the order of the program
abbrev pub Accumulators : Type 0
Accumulators = List Worth

abbrev pub updated : Accumulators → ℕ → Kind → Worth → Option Worth → Accumulators
updated acc n kind w None = acc
updated acc n kind w (Some before) = slice_set acc n (operate kind before w)

abbrev pub combined : Accumulators → List (Kind × Worth) → Accumulators
combined [] ws = []
combined (a ∷ acc) [] = a ∷ acc
combined (a ∷ acc) ((kind, w) ∷ ws) = operate kind a w ∷ combined acc ws

-- the accumulators after the log's updates
abbrev pub after : Log → Accumulators → Accumulators
after [] acc = acc
after (Updates n kind w ∷ log) acc = after log (updated acc n kind w (slice_get acc n))
after (Reuses f args ws ∷ log) acc = after log (combined acc ws)
after (_ ∷ log) acc = after log acc

-- an answer or a fault, with the events on the way
pub record Out (F A : Type 0) : Type 0 where
  pub log : Log
  pub answer : Result A F

abbrev pub onward : {F A B : Type 0} → Log → Result A F → (A → Out F B) → Out F B
onward log (Err e) f = record { log = log; answer = Err e }
onward log (Ok a) f = let o = f a in record { log = log ++ o.log; answer = o.answer }

abbrev pub ◌>>=◌ : {F A B : Type 0} → Out F A → (A → Out F B) → Out F B
m >>= f = onward m.log m.answer f

abbrev pub ◌>>◌ : {F A B : Type 0} → Out F A → Out F B → Out F B
m >> k = m >>= (λ _. k)

abbrev pub pure : {F A : Type 0} → A → Out F A
pure a = record { log = []; answer = Ok a }

abbrev pub fail : {F A : Type 0} → F → Out F A
fail e = record { log = []; answer = Err e }

abbrev pub note : {F : Type 0} → Event → Out F (Unit {0})
note event = record { log = event ∷ []; answer = Ok tt }
