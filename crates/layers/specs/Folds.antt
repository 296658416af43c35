-- What goes behind a layer: another one, or what a record has.
use Rattle.std.specs.Prelude.{◌≡◌, ℕ, List, [], Option, Some, None}
use Rattle.monoid_laws.specs.declared.Kind.{Kind}
use Rattle.monoid_laws.specs.Worth.{Worth}
use Rattle.monoid_laws.specs.Kinds.{operate_all, identities}
use Rattle.evaluation.specs.declared.note.Note.{Note}
use Rattle.positions.specs.Layers.{PlainLayer}
use Rattle.record_theory.specs.Named.{HaveValues, filled}
use Rattle.record_theory.specs.Record.{PlainRecord}

-- the values of all reducers, with those of some behind them
abbrev pub combined_with : List (ℕ × Worth) → List Kind → List Worth → List Worth
combined_with touched kinds worths = operate_all kinds worths (filled (identities kinds) touched)

-- readings that may be left out
abbrev pub reads_in : Option (List Note) → List Note
reads_in None = []
reads_in (Some ns) = ns

-- nothing but the reducers' values has changed
abbrev pub IsSameButWorths : PlainLayer → PlainLayer → Type 0
IsSameButWorths old new = new ≡ record old { worths = new.worths }

-- what the values of both give together has stayed
abbrev pub HasSameProduct : PlainLayer → PlainLayer → PlainLayer → PlainLayer → Type 0
HasSameProduct left right new_left new_right = operate_all left.kinds new_left.worths new_right.worths ≡ operate_all left.kinds left.worths right.worths

-- where the records of both fit the reducers' kinds, those that are made of them do
abbrev pub BothHaveValues : List PlainRecord → List PlainRecord → List PlainRecord → Type 0
BothHaveValues left right new = (kinds : List Kind) → HaveValues kinds left → HaveValues kinds right → HaveValues kinds new
