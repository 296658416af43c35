-- The layers of a strand as plain values: the reducers' values, and what was read and entered, by numbers.
use Rattle.std.specs.Prelude.{ℕ, ◌+◌, ◌-◌, max, ℤ, Bool, true, false, ◌||◌, List, [], ◌∷◌, ◌++◌, map, Option, Some, None, replicate, slice_get, slice_set}
use Rattle.monoid_laws.specs.declared.Kind.{Kind}
use Rattle.monoid_laws.specs.Worth.{Worth}
use Rattle.monoid_laws.specs.Kinds.{operate, operate_all, identities, element_of}
use Rattle.linked_program.specs.Initials.{PlainInitial}
use Rattle.evaluation.specs.declared.note.Note.{Note}
use Rattle.record_theory.specs.Record.{PlainRecord}
use Rattle.record_theory.specs.Named.{filled}
use Rattle.positions.specs.Values.{once}

-- whether readings are kept, the reducers' kinds and values, what was read, what the instances have read that were recorded or
-- answered meanwhile, for each procedure whether it was entered, and the greatest depth of an instance
pub record PlainLayer : Type 0 where
  pub keeps : Bool
  pub kinds : List Kind
  pub worths : List Worth
  pub notes : List Note
  pub shared : List Note
  pub entered : List Bool
  pub deepest : ℕ

-- a layer that has noted nothing, for a program of so many procedures
abbrev pub blank : Bool → List Kind → ℕ → PlainLayer
blank keeps kinds procedures = record {
  keeps = keeps;
  kinds = kinds;
  worths = identities kinds;
  notes = [];
  shared = [];
  entered = replicate procedures false;
  deepest = 0;
}

-- readings, and others behind them where they are kept
abbrev pub kept_behind : Bool → List Note → List Note → List Note
kept_behind true ns ms = ns ++ ms
kept_behind false ns ms = ns

abbrev pub noting : List Note → PlainLayer → PlainLayer
noting ns l = record l { notes = kept_behind l.keeps l.notes ns }

-- a procedure is entered at a depth
abbrev pub entering : ℕ → ℕ → PlainLayer → PlainLayer
entering p depth l = record l { entered = slice_set l.entered p true; deepest = max l.deepest depth }

abbrev pub updated_by : ℕ → Kind → List ℤ → List Worth → Option Worth → List Worth
updated_by r kind vs worths None = worths
updated_by r kind vs worths (Some w) = slice_set worths r (operate kind w (element_of kind vs))

-- the element that the numbers name is combined on the right of a reducer's value
abbrev pub updating : ℕ → Kind → List ℤ → PlainLayer → PlainLayer
updating r kind vs l = record l { worths = updated_by r kind vs l.worths (slice_get l.worths r) }

-- the update by an initial value, where there is a reducer of its number
abbrev pub begun_by : Option Kind → PlainInitial → PlainLayer → PlainLayer
begun_by None i l = l
begun_by (Some kind) i l = updating i.reducer kind i.numbers l

-- the updates by initial values, one after another
abbrev pub begun : List Kind → List PlainInitial → PlainLayer → PlainLayer
begun kinds [] l = l
begun kinds (i ∷ is) l = begun kinds is (begun_by (slice_get kinds i.reducer) i l)

abbrev pub either : List Bool → List Bool → List Bool
either [] ys = []
either (x ∷ xs) [] = x ∷ xs
either (x ∷ xs) (y ∷ ys) = (x || y) ∷ either xs ys

-- a layer, and one behind it
abbrev pub multiplied : PlainLayer → PlainLayer → PlainLayer
multiplied l r = record l {
  worths = operate_all l.kinds l.worths r.worths;
  notes = kept_behind l.keeps l.notes r.notes;
  shared = kept_behind l.keeps l.shared r.shared;
  entered = either l.entered r.entered;
  deepest = max l.deepest r.deepest;
}

-- what a record keeps of a layer's readings: its own once each, and then the others
abbrev pub kept_reads : PlainLayer → List Note
kept_reads l = once l.notes ++ l.shared

-- a layer, and behind it one that becomes a record: what that keeps was read is shared with it, where readings are kept
abbrev pub covered : PlainLayer → PlainLayer → PlainLayer
covered l r = record (multiplied l r) { notes = l.notes; shared = kept_behind l.keeps l.shared (kept_reads r) }

-- the flags of these numbers are put up
abbrev pub flagged : List Bool → List ℕ → List Bool
flagged flags [] = flags
flagged flags (p ∷ ps) = flagged (slice_set flags p true) ps

-- a layer, and behind it what a record has of an instance at that depth
abbrev pub absorbing : PlainRecord → ℕ → PlainLayer → PlainLayer
absorbing r depth l = record l {
  worths = operate_all l.kinds l.worths (filled (identities l.kinds) r.contribution);
  shared = kept_behind l.keeps l.shared r.reads;
  entered = flagged l.entered (map (λ e. e.0) r.entered);
  deepest = max l.deepest (depth + r.height - 1);
}

-- the layers, topmost first, after the topmost was put behind the one below it
abbrev pub closed_onto : PlainLayer → List PlainLayer → PlainLayer
closed_onto l [] = l
closed_onto l (m ∷ ls) = covered m l

abbrev pub below_top : List PlainLayer → List PlainLayer
below_top [] = []
below_top (m ∷ ls) = ls

-- the lowest layer of a strand whose topmost is that
abbrev pub lowest : PlainLayer → List PlainLayer → PlainLayer
lowest l [] = l
lowest l (m ∷ ls) = lowest m ls
