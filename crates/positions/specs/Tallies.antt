-- What a strand has counted and recorded of memo instances, by numbers.
use Rattle.std.specs.Prelude.{ℕ, suc, ◌+◌, ◌-◌, nat_eq, ℤ, Bool, true, false, cond, List, [], ◌∷◌, ◌++◌}
use Rattle.meaning.specs.Tree.{Name}
use Rattle.monoid_laws.specs.declared.Kind.{Kind}
use Rattle.monoid_laws.specs.Worth.{Worth}
use Rattle.monoid_laws.specs.Kinds.{identity_of}
use Rattle.meaning.specs.Elision.{depth_limit}
use Rattle.record_theory.specs.Record.{PlainRecord}
use Rattle.positions.specs.Layers.{PlainLayer, kept_reads}
use Rattle.positions.specs.Values.{same_worth}

-- a memo instance with a layer of its own: its procedure, its arguments, the depth left below it, and how long its name is
pub record PlainOpened : Type 0 where
  pub procedure : ℕ
  pub arguments : List ℤ
  pub left : ℕ
  pub depth : ℕ

-- the instances whose layers are open, the topmost first; the records made; and how many instances were executed, answered by a
-- record, and executed without a layer
pub record PlainTally : Type 0 where
  pub opened : List PlainOpened
  pub made : List PlainRecord
  pub executed : ℕ
  pub reused : ℕ
  pub unrecorded : ℕ

abbrev pub no_tally : PlainTally
no_tally = record { opened = []; made = []; executed = 0; reused = 0; unrecorded = 0 }

-- an instance is executed in a layer of its own
abbrev pub opening : PlainOpened → PlainTally → PlainTally
opening o t = record t { opened = o ∷ t.opened; executed = suc t.executed }

-- in the layer below
abbrev pub passing : PlainTally → PlainTally
passing t = record t { executed = suc t.executed; unrecorded = suc t.unrecorded }

-- a record answers
abbrev pub answering : PlainTally → PlainTally
answering t = record t { reused = suc t.reused }

-- the left strand's tally, and then the right's: only the left one has open layers
abbrev pub tallies_joined : PlainTally → PlainTally → PlainTally
tallies_joined a b = record {
  opened = a.opened;
  made = a.made ++ b.made;
  executed = a.executed + b.executed;
  reused = a.reused + b.reused;
  unrecorded = a.unrecorded + b.unrecorded;
}

-- ---- the record of an instance that is over

-- the values that are not the identities, with the reducers' numbers, of those from a number on
abbrev pub touched_from : ℕ → List Kind → List Worth → List (ℕ × Worth)
touched_from i [] ws = []
touched_from i (k ∷ ks) [] = []
touched_from i (k ∷ ks) (w ∷ ws) = cond (same_worth w (identity_of k)) (touched_from (suc i) ks ws) ((i, w) ∷ touched_from (suc i) ks ws)

-- a reducer's value with its number, unless it is the kind's identity
abbrev pub touched_at : ℕ → Kind → Worth → List (ℕ × Worth)
touched_at i k w = cond (same_worth w (identity_of k)) [] ((i, w) ∷ [])

-- the numbers of the procedures whose flags are up, with their revision numbers, of those from a number on
abbrev pub entries_from : ℕ → List (Name × ℕ) → List Bool → List (ℕ × ℕ)
entries_from i [] flags = []
entries_from i (e ∷ es) [] = []
entries_from i (e ∷ es) (true ∷ flags) = (i, e.1) ∷ entries_from (suc i) es flags
entries_from i (e ∷ es) (false ∷ flags) = entries_from (suc i) es flags

-- the record of an instance with that layer, which is over with that value
abbrev pub record_by : List (Name × ℕ) → PlainOpened → PlainLayer → ℤ → PlainRecord
record_by revisions o l v = record {
  procedure = o.procedure;
  arguments = o.arguments;
  value = v;
  contribution = touched_from 0 l.kinds l.worths;
  reads = kept_reads l;
  entered = entries_from 0 revisions l.entered;
  height = suc l.deepest - (depth_limit - o.left);
  stale = 0;
}

-- the topmost open layer is that of the instance whose name is so long
abbrev pub is_own : List PlainOpened → ℕ → Bool
is_own [] n = false
is_own (o ∷ os) n = nat_eq o.depth n

-- the topmost layer becomes a record
abbrev pub closing_by : List (Name × ℕ) → List PlainOpened → PlainLayer → ℤ → PlainTally → PlainTally
closing_by revisions [] l v t = t
closing_by revisions (o ∷ os) l v t = record t { opened = os; made = t.made ++ record_by revisions o l v ∷ [] }

abbrev pub closing : List (Name × ℕ) → PlainLayer → ℤ → PlainTally → PlainTally
closing revisions l v t = closing_by revisions t.opened l v t
