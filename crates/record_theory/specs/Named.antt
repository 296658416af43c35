-- Which records of the definitions, in which everything goes by name, the records by number stand for.
use Rattle.std.specs.Prelude.{◌≡◌, ℕ, suc, ◌<◌, ◌≤◌, ℤ, true, cond, List, [], ◌∷◌, map, length, Option, Some, None, Contains, ◌↔◌, slice_get, slice_set, All}
use Rattle.meaning.specs.Tree.{Name, Tree}
use Rattle.meaning.specs.TreeView.{tree}
use Rattle.monoid_laws.specs.Worth.{Worth}
use Rattle.monoid_laws.specs.declared.Kind.{Kind}
use Rattle.monoid_laws.specs.Kinds.{identities, IsWorth}
use Rattle.meaning.specs.Tables.{Tables, is_there}
use Rattle.meaning.specs.Outcome.{Accumulators}
use Rattle.meaning.specs.Elision.{depth_limit}
use Rattle.meaning.specs.Statements.{procedure_of}
use Rattle.meaning.specs.Records.{Revised, Kept, Key, if_valid, record_of}
use Rattle.meaning.specs.Commits.{committed}
use Rattle.linked_program.specs.Checked.{PlainChecked, revised_of, names_in}
use Rattle.linked_program.specs.TableNames.{Columned, columned_of}
use Rattle.linked_program.specs.Linked.{procedure_number}
use Rattle.linked_program.specs.Procedures.{procedures}
use Rattle.evaluation.specs.Numbers.{numbered}
use Rattle.record_theory.specs.Record.{PlainRecord}
use Rattle.record_theory.specs.Validity.{valid_at}

-- the values of all reducers: these, and the others' as they stand
abbrev pub filled : Accumulators → List (ℕ × Worth) → Accumulators
filled acc [] = acc
filled acc (e ∷ es) = filled (slice_set acc e.0 e.1) es

-- each entry names a reducer, of so many, from that number on, in order
abbrev pub NameReducersFrom : ℕ → ℕ → List (ℕ × Worth) → Type 0
NameReducersFrom i count [] = Unit {0}
NameReducersFrom i count (e ∷ es) = (i ≤ e.0) × (e.0 < count) × NameReducersFrom (suc e.0) count es

-- two lists have the same members
abbrev pub SameMembers : {A : Type 0} → List A → List A → Type 0
SameMembers {A} xs ys = (x : A) → Contains xs x ↔ Contains ys x

module _ (t : Tree) where
  -- the number of a procedure's name
  abbrev pub number_of : Name → ℕ
  number_of f = procedure_number (procedures t) f

  -- a procedure's number with its revision number
  abbrev pub numbered_entry : Name × ℕ → ℕ × ℕ
  numbered_entry e = (number_of e.0, e.1)

-- for a program whose tables have those names, and whose reducers are of those kinds
module _ (t : Tree) (names : List Columned) (kinds : List Kind) where
  -- a record of the definitions that a record by numbers stands for: names lead to the numbers, the procedure is one of the program,
  -- and what it contributes is to reducers that there are, to each once, in order
  pub record IsRecord (k : Kept) (r : PlainRecord) : Type 0 where
    pub known : is_there (procedure_of t k.of) ≡ true
    pub procedure : r.procedure ≡ number_of t k.of
    pub arguments : r.arguments ≡ k.args
    pub value : r.value ≡ k.value
    pub contribution : k.contribution ≡ filled (identities kinds) r.contribution
    pub named : NameReducersFrom 0 (length kinds) r.contribution
    pub reads : SameMembers r.reads (map (numbered names) k.read)
    pub entered : SameMembers r.entered (map (numbered_entry t) k.revisions)
    pub height : r.height ≡ k.height

  -- one by one
  abbrev pub AreRecords : List Kept → List PlainRecord → Type 0
  AreRecords [] [] = Unit {0}
  AreRecords (k ∷ ks) (r ∷ rs) = IsRecord k r × AreRecords ks rs
  AreRecords _ _ = ⊥

  -- both find no record, or what is found by number stands for what is found by name
  abbrev pub IsAnswer : Option Kept → Option PlainRecord → Type 0
  IsAnswer None None = Unit {0}
  IsAnswer (Some k) (Some r) = IsRecord k r
  IsAnswer _ _ = ⊥

-- the names of the procedures, in the order of the revision numbers, are those of the tree
abbrev pub IsInOrder : Tree → List (Name × ℕ) → Type 0
IsInOrder t revisions = names_in revisions ≡ map (λ p. p.called) (procedures t)

-- the record is that of a checked program by its names
abbrev pub IsKept : PlainChecked → Kept → PlainRecord → Type 0
IsKept program k r = IsRecord (tree program.program) program.tables program.kinds k r

abbrev pub AreKept : PlainChecked → List Kept → List PlainRecord → Type 0
AreKept program ks rs = AreRecords (tree program.program) program.tables program.kinds ks rs

abbrev pub IsFound : PlainChecked → Option Kept → Option PlainRecord → Type 0
IsFound program k r = IsAnswer (tree program.program) program.tables program.kinds k r

-- each entry has the number of a reducer, from that number on, in order, and a value of its kind
abbrev pub IsValueAt : Option Kind → Worth → Type 0
IsValueAt None w = ⊥
IsValueAt (Some kind) w = IsWorth kind w

abbrev pub AreValuesFrom : ℕ → List Kind → List (ℕ × Worth) → Type 0
AreValuesFrom i kinds [] = Unit {0}
AreValuesFrom i kinds (e ∷ es) = (i ≤ e.0) × IsValueAt (slice_get kinds e.0) e.1 × AreValuesFrom (suc e.0) kinds es

-- what a record contributes are values of the reducers' kinds, each reducer's once, unless it is too high to answer at any depth
abbrev pub HasValuesIfAnswers : List Kind → PlainRecord → Type 0
HasValuesIfAnswers kinds r = r.height ≤ depth_limit → AreValuesFrom 0 kinds r.contribution

-- so it is of all these
abbrev pub HaveValues : List Kind → List PlainRecord → Type 0
HaveValues kinds rs = All (HasValuesIfAnswers kinds) rs

-- the record of a key by its name, where there is such a procedure and the record is valid at that depth
abbrev pub looked_up : PlainChecked → Tables → ℕ → List PlainRecord → Key → Option PlainRecord
looked_up program tables depth records key =
    cond (is_there (procedure_of (tree program.program) key.0))
    (valid_at program.revisions tables depth records (number_of (tree program.program) key.0) key.1) None

-- what is found for a key stands for what the definitions find for it
abbrev pub FindsNamed : PlainChecked → Tables → ℕ → List PlainRecord → Key → Option PlainRecord → Type 0
FindsNamed program tables depth records key found =
    (ks : List Kept) → AreKept program ks records → columned_of tables ≡ program.tables
    → IsFound program (if_valid (revised_of program) tables depth (record_of ks key.0 key.1)) found

-- the new records stand for those that the definitions have after they put in what the records made stand for
abbrev pub CommitsNamed : PlainChecked → List PlainRecord → List PlainRecord → List PlainRecord → Type 0
CommitsNamed program old made new = (ks js : List Kept) → AreKept program ks old → AreKept program js made → AreKept program (committed ks js) new

-- what is found by the number of a name stands for what the definitions find by the name
abbrev pub LooksUp : Revised → List Columned → List Kind → Tables → ℕ → Name → List ℤ → Type 0
LooksUp program names kinds tables depth f args =
    (ks : List Kept) (rs : List PlainRecord) → AreRecords program.tree names kinds ks rs → IsInOrder program.tree program.revisions → columned_of tables ≡ names
    → IsAnswer program.tree names kinds (if_valid program tables depth (record_of ks f args))
    (valid_at program.revisions tables depth rs (number_of program.tree f) args)
