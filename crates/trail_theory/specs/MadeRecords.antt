-- What a record says, at one depth and with the tables of one moment; and a program in which procedures are defined anew.
use Rattle.std.specs.Prelude.{◌≡◌, ◌↔◌, ℕ, ◌+◌, ◌-◌, ◌<◌, ◌≤◌, suc, ℤ, true, List, map, Some, Ok}
use Rattle.std.specs.List.{Contains}
use Rattle.meaning.specs.Tree.{Name, Tree}
use Rattle.meaning.specs.Tables.{Tables}
use Rattle.meaning.specs.Outcome.{Out, Fault, Reading, after}
use Rattle.meaning.specs.Statements.{reducers, proc_of, identities}
use Rattle.meaning.specs.Elision.{elide, reads, entered, deepest, start, depth_limit}
use Rattle.meaning.specs.Records.{Revised, Kept, is_current, holds_now, IsSound}
use Rattle.meaning.specs.SmallStep.{Lookup}
use Rattle.trail_theory.specs.Right.{IsRecorded}

-- the elision of a record's name and arguments, as an instance at that depth
abbrev pub elision_of : Tree → Tables → ℕ → Kept → Out Fault ℤ
elision_of program tables depth k = elide program tables (suc depth_limit - depth) start k.of k.args (identities program)

-- the record has what the elision notes
pub record SaysOf (program : Tree) (depth : ℕ) (k : Kept) (o : Out Fault ℤ) : Type 0 where
  pub value : o.answer ≡ Ok k.value
  pub contribution : after o.log (identities program) ≡ k.contribution
  pub height : deepest o.log + 1 ≡ depth + k.height
  pub read : (r : Reading) → Contains (reads o.log) r ↔ Contains k.read r
  pub entered_are : (f : Name) → Contains (entered o.log) f ↔ Contains (map (λ p. p.0) k.revisions) f

-- a record that was made of an instance at that depth, with those tables
pub record IsMade (program : Revised) (tables : Tables) (depth : ℕ) (k : Kept) : Type 0 where
  pub below : (f : Name) (n : ℕ) → Contains k.revisions (f, n) → n < program.counter
  pub outermost : 0 < depth
  pub deep : depth ≤ depth_limit
  pub noted : SaysOf program.tree depth k (elision_of program.tree tables depth k)

-- a later program: a procedure whose revision number is as it was is the same
pub record IsLater (program later : Revised) : Type 0 where
  pub reducers_are : reducers program.tree ≡ reducers later.tree
  pub counted : program.counter ≤ later.counter
  pub unchanged : (f : Name) (n : ℕ) → n < program.counter → is_current later.revisions (f, n) ≡ true
      → (is_current program.revisions (f, n) ≡ true) × (proc_of program.tree f ≡ proc_of later.tree f)

-- an answer at a depth is a sound record of the name and arguments, which holds now and whose instances fit below there
pub record IsAnswer (program : Revised) (tables : Tables) (f : Name) (vs : List ℤ) (depth : ℕ) (k : Kept) : Type 0 where
  pub outermost : 0 < depth
  pub named : k.of ≡ f
  pub called : k.args ≡ vs
  pub sound : IsSound program k
  pub now : holds_now program tables k ≡ true
  pub fits : depth + k.height ≤ suc depth_limit

-- answers for recorded procedures are such
abbrev pub RecordedBySound : Revised → Tables → Lookup → Type 0
RecordedBySound program tables lookup = (f : Name) (vs : List ℤ) (depth : ℕ) (k : Kept) → IsRecorded program.tree f
    → lookup f vs depth ≡ Some k → IsAnswer program tables f vs depth k

abbrev pub AnswersBySound : Revised → Tables → Lookup → Type 0
AnswersBySound program tables lookup = (f : Name) (vs : List ℤ) (depth : ℕ) (k : Kept) → lookup f vs depth ≡ Some k → IsAnswer program tables f vs depth k
