-- Records that are all sound, each found by its own name and arguments; and what an instance makes of the reducers' values.
use Rattle.std.specs.Prelude.{◌≡◌, ℕ, ◌-◌, ◌<◌, ◌≤◌, suc, ℤ, List, Ok}
use Rattle.monoid_laws.specs.Kinds.{Fits, AreWorths}
use Rattle.meaning.specs.Tree.{Name, Tree}
use Rattle.meaning.specs.Tables.{Tables}
use Rattle.meaning.specs.Outcome.{Accumulators, Site, after, combined}
use Rattle.meaning.specs.Statements.{reducers}
use Rattle.meaning.specs.Elision.{elide, depth_limit, contribution_of}
use Rattle.meaning.specs.Records.{Revised, Kept, IsSound, with_kinds}
use Rattle.meaning.specs.Commits.{committed}
use Rattle.meaning.specs.Tallies.{valid_record}
use Rattle.trail_theory.specs.Order.{Every}
use Rattle.trail_theory.specs.ReadsAtEnd.{IsOther}
use Rattle.trail_theory.specs.Typed.{kinds_of}
use Rattle.trail_theory.specs.MadeRecords.{AnswersBySound}

-- the valid one of sound records answers
abbrev pub ValidAnswers : Revised → Tables → List Kept → Type 0
ValidAnswers program tables records = Every (IsSound program) records → AnswersBySound program tables (valid_record program tables records)

-- all records stay sound as new ones are put in
abbrev pub CommitsStaySound : Revised → Type 0
CommitsStaySound program = (records new : List Kept) → Every (IsSound program) records → Every (IsSound program) new
    → Every (IsSound program) (committed records new)

-- and as procedures are defined anew
abbrev pub RecordsStaySound : Revised → Revised → Type 0
RecordsStaySound program later = (records : List Kept) → Every (IsSound program) records → Every (IsSound later) records

-- an instance leaves the values that it found, times its contribution
abbrev pub ActsByContribution : Tree → Tables → Type 0
ActsByContribution program tables = (depth : ℕ) (site : Site) (f : Name) (vs : List ℤ) (acc : Accumulators) (v : ℤ) → 0 < depth
    → depth ≤ depth_limit → IsOther f → Every Fits vs → AreWorths (kinds_of program) acc
    → (let o = elide program tables (suc depth_limit - depth) site f vs acc in o.answer ≡ Ok v
    → after o.log acc ≡ combined acc (with_kinds (reducers program) (contribution_of program tables depth f vs)))
