-- Records.
use Rattle.std.specs.Prelude.{◌≡◌, ℕ, zero, suc, ◌+◌, ◌-◌, ◌<◌, ◌≤◌, nat_le, nat_eq, ℤ, Bool, true, false, cond, ◌&&◌, ◌↔◌, List, [], ◌∷◌}
use Rattle.std.specs.Prelude.{map, Option, Some, None, Ok}
use Rattle.std.specs.Ordering.{int_eq}
use Rattle.std.specs.Str.{bytes_eq}
use Rattle.std.specs.List.{Contains, find}
use Rattle.meaning.specs.Every.{every}
use Rattle.monoid_laws.specs.declared.Kind.{Kind}
use Rattle.meaning.specs.Tree.{Name, Proc, Red, Tree}
use Rattle.meaning.specs.declared.FaultKind.TheVariants.{TooDeep}
use Rattle.meaning.specs.Tables.{Tables, cell_of, has_row, limit_of, sum_of}
use Rattle.monoid_laws.specs.Worth.{Worth}
use Rattle.meaning.specs.Outcome.{Log, Enters, Reuses, Reading, CellHeld, HasHeld, LimitHeld, SumHeld, Accumulators, after}
use Rattle.meaning.specs.Run.{Run, ◌>>◌, pure, fail, note}
use Rattle.meaning.specs.Statements.{reducers, procedure_of, found, identities, initial_values}
use Rattle.meaning.specs.Elision.{Enter, elide, instance, reads, entered, deepest, start, main, depth_limit}

-- a program with its procedures' revision numbers, and the least number that was never used
pub record Revised : Type 0 where
  pub tree : Tree
  pub revisions : List (Name × ℕ)
  pub counter : ℕ

pub record Kept : Type 0 where
  pub of : Name
  pub args : List ℤ
  pub value : ℤ
  pub contribution : Accumulators
  pub read : List Reading
  pub revisions : List (Name × ℕ)
  pub height : ℕ

abbrev pub same_number : Option ℤ → ℤ → Bool
same_number None v = false
same_number (Some w) v = int_eq w v

abbrev pub same_bool : Bool → Bool → Bool
same_bool true b = b
same_bool false b = cond b false true

-- the tables hold what was read
abbrev pub agrees : Tables → Reading → Bool
agrees tables (CellHeld t row c v) = same_number (cell_of tables t row c) v
agrees tables (HasHeld t row b) = same_bool (has_row tables t row) b
agrees tables (LimitHeld t v) = int_eq (limit_of tables t) v
agrees tables (SumHeld t c v) = int_eq (sum_of tables t c) v

abbrev pub is_current : List (Name × ℕ) → Name × ℕ → Bool
is_current [] r = false
is_current ((f, n) ∷ rest) r = cond (bytes_eq f r.0) (nat_eq n r.1) (is_current rest r)

-- holds now
abbrev pub holds_now : Revised → Tables → Kept → Bool
holds_now program tables k = every (agrees tables) k.read && every (is_current program.revisions) k.revisions

abbrev pub is_valid : Revised → Tables → ℕ → Kept → Bool
is_valid program tables depth k = holds_now program tables k && nat_le (depth + k.height) (suc depth_limit)

-- a sound record
pub record IsSound (program : Revised) (k : Kept) : Type 0 where
  pub below : (f : Name) (n : ℕ) → Contains k.revisions (f, n) → n < program.counter
  pub gives : (tables : Tables) (depth : ℕ) → 0 < depth → holds_now program tables k ≡ true → depth + k.height ≤ suc depth_limit
      → let o = elide program.tree tables (suc depth_limit - depth) start k.of k.args (identities program.tree) in
      (o.answer ≡ Ok k.value) × (after o.log (identities program.tree) ≡ k.contribution) × (deepest o.log + 1 ≡ depth + k.height)
      × ((r : Reading) → Contains (reads o.log) r ↔ Contains k.read r)
      × ((f : Name) → Contains (entered o.log) f ↔ Contains (map (λ p. p.0) k.revisions) f)

-- the record of a name and arguments
abbrev pub same_args : List ℤ → List ℤ → Bool
same_args [] [] = true
same_args (x ∷ xs) (y ∷ ys) = int_eq x y && same_args xs ys
same_args _ _ = false

abbrev pub record_of : List Kept → Name → List ℤ → Option Kept
record_of records f args = find (λ k. bytes_eq k.of f && same_args k.args args) records

abbrev pub if_valid : Revised → Tables → ℕ → Option Kept → Option Kept
if_valid program tables depth None = None
if_valid program tables depth (Some k) = cond (is_valid program tables depth k) (Some k) None

abbrev pub is_memo : Option Proc → Bool
is_memo None = false
is_memo (Some p) = p.memo

abbrev pub with_kinds : List Red → Accumulators → List (Kind × Worth)
with_kinds [] ws = []
with_kinds (r ∷ rs) [] = []
with_kinds (r ∷ rs) (w ∷ ws) = (r.kind, w) ∷ with_kinds rs ws

module _ (program : Revised) (tables : Tables) (records : List Kept) where
  -- by the record, or else by `run`
  abbrev pub answered : Name → List ℤ → Option Kept → Run ℤ → Run ℤ
  answered f args None run = run
  answered f args (Some k) run = do
    note (Reuses f args (with_kinds (reducers program.tree) k.contribution))
    pure k.value

  -- The elision, where a memo instance that has a valid record is answered by it
  unfoldable pub needing : ℕ → Enter
  needing zero site f args = fail site TooDeep
  needing (suc left) site f args =
      let depth = depth_limit - left in
      let p = procedure_of program.tree f in
      answered f args (cond (is_memo p) (if_valid program tables depth (record_of records f args)) None)
      (instance program.tree tables (needing left) f args depth (found p))

  abbrev pub needed : Log
  needed = (needing depth_limit start main [] (initial_values program.tree)).log

abbrev pub Key : Type 0
Key = Name × List ℤ

-- the keys of the memo instances entered, and of those answered
abbrev pub executed : Tree → Log → List Key
executed program [] = []
executed program (Enters f args depth ∷ log) =
    cond (is_memo (procedure_of program f)) ((f, args) ∷ executed program log) (executed program log)
executed program (_ ∷ log) = executed program log

abbrev pub reused : Log → List Key
reused [] = []
reused (Reuses f args ws ∷ log) = (f, args) ∷ reused log
reused (_ ∷ log) = reused log
