-- What statements name and what they evaluate.
use Rattle.std.specs.Prelude.{ℕ, suc, ◌+◌, ◌++◌, nat_eq, nat_le, ℤ, pos, negsuc, ◌+ℤ◌, ◌-ℤ◌, Bool, true, false, cond, int_lt, List, []}
use Rattle.std.specs.Prelude.{◌∷◌, map, Option, Some, None, slice_get}
use Rattle.std.specs.Str.{bytes_eq}
use Rattle.meaning.specs.Tree.{Name, Term, end, Proc, Red, reducer, procedure, Tree}
use Rattle.monoid_laws.specs.declared.Kind.{Kind}
use Rattle.meaning.specs.declared.FaultKind.{FaultKind}
use Rattle.meaning.specs.declared.FaultKind.TheVariants.{RangeTooLong, BadElement}
use Rattle.meaning.specs.Tables.{Tables}
use Rattle.monoid_laws.specs.Worth.{Worth, number, element}
use Rattle.monoid_laws.specs.Kinds.{arity, identity_of, names_element, element_of}
use Rattle.meaning.specs.Outcome.{Out, Log, Accumulators, Site, Updates, after, ◌>>=◌, pure, fail, note}
use Rattle.meaning.specs.Values.{Env, put, value, values}

abbrev pub reducers : Tree → List Red
reducers [] = []
reducers (reducer r ∷ rest) = r ∷ reducers rest
reducers (procedure p ∷ rest) = reducers rest

abbrev pub procedure_of : Tree → Name → Option Proc
procedure_of [] f = None
procedure_of (reducer r ∷ rest) f = procedure_of rest f
procedure_of (procedure p ∷ rest) f = cond (bytes_eq p.called f) (Some p) (procedure_of rest f)

-- the reducer of a name, with its number, where the first one has number n
abbrev pub numbered : ℕ → List Red → Name → Option (ℕ × Red)
numbered n [] r = None
numbered n (x ∷ xs) r = cond (bytes_eq x.called r) (Some (n, x)) (numbered (n + 1) xs r)

abbrev pub identities : Tree → Accumulators
identities program = map (λ r. identity_of r.kind) (reducers program)

-- ---- initial values

-- two numbers for each element; one that is left over names none
abbrev pub in_pairs : List ℤ → List (List ℤ)
in_pairs [] = []
in_pairs (a ∷ []) = []
in_pairs (a ∷ b ∷ rest) = (a ∷ b ∷ []) ∷ in_pairs rest

-- as many numbers for each element as an update takes
abbrev pub in_groups : Kind → List ℤ → List (List ℤ)
in_groups kind vs = cond (nat_eq (arity kind) 2) (in_pairs vs) (map (λ v. v ∷ []) vs)

-- the updates by these numbers, of those that name an element
abbrev pub updates_by : ℕ → Kind → List (List ℤ) → Log
updates_by n kind [] = []
updates_by n kind (vs ∷ rest) = cond (names_element kind vs) (Updates n kind (element_of kind vs) ∷ updates_by n kind rest) (updates_by n kind rest)

-- the updates by the initial values, where the first reducer has number n
abbrev pub initial_updates : ℕ → List Red → Log
initial_updates n [] = []
initial_updates n (r ∷ rs) = updates_by n r.kind (in_groups r.kind r.initial) ++ initial_updates (suc n) rs

-- with these updates a run begins, before main is entered
abbrev pub beginning : Tree → Log
beginning program = initial_updates 0 (reducers program)

abbrev pub initial_values : Tree → Accumulators
initial_values program = after (beginning program) (identities program)

-- a name that no procedure has is that of an empty one
abbrev pub absent : Proc
absent = record { called = []; memo = false; parameters = 0; names = []; body = end }

abbrev pub found : Option Proc → Proc
found None = absent
found (Some p) = p

abbrev pub proc_of : Tree → Name → Proc
proc_of program f = found (procedure_of program f)

abbrev pub put_into : Option ℕ → Env → ℤ → Env
put_into None env v = env
put_into (Some x) env v = put env x v

-- the names' values as an instance begins
abbrev pub fresh : List Name → List ℤ → Env
fresh [] args = []
fresh (x ∷ names) [] = None ∷ fresh names []
fresh (x ∷ names) (v ∷ args) = Some v ∷ fresh names args

-- the number that an accumulator gives to `read`
abbrev pub number_of : Option Worth → ℤ
number_of (Some (number v)) = v
number_of (Some (element n)) = pos n
number_of _ = pos 0

abbrev pub reading : Accumulators → Option (ℕ × Red) → ℤ
reading acc None = pos 0
reading acc (Some (n, r)) = number_of (slice_get acc n)

abbrev pub naming : ℕ → Kind → List ℤ → Bool → Out FaultKind (Unit {0})
naming n kind vs false = fail BadElement
naming n kind vs true = note (Updates n kind (element_of kind vs))

-- the update of a reducer by a list of numbers
abbrev pub updating : Option (ℕ × Red) → List ℤ → Out FaultKind (Unit {0})
updating None vs = pure tt
updating (Some (n, r)) vs = naming n r.kind vs (names_element r.kind vs)

abbrev pub update_of : Tables → List Red → Env → Name → List Term → Out FaultKind (Unit {0})
update_of tables reds env r es = do
  vs ← values tables env es
  updating (numbered 0 reds r) vs

abbrev pub natural : ℤ → ℕ
natural (pos n) = n
natural (negsuc n) = 0

-- how many iterations from low to high
abbrev pub span : ℤ → ℤ → ℕ
span low high = cond (int_lt low high) (natural (high -ℤ low)) 0

-- the greatest number of iterations of a loop
abbrev pub most_iterations : ℕ
most_iterations = 1048576

abbrev pub ranged : ℕ → Out FaultKind ℕ
ranged n = cond (nat_le n most_iterations) (pure n) (fail RangeTooLong)

-- a loop's first number, and how many iterations it has
abbrev pub bounds : Tables → Env → Term → Term → Out FaultKind (ℤ × ℕ)
bounds tables env e f = do
  low ← value tables env e
  high ← value tables env f
  n ← ranged (span low high)
  pure (low, n)

-- a loop: its statement, the names' values there, its variable, what its iterations enter
pub record Job : Type 0 where
  pub site : Site
  pub env : Env
  pub variable : ℕ
  pub callee : Name
  pub args : List Term
  pub grain : ℕ
  pub low : ℤ

abbrev pub job_of : Site → Env → ℕ → Name → List Term → ℕ → ℤ → Job
job_of site env x f es grain low = record { site = site; env = env; variable = x; callee = f; args = es; grain = grain; low = low }

-- the arguments of the i-th iteration
abbrev pub turn_values : Tables → Job → ℕ → Out FaultKind (List ℤ)
turn_values tables job i = values tables (put job.env job.variable (job.low +ℤ pos i)) job.args
