-- What the reducers are worth after noted changes.
use Rattle.std.specs.Prelude.{ℕ, zero, suc, ℤ, Bool, true, false, List, [], ◌∷◌, ◌++◌, Option, Some, None, map, slice_get, Result, All}
use Rattle.meaning.specs.declared.FaultKind.{FaultKind}
use Rattle.monoid_laws.specs.declared.Kind.{Kind}
use Rattle.monoid_laws.specs.declared.Kind.TheVariants as k
use Rattle.monoid_laws.specs.Worth.{Worth}
use Rattle.monoid_laws.specs.Kinds.{names_element, AreWorths, operate_all}
use Rattle.meaning.specs.Tree.{Name, Red, Tree}
use Rattle.meaning.specs.Statements.{reducers, identities, naming, numbered, updating, updates_by}
use Rattle.meaning.specs.Outcome.{Accumulators, Log, Reuses, Out, after}
use Rattle.meaning.specs.Records.{Kept, with_kinds}
use Rattle.serial_oracle.specs.declared.journal.Change.{Change}
use Rattle.serial_oracle.specs.declared.journal.Change.TheVariants as c
use Rattle.serial_oracle.specs.declared.journal.Journal.{Journal}
use Rattle.serial_oracle.specs.declared.scope.Scope.{Scope}
use Rattle.serial_oracle.specs.Keeping.{tree_in, records_in, key_plain}
use Rattle.serial_oracle.specs.Results.{Summary}

abbrev pub kinds : Tree → List Kind
kinds program = map (λ r. r.kind) (reducers program)

-- the event of an update of the n-th reducer, of this kind
abbrev pub noticed : Option Kind → ℕ → List ℤ → Log
noticed None n vs = []
noticed (Some kind) n vs = (naming n kind vs (names_element kind vs)).log

abbrev pub reused_log : List Red → Option Kept → Log
reused_log reds None = []
reused_log reds (Some k) = Reuses k.of k.args (with_kinds reds k.contribution) ∷ []

-- the event of a change, where there are these records
abbrev pub change_log : Tree → List Kept → Change → Log
change_log program records (c.Update n numbers) = noticed (slice_get (kinds program) n) n numbers.items
change_log program records (c.Reused n) = reused_log (reducers program) (slice_get records n)

abbrev pub noted : Tree → List Kept → List Change → Log
noted program records [] = []
noted program records (c ∷ cs) = change_log program records c ++ noted program records cs

-- the updates that changes note, in a scope
abbrev pub noted_in : Scope → List Change → Log
noted_in s changes = noted (tree_in s) (records_in s) changes

-- the updates of the n-th reducer, of this kind, by the numbers of elements
abbrev pub grouped : Option Kind → ℕ → List (List ℤ) → Log
grouped None n groups = []
grouped (Some kind) n groups = updates_by n kind groups

-- numbers behind one that waits for its second
abbrev pub waiting : Option ℤ → List ℤ → List ℤ
waiting None vs = vs
waiting (Some v) vs = v ∷ vs

unfoldable pub worths : Tree → List Kept → List Change → Accumulators
worths program records cs = after (noted program records cs) (identities program)

-- each record's contribution has a value of each reducer's kind
unfoldable pub AreFit : Tree → List Kept → Type 0
AreFit program records = All (λ k. AreWorths (kinds program) k.contribution) records

-- what a journal stands for
abbrev pub summary : Scope → Journal → Summary
summary scope j = record {
  worths = worths (tree_in scope) (records_in scope) j.changes.items;
  executed = map key_plain j.executed.items;
  reused = map key_plain j.reused.items;
}

abbrev pub is_listed : Kind → Bool
is_listed k.List = true
is_listed (k.First n) = true
is_listed (k.Last n) = true
is_listed _ = false

abbrev pub is_paired : Kind → Bool
is_paired k.Argmax = true
is_paired k.Affine = true
is_paired k.Hist = true
is_paired _ = false

-- the answer of an update, and what the reducers are worth after it
abbrev pub outcome_of : Out FaultKind (Unit {0}) → Accumulators → Result (Unit {0}) FaultKind × Accumulators
outcome_of o acc = (o.answer, after o.log acc)

abbrev pub updated_by : Tree → Name → List ℤ → Accumulators → Result (Unit {0}) FaultKind × Accumulators
updated_by program name vs acc = outcome_of (updating (numbered 0 (reducers program) name) vs) acc

-- the first i values, and the rest with other values on the right
abbrev pub combined_from : ℕ → List Kind → List Worth → List Worth → List Worth
combined_from zero ks xs ys = operate_all ks xs ys
combined_from (suc i) (k ∷ ks) (x ∷ xs) (y ∷ ys) = x ∷ combined_from i ks xs ys
combined_from (suc i) (k ∷ ks) (x ∷ xs) [] = []
combined_from (suc i) (k ∷ ks) [] ys = []
combined_from (suc i) [] xs ys = []
