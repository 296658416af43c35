-- The updates by the initial values: evaluations note the same kinds of events, and each is of its reducer's kind.
use Rattle.std.proofs.Common.{ℕ, suc, ◌+◌, List, [], ◌∷◌, Some, ℤ, ◌≡◌, refl, subst, arith, map, true, false, Bool, cond, nat_eq}
use Rattle.std.specs.Prelude.{slice_get}
use Rattle.std.specs.List.{AllByRecursion}
use Rattle.monoid_laws.specs.declared.Kind.{Kind}
use Rattle.monoid_laws.specs.Kinds.{arity, names_element, element_of, Fits, IsWorth}
use Rattle.meaning.specs.Tree.{Red, Tree}
use Rattle.meaning.specs.Outcome.{Log, Updates}
use Rattle.meaning.specs.Statements.{reducers, in_pairs, in_groups, updates_by, initial_updates, beginning}
use Rattle.meaning.specs.Fitting.{ProgramFits}
use Rattle.trail_theory.specs.Order.{Every}
use Rattle.trail_theory.specs.MainReads.{IsSynced}
use Rattle.trail_theory.specs.Typed.{kinds_of, IsTyped}
use Rattle.trail_theory.proofs.Places.{every_append}
use Rattle.trail_theory.proofs.Evaluations.{Told}
use Rattle.trail_theory.proofs.Synced.{told_elsewhere, no_spawns, still_synced}
use Rattle.trail_theory.proofs.FitValues.{element_right}

-- ---- what evaluations note too

told_cond : (b : Bool) (x y : Log) → Every Told x → Every Told y → Every Told (cond b x y)
told_cond true x y h k = h
told_cond false x y h k = k

updates_told : (n : ℕ) (kind : Kind) (vss : List (List ℤ)) → Every Told (updates_by n kind vss)
updates_told n kind [] = tt
updates_told n kind (vs ∷ rest) =
    let h = updates_told n kind rest in
    told_cond (names_element kind vs) (Updates n kind (element_of kind vs) ∷ updates_by n kind rest) (updates_by n kind rest) (tt, h) h

initial_told : (n : ℕ) (reds : List Red) → Every Told (initial_updates n reds)
initial_told n [] = tt
initial_told n (r ∷ reds) = every_append Told (updates_by n r.kind (in_groups r.kind r.initial)) (initial_updates (suc n) reds) (updates_told n r.kind (in_groups r.kind r.initial)) (initial_told (suc n) reds)

pub beginning_told : (program : Tree) → Every Told (beginning program)
beginning_told program = initial_told 0 (reducers program)

-- nothing is spawned in it
pub beginning_synced : (program : Tree) → IsSynced (beginning program)
beginning_synced program = still_synced [] (beginning program) (no_spawns (beginning program) (told_elsewhere (beginning program) (beginning_told program))) refl

-- ---- the kinds of updates

pairs_fit : (vs : List ℤ) → AllByRecursion Fits vs → Every (Every Fits) (in_pairs vs)
pairs_fit [] h = tt
pairs_fit (a ∷ []) h = tt
pairs_fit (a ∷ b ∷ rest) h = ((h.0, (h.1.0, tt)), pairs_fit rest h.1.1)

ones_fit : (vs : List ℤ) → AllByRecursion Fits vs → Every (Every Fits) (map (λ v. v ∷ []) vs)
ones_fit [] h = tt
ones_fit (v ∷ vs) h = ((h.0, tt), ones_fit vs h.1)

either_fit : (b : Bool) (xs ys : List (List ℤ)) → Every (Every Fits) xs → Every (Every Fits) ys → Every (Every Fits) (cond b xs ys)
either_fit true xs ys h k = h
either_fit false xs ys h k = k

groups_fit : (kind : Kind) (vs : List ℤ) → AllByRecursion Fits vs → Every (Every Fits) (in_groups kind vs)
groups_fit kind vs h = either_fit (nat_eq (arity kind) 2) (in_pairs vs) (map (λ v. v ∷ []) vs) (pairs_fit vs h) (ones_fit vs h)

named_typed : (cs : List Kind) (n : ℕ) (kind : Kind) (vs : List ℤ) (rest : Log) (b : Bool) → slice_get cs n ≡ Some kind → (b ≡ true → IsWorth kind (element_of kind vs)) → Every (IsTyped cs) rest → Every (IsTyped cs) (cond b (Updates n kind (element_of kind vs) ∷ rest) rest)
named_typed cs n kind vs rest true e w h = ((e, w refl), h)
named_typed cs n kind vs rest false e w h = h

updates_typed : (cs : List Kind) (n : ℕ) (kind : Kind) (vss : List (List ℤ)) → slice_get cs n ≡ Some kind → Every (Every Fits) vss → Every (IsTyped cs) (updates_by n kind vss)
updates_typed cs n kind [] e h = tt
updates_typed cs n kind (vs ∷ rest) e h = named_typed cs n kind vs (updates_by n kind rest) (names_element kind vs) e (λ q. element_right kind vs h.0 q) (updates_typed cs n kind rest e h.1)

initial_typed : (cs : List Kind) (n : ℕ) (reds : List Red) → ((i : ℕ) (kind : Kind) → slice_get (map (λ r. r.kind) reds) i ≡ Some kind → slice_get cs (n + i) ≡ Some kind) → AllByRecursion (λ r. AllByRecursion Fits r.initial) reds → Every (IsTyped cs) (initial_updates n reds)
initial_typed cs n [] stand h = tt
initial_typed cs n (r ∷ reds) stand h =
    let z : n + 0 ≡ n = omega arith in
    every_append (IsTyped cs) (updates_by n r.kind (in_groups r.kind r.initial)) (initial_updates (suc n) reds) (updates_typed cs n r.kind (in_groups r.kind r.initial) (subst (λ m. slice_get cs m ≡ Some r.kind) z (stand 0 r.kind refl)) (groups_fit r.kind r.initial h.0))
    (initial_typed cs (suc n) reds (λ i kind q. let s : n + suc i ≡ suc n + i = omega arith in subst (λ m. slice_get cs m ≡ Some kind) s (stand (suc i) kind q)) h.1)

pub beginning_typed : (program : Tree) → ProgramFits program → Every (IsTyped (kinds_of program)) (beginning program)
beginning_typed program numbers =
    initial_typed (kinds_of program) 0 (reducers program) (λ i kind q. let z : i ≡ 0 + i = omega arith in subst (λ m. slice_get (kinds_of program) m ≡ Some kind) z q) numbers.initials
