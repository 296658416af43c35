-- What the steps of several workers give on small programs, by computation.
use Rattle.std.specs.Prelude.{◌≡◌, ℕ, ◌+◌, zero, suc, pos, false, List, [], ◌∷◌, ◌++◌, map, Some, None}
use Rattle.std.proofs.Common.{refl}
use Rattle.std.specs.Int.{int_wrap}
use Rattle.monoid_laws.specs.declared.Kind.TheVariants as k
use Rattle.monoid_laws.specs.Worth as w
use Rattle.meaning.specs.declared.tree.Way.TheVariants.{Spawn}
use Rattle.meaning.specs.Tree.{Tree, name, enter, sync, update, loop, give, end, step}
use Rattle.meaning.specs.declared.FaultKind.TheVariants.{DivideByZero}
use Rattle.meaning.specs.Tables.{Tables}
use Rattle.meaning.specs.Elision.{Finished, Faulted}
use Rattle.meaning.specs.Records.{Revised}
use Rattle.meaning.specs.Strands.{Line, Held, BookStep, Split, End, Stall, Fold, Finish}
use Rattle.meaning.specs.Strands as strands
use Rattle.meaning.specs.Trail.{halvings}
use Rattle.meaning.specs.Elision.{elide}
use Rattle.meaning.specs.RestOfRun.{rest_of_run}
use Rattle.meaning.specs.Schedules.{recording_from, RunState, RunStep, work, push, inline, pop, stall, steal, fold, first_state, after_step, path, end_of, line_of}
use Rattle.meaning.proofs.Samples.{first_list, faulty, sales, proc, red, num, n_a, n_b, n_f, n_one, n_main, n_seen}

abbrev many : ℕ → RunStep → List RunStep
many zero e = []
many (suc n) e = e ∷ many n e

-- as many works as these programs need
abbrev works : ℕ → List RunStep
works w = many 60 (work w)

-- a program none of whose procedures is recorded
abbrev unrevised : Tree → Revised
unrevised program = record { tree = program; revisions = []; counter = 0 }

abbrev run_on : Tree → Tables → ℕ → List RunStep → RunState
run_on program tables kits = path (unrevised program) tables (recording_from []) (first_state program kits)

-- push, steal, push, steal, and two folds
abbrev two_steals_begin : List RunStep
two_steals_begin = works 0 ++ push 0 ∷ steal 1 0 ∷ []

abbrev two_steals : RunState
two_steals = run_on first_list [] 3 (two_steals_begin ++ works 1 ++ push 1 ∷ steal 2 1 ∷ works 2 ++ stall 2 ∷ works 1 ++ stall 1 ∷ fold 2 (2 ∷ []) ∷ works 2 ++ stall 2 ∷ works 0 ++ stall 0 ∷ fold 0 (1 ∷ []) ∷ works 0 ++ stall 0 ∷ [])

two_steals-answer : end_of two_steals ≡ Some (Finished (pos 3) (w.items (pos 1 ∷ pos 2 ∷ pos 9 ∷ []) ∷ []))
unfolding int_wrap
two_steals-answer = refl

two_steals-history : two_steals.history ≡ Split [] (1 ∷ []) 1 ∷ Split (1 ∷ []) (2 ∷ []) 2 ∷ strands.Stall (2 ∷ []) ∷ End (1 ∷ []) ∷ Fold (1 ∷ []) (2 ∷ []) 2 ∷ strands.Stall (1 ∷ []) ∷ End [] ∷ Fold [] (1 ∷ []) 0 ∷ Finish [] ∷ []
unfolding int_wrap
two_steals-history = refl

-- all kits are free again
two_steals-kits : two_steals.kits + 1 ≡ 3
unfolding int_wrap
two_steals-kits = refl

abbrev after_steal : RunState
after_steal = run_on first_list [] 3 two_steals_begin

two_steals-lines : map line_of after_steal.pieces ≡ ([], Held 0) ∷ (1 ∷ [], Held 1) ∷ []
unfolding int_wrap
two_steals-lines = refl

-- what is left after the first steal is the elision's answer
two_steals-rest : rest_of_run first_list [] after_steal ≡ Finished (pos 3) (w.items (pos 1 ∷ pos 2 ∷ pos 9 ∷ []) ∷ [])
unfolding rest_of_run elide int_wrap
two_steals-rest = refl

-- with one kit both steals are refused, and the worker pops
one_kit-answer : end_of (run_on first_list [] 1 (works 0 ++ push 0 ∷ steal 1 0 ∷ works 0 ++ pop 0 ∷ works 0 ++ push 0 ∷ steal 1 0 ∷ works 0 ++ pop 0 ∷ works 0 ++ stall 0 ∷ [])) ≡ Some (Finished (pos 3) (w.items (pos 1 ∷ pos 2 ∷ pos 9 ∷ []) ∷ []))
unfolding int_wrap
one_kit-answer = refl

inlined-answer : end_of (run_on first_list [] 1 (works 0 ++ inline 0 ∷ works 0 ++ inline 0 ∷ works 0 ++ stall 0 ∷ [])) ≡ Some (Finished (pos 3) (w.items (pos 1 ∷ pos 2 ∷ pos 9 ∷ []) ∷ []))
unfolding int_wrap
inlined-answer = refl

-- after a push alone the run has not come to its end
unfinished : end_of (run_on first_list [] 1 (works 0 ++ push 0 ∷ works 0)) ≡ None
unfolding int_wrap
unfinished = refl

-- at the beginning nothing can be stolen or pushed, and a step by no worker isn't taken
refused_steal : after_step (unrevised first_list) [] (recording_from []) (first_state first_list 3) (steal 1 0) ≡ None
refused_steal = refl

refused_push : after_step (unrevised first_list) [] (recording_from []) (first_state first_list 3) (push 0) ≡ None
refused_push = refl

refused_work : after_step (unrevised first_list) [] (recording_from []) (first_state first_list 3) (work 7) ≡ None
refused_work = refl

-- reducer f : affine; proc one(a, b) { update f a, b; } proc main() { spawn one(2, 1); update f 3, 4; sync; return 0; }
abbrev affine : Tree
affine = red n_f k.Affine ∷ proc false n_one 2 (n_a ∷ n_b ∷ []) (step 1 (update n_f (name 0 ∷ name 1 ∷ [])) end) ∷ proc false n_main 0 [] (step 1 (enter None Spawn n_one (num 2 ∷ num 1 ∷ [])) (step 2 (update n_f (num 3 ∷ num 4 ∷ [])) (step 3 sync (step 4 (give (num 0)) end)))) ∷ []

-- a steal at the first spawn, both strands to their ends, a fold
abbrev one_steal : List RunStep
one_steal = works 0 ++ push 0 ∷ steal 1 0 ∷ works 1 ++ stall 1 ∷ works 0 ++ stall 0 ∷ fold 0 (1 ∷ []) ∷ works 0 ++ stall 0 ∷ []

-- left, then right: not 6 9
affine_fold-answer : end_of (run_on affine [] 2 one_steal) ≡ Some (Finished (pos 0) (w.line (pos 6) (pos 7) ∷ []))
unfolding int_wrap
affine_fold-answer = refl

-- the fault that is first in serial order, though the other came first in time
first_fault_serial-answer : end_of (run_on faulty (sales []) 2 one_steal) ≡ Some (Faulted (record { kind = DivideByZero; site = record { procedure = n_b; statement = 1 } }))
unfolding int_wrap
first_fault_serial-answer = refl

-- reducer seen : list; proc one(i) { update seen i; } proc main() { cilk_for i in 0 .. 4 : one(i); return 0; }
abbrev halves_stolen : Tree
halves_stolen = red n_seen k.List ∷ proc false n_one 1 (n_a ∷ []) (step 1 (update n_seen (name 0 ∷ [])) end) ∷ proc false n_main 0 (n_a ∷ []) (step 1 (loop 0 (num 0) (num 4) 1 n_one (name 0 ∷ [])) (step 2 (give (num 0)) end)) ∷ []

abbrev halves_begin : List RunStep
halves_begin = works 0 ++ push 0 ∷ steal 1 0 ∷ []

halves_stolen-lines : map line_of (run_on halves_stolen [] 2 halves_begin).pieces ≡ ([], Held 0) ∷ (1 ∷ 1 ∷ [], Held 1) ∷ []
unfolding int_wrap halvings
halves_stolen-lines = refl

halves_stolen-answer : end_of (run_on halves_stolen [] 2 (halves_begin ++ works 0 ++ inline 0 ∷ works 0 ++ stall 0 ∷ works 1 ++ inline 1 ∷ works 1 ++ stall 1 ∷ fold 0 (1 ∷ 1 ∷ []) ∷ works 0 ++ stall 0 ∷ [])) ≡ Some (Finished (pos 0) (w.items (pos 0 ∷ pos 1 ∷ pos 2 ∷ pos 3 ∷ []) ∷ []))
unfolding int_wrap halvings
halves_stolen-answer = refl
