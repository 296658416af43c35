-- A run without flags, in which a thief takes a recorded instance whose layer stays with the victim, by computation.
use Rattle.std.specs.Prelude.{◌≡◌, ℕ, zero, suc, pos, true, false, List, [], ◌∷◌, ◌++◌, map, Some, None}
use Rattle.std.proofs.Common.{refl}
use Rattle.std.specs.Int.{int_wrap}
use Rattle.monoid_laws.specs.declared.Kind.TheVariants as k
use Rattle.monoid_laws.specs.Worth as w
use Rattle.meaning.specs.declared.tree.Way.TheVariants.{Call, Spawn}
use Rattle.meaning.specs.Tree.{name, enter, sync, update, give, end, step}
use Rattle.meaning.specs.Outcome.{Accumulators}
use Rattle.meaning.specs.Elision.{Finished}
use Rattle.meaning.specs.Records.{Revised}
use Rattle.meaning.specs.Schedules.{recording_from, Piece, RunState, RunStep, work, push, stall, steal, fold, first_state, end_of}
use Rattle.meaning.proofs.Samples.{proc, red, num, n_a, n_f, n_one, n_main, n_seen}
use Rattle.trail_theory.specs.OwnLayers.{is_top_by_length}
use Rattle.run_theory.specs.UnflaggedRuns.{path_by}

-- reducer seen : list; proc one(a) { update seen a; } memo proc f() { spawn one(1); update seen 2; sync; return 0; } proc main() { f(); return 0; }
abbrev recorded_spawn : Revised
recorded_spawn =
    record {
      tree = red n_seen k.List
          ∷ proc false n_one 1 (n_a ∷ []) (step 1 (update n_seen (name 0 ∷ [])) end)
          ∷ proc true n_f 0 [] (step 1 (enter None Spawn n_one (num 1 ∷ [])) (step 2 (update n_seen (num 2 ∷ [])) (step 3 sync (step 4 (give (num 0)) end))))
          ∷ proc false n_main 0 [] (step 1 (enter None Call n_f []) (step 2 (give (num 0)) end))
          ∷ [];
      revisions = (n_one, 0) ∷ (n_f, 1) ∷ (n_main, 2) ∷ [];
      counter = 3;
    }

abbrev works : ℕ → ℕ → List RunStep
works zero w = []
works (suc n) w = work w ∷ works n w

-- the thief goes on with `f`, whose layer the victim has, up to its sync; the fold brings both together, and `f` closes its layer
abbrev taken : List RunStep
taken = works 20 0 ++ push 0 ∷ steal 1 0 ∷ works 20 1 ++ stall 1 ∷ works 20 0 ++ stall 0 ∷ fold 0 (1 ∷ 1 ∷ []) ∷ works 20 0 ++ stall 0 ∷ []

abbrev after_all : RunState
after_all = path_by recorded_spawn [] (recording_from []) is_top_by_length (first_state recorded_spawn.tree 3) taken

taken-answer : end_of after_all ≡ Some (Finished (pos 0) (w.items (pos 1 ∷ pos 2 ∷ []) ∷ []))
unfolding int_wrap
taken-answer = refl

-- what the new records give to the reducers
abbrev given : List Piece → List Accumulators
given [] = []
given (p ∷ ps) = map (λ k. k.contribution) p.tally.made ++ given ps

taken-records : given after_all.pieces ≡ (w.items (pos 1 ∷ pos 2 ∷ []) ∷ []) ∷ []
unfolding int_wrap
taken-records = refl
