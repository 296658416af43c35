-- What several workers' runs count and record, on small programs, by computation.
use Rattle.std.specs.Prelude.{◌≡◌, ℕ, zero, suc, pos, List, [], ◌∷◌, ◌++◌, map, Some}
use Rattle.std.proofs.Common.{refl}
use Rattle.std.specs.Int.{int_wrap}
use Rattle.monoid_laws.specs.Worth as w
use Rattle.meaning.specs.Tables.{Tables}
use Rattle.meaning.specs.Outcome.{CellHeld}
use Rattle.meaning.specs.Elision.{Answer, Finished, elide, all_turns}
use Rattle.meaning.specs.Records.{Kept, Revised, needing}
use Rattle.meaning.specs.Trail.{halvings}
use Rattle.meaning.specs.Commits.{kept_after}
use Rattle.meaning.specs.Schedules.{recording_from, RunState, RunStep, work, inline, stall, first_state, path, end_of, Piece}
use Rattle.meaning.proofs.Samples.{lines, sales, row, n_line, n_main, n_sales, n_qty, n_price}

abbrev times : ℕ → List RunStep → List RunStep
times zero es = []
times (suc n) es = es ++ times n es

abbrev works : ℕ → List RunStep
works w = times 60 (work w ∷ [])

abbrev lines_now : Revised
lines_now = record { tree = lines; revisions = (n_line, 0) ∷ (n_main, 1) ∷ []; counter = 2 }

abbrev three_rows : Tables
three_rows = sales (row 1 2 5 ∷ row 2 3 7 ∷ row 3 1 100 ∷ [])

-- one worker, each spawn done as a call
abbrev alone : List RunStep
alone = times 3 (works 0 ++ inline 0 ∷ []) ++ works 0 ++ stall 0 ∷ []

abbrev run_of : Tables → List Kept → ℕ → List RunStep → RunState
run_of tables records kits = path lines_now tables (recording_from records) (first_state lines kits)

abbrev tallies : List Piece → List (ℕ × ℕ × ℕ)
tallies ps = map (λ p. (p.tally.executed, p.tally.reused, p.tally.unrecorded)) ps

abbrev made : List Piece → List Kept
made [] = []
made (p ∷ ps) = p.tally.made ++ made ps

abbrev answer : Answer
answer = Finished (pos 131) (w.number (pos 131) ∷ w.best (Some (pos 100, pos 3)) ∷ [])

abbrev one_row : Tables
one_row = sales (row 1 2 5 ∷ [])

-- a loop of one iteration has nothing to spawn
abbrev straight : List RunStep
straight = times 24 (work 0 ∷ []) ++ stall 0 ∷ []

abbrev run_once : RunState
run_once = run_of one_row [] 8 straight

recorded-answer : end_of run_once ≡ Some (Finished (pos 10) (w.number (pos 10) ∷ w.best (Some (pos 10, pos 1)) ∷ []))
unfolding int_wrap halvings
recorded-answer = refl

recorded-counts : tallies run_once.pieces ≡ (1, 0, 0) ∷ []
unfolding int_wrap halvings
recorded-counts = refl

-- the new record is what the elision says of the executed instance
recorded-records : made run_once.pieces ≡ record { of = n_line; args = pos 1 ∷ []; value = pos 10; contribution = w.number (pos 10) ∷ w.best (Some (pos 10, pos 1)) ∷ []; read = CellHeld n_sales (pos 1) n_qty (pos 2) ∷ CellHeld n_sales (pos 1) n_price (pos 5) ∷ []; revisions = (n_line, 0) ∷ []; height = 1 } ∷ []
unfolding int_wrap halvings
recorded-records = refl

recorded-records-elided : kept_after lines_now one_row [] ≡ record { of = n_line; args = pos 1 ∷ []; value = pos 10; contribution = w.number (pos 10) ∷ w.best (Some (pos 10, pos 1)) ∷ []; read = CellHeld n_sales (pos 1) n_qty (pos 2) ∷ CellHeld n_sales (pos 1) n_price (pos 5) ∷ []; revisions = (n_line, 0) ∷ []; height = 1 } ∷ []
unfolding all_turns elide needing int_wrap
recorded-records-elided = refl

-- the next run is answered by it
rerun-counts : tallies (run_of one_row (kept_after lines_now one_row []) 8 straight).pieces ≡ (0, 1, 0) ∷ []
unfolding all_turns elide needing int_wrap halvings
rerun-counts = refl

-- the row was put anew
edited-counts : tallies (run_of (sales (row 1 2 6 ∷ [])) (kept_after lines_now one_row []) 8 straight).pieces ≡ (1, 0, 0) ∷ []
unfolding all_turns elide needing int_wrap halvings
edited-counts = refl

-- with one kit no instance is recorded
few_kits-answer : end_of (run_of three_rows [] 1 alone) ≡ Some answer
unfolding int_wrap halvings
few_kits-answer = refl

few_kits-counts : tallies (run_of three_rows [] 1 alone).pieces ≡ (3, 0, 3) ∷ []
unfolding int_wrap halvings
few_kits-counts = refl

few_kits-records : made (run_of three_rows [] 1 alone).pieces ≡ []
unfolding int_wrap halvings
few_kits-records = refl
