-- An instance that a record answers has no marks inside.
use Rattle.std.proofs.Common.{ℕ, List, [], ◌∷◌, ◌++◌, Option, Some, None, Ok, Err, ℤ, ◌≡◌, refl, sym, subst}
use Rattle.meaning.specs.Tree.{Name, Tree}
use Rattle.meaning.specs.Tables.{Tables}
use Rattle.meaning.specs.Outcome.{Log, Accumulators, Fault, Outcome, Place, Reads, Enters, Updates, Reuses, Begins, Syncs, Leaves, Faults, Marks, Spawns}
use Rattle.meaning.specs.Statements.{proc_of, fresh}
use Rattle.meaning.specs.Trail.{Trace, led, past_sync, after_call, opening, inner, run_inside, runner}
use Rattle.trail_theory.specs.Order.{Every}
use Rattle.trail_theory.proofs.Places.{every_append}
use Rattle.trail_theory.proofs.Evaluations.{Told}
use Rattle.trail_theory.proofs.Walks.{ClosedBy, runs_by, has_blocks}
use Rattle.trail_theory.proofs.Keys.{IsUnmarked}

pub told_unmarked : (es : Log) → Every Told es → Every IsUnmarked es
told_unmarked [] h = tt
told_unmarked (Reads r ∷ es) h = (tt, told_unmarked es h.1)
told_unmarked (Updates n kind w ∷ es) h = (tt, told_unmarked es h.1)
told_unmarked (Enters f args d ∷ es) h = absurd h.0
told_unmarked (Reuses f args ws ∷ es) h = absurd h.0
told_unmarked (Begins n d ∷ es) h = absurd h.0
told_unmarked (Syncs n ∷ es) h = absurd h.0
told_unmarked (Spawns n ∷ es) h = absurd h.0
told_unmarked (Leaves n v ∷ es) h = absurd h.0
told_unmarked (Faults k ∷ es) h = absurd h.0
told_unmarked (Marks f args c ∷ es) h = absurd h.0

abbrev Unmarked : Trace → Type 0
Unmarked r = Every IsUnmarked r.events

unmarked_call : (doom : Option Fault) (es : Log) (o : Outcome) (next : ℤ → Trace) → Every IsUnmarked es → ((v : ℤ) → Unmarked (next v)) → Unmarked (after_call doom (record { events = es; outcome = o }) next)
unmarked_call doom es (Ok v) next h k = every_append IsUnmarked es (next v).events h (k v)
unmarked_call doom es (Err j) next h k = every_append IsUnmarked es [] h tt

unmarked_sync : (n : Place) (doom : Option Fault) (r : Trace) → Unmarked r → Unmarked (led (Syncs n ∷ []) (past_sync doom r))
unmarked_sync n None r h = (tt, h)
unmarked_sync n (Some k) r h = (tt, tt)

unmarked : ClosedBy (Every IsUnmarked) (λ n c d r. Unmarked r) (λ n r. Unmarked r)
unmarked =
    record {
      stops = λ n c doom k. (tt, tt);
      overs = λ n c doom v. (tt, tt);
      leds = λ n c doom es r t h. every_append IsUnmarked es r.events (told_unmarked es t) h;
      calls = λ n c doom r next h k. unmarked_call doom r.events r.outcome next h k;
      spawns = λ n c doom r next h k. (tt, every_append IsUnmarked r.events (next r.outcome).events h k);
      syncs = λ n c doom r h. unmarked_sync n doom r h;
      closes = λ n ops r t h. every_append IsUnmarked ops (r.events ++ Leaves n r.outcome ∷ []) t (every_append IsUnmarked r.events (Leaves n r.outcome ∷ []) h (tt, tt));
    }

unmarked_half : (n : Place) (d : ℕ) → Every IsUnmarked (Begins n d ∷ [])
unmarked_half n d = (tt, tt)

pub unmarked_inside : (program : Tree) (tables : Tables) (sight : Accumulators) (left : ℕ) (f : Name) (vs : List ℤ) (n : Place) → Unmarked (run_inside program tables sight (runner program tables sight left None) left f vs n)
unmarked_inside program tables sight left f vs n =
    let good = runs_by (Every IsUnmarked) _ _ unmarked unmarked_half program tables sight (λ k. k ≡ None) (λ left k f vs n e. (subst (λ k. Every IsUnmarked (opening program k left f vs n)) (sym e) (tt, (tt, tt)), subst (λ k. inner program k left f vs ≡ None) (sym e) refl)) left None refl in
    has_blocks (Every IsUnmarked) _ _ unmarked unmarked_half program tables sight (runner program tables sight left None) good left n (proc_of program f).called ((proc_of program f).body ∷ []) (fresh (proc_of program f).names vs) 1 None
