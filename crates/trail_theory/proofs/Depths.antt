-- No instance of an elision that ends without a fault is too deep.
use Rattle.std.proofs.Common.{ℕ, suc, ◌-◌, ◌≤◌, List, [], ◌∷◌, ◌++◌, Option, Some, None, Ok, Err, ℤ, ◌≡◌, sym, ap, ◌∙◌, subst, arith, true, false, Bool}
use Rattle.meaning.specs.Tree.{Name, Tree}
use Rattle.meaning.specs.Tables.{Tables}
use Rattle.meaning.specs.Outcome.{Log, Accumulators, Event, Fault, Outcome, Place, Out, Reads, Enters, Updates, Reuses, Begins, Syncs, Leaves, Faults, Marks, Spawns}
use Rattle.meaning.specs.Statements.{proc_of, fresh}
use Rattle.meaning.specs.Elision.{elide, deepest, start, depth_limit}
use Rattle.meaning.specs.Trail.{Trace, led, past_sync, after_call, Look, mark, opening, inner, runner, run}
use Rattle.trail_theory.specs.Order.{Every}
use Rattle.trail_theory.specs.ElisionBeside.{forgotten, Fits}
use Rattle.trail_theory.specs.ReadsAtEnd.{IsOther, ReadsAtMainsEnd}
use Rattle.trail_theory.proofs.Places.{every_append}
use Rattle.trail_theory.proofs.Evaluations.{Told}
use Rattle.trail_theory.proofs.Walks.{ClosedBy, GoodRuns, runs_by, has_blocks}
use Rattle.trail_theory.proofs.MainElides.{other_fits}

abbrev IsAbove : Event → Type 0
IsAbove (Reads r) = Unit {0}
IsAbove (Enters f args d) = d ≤ depth_limit
IsAbove (Updates n kind w) = Unit {0}
IsAbove (Reuses f args ws) = Unit {0}
IsAbove (Begins n d) = Unit {0}
IsAbove (Syncs n) = Unit {0}
IsAbove (Spawns n) = Unit {0}
IsAbove (Leaves n v) = Unit {0}
IsAbove (Faults k) = Unit {0}
IsAbove (Marks f args b) = Unit {0}

told_above : (es : Log) → Every Told es → Every IsAbove es
told_above [] h = tt
told_above (Reads r ∷ es) h = (tt, told_above es h.1)
told_above (Updates n kind w ∷ es) h = (tt, told_above es h.1)
told_above (Enters f args d ∷ es) h = absurd h.0
told_above (Reuses f args ws ∷ es) h = absurd h.0
told_above (Begins n d ∷ es) h = absurd h.0
told_above (Syncs n ∷ es) h = absurd h.0
told_above (Spawns n ∷ es) h = absurd h.0
told_above (Leaves n v ∷ es) h = absurd h.0
told_above (Faults k ∷ es) h = absurd h.0
told_above (Marks f args c ∷ es) h = absurd h.0

abbrev Above : Trace → Type 0
Above r = Every IsAbove r.events

above_call : (doom : Option Fault) (es : Log) (o : Outcome) (next : ℤ → Trace) → Every IsAbove es → ((v : ℤ) → Above (next v)) → Above (after_call doom (record { events = es; outcome = o }) next)
above_call doom es (Ok v) next h k = every_append IsAbove es (next v).events h (k v)
above_call doom es (Err j) next h k = every_append IsAbove es [] h tt

above_sync : (n : Place) (doom : Option Fault) (r : Trace) → Above r → Above (led (Syncs n ∷ []) (past_sync doom r))
above_sync n None r h = (tt, h)
above_sync n (Some k) r h = (tt, tt)

above : ClosedBy (Every IsAbove) (λ n c d r. Above r) (λ n r. Above r)
above =
    record {
      stops = λ n c doom k. (tt, tt);
      overs = λ n c doom v. (tt, tt);
      leds = λ n c doom es r t h. every_append IsAbove es r.events (told_above es t) h;
      calls = λ n c doom r next h k. above_call doom r.events r.outcome next h k;
      spawns = λ n c doom r next h k. (tt, every_append IsAbove r.events (next r.outcome).events h k);
      syncs = λ n c doom r h. above_sync n doom r h;
      closes = λ n ops r t h. every_append IsAbove ops (r.events ++ Leaves n r.outcome ∷ []) t (every_append IsAbove r.events (Leaves n r.outcome ∷ []) h (tt, tt));
    }

above_half : (n : Place) (d : ℕ) → Every IsAbove (Begins n d ∷ [])
above_half n d = (tt, tt)

above_opening : (program : Tree) (look : Look) (left : ℕ) (f : Name) (vs : List ℤ) (n : Place) → Every IsAbove (opening program look left f vs n)
above_opening program look left f vs n = (tt, marks look (proc_of program f).memo)
  where
    marks : (look : Look) (memo : Bool) → Every IsAbove (mark look f vs (depth_limit - left) memo ++ Enters f vs (depth_limit - left) ∷ [])
    marks None memo = (omega arith, tt)
    marks (Some l) false = (omega arith, tt)
    marks (Some l) true = (tt, (omega arith, tt))

above_runs : (program : Tree) (tables : Tables) (sight : Accumulators) (left : ℕ) (look : Look) → GoodRuns (Every IsAbove) _ _ above above_half program tables sight (runner program tables sight left look)
above_runs program tables sight left look = runs_by (Every IsAbove) _ _ above above_half program tables sight (λ k. Unit {0}) (λ left k f vs n e. (above_opening program k left f vs n, tt)) left look tt

above_run : (program : Tree) (tables : Tables) (sight : Accumulators) (left : ℕ) (look : Look) (f : Name) (vs : List ℤ) (n : Place) → Above (run program tables sight left look f vs n)
above_run program tables sight left look f vs n =
    above.closes n (opening program look left f vs n) _ (above_opening program look left f vs n)
    (has_blocks (Every IsAbove) _ _ above above_half program tables sight (runner program tables sight left (inner program look left f vs)) (above_runs program tables sight left (inner program look left f vs)) left n (proc_of program f).called ((proc_of program f).body ∷ []) (fresh (proc_of program f).names vs) 1 None)

deepest_above : (es : Log) → Every IsAbove es → deepest (forgotten es) ≤ depth_limit
deepest_above [] h = omega arith
deepest_above (Reads r ∷ es) h = deepest_above es h.1
deepest_above (Enters f args d ∷ es) h = let a : d ≤ depth_limit = h.0 in let b : deepest (forgotten es) ≤ depth_limit = deepest_above es h.1 in omega arith
deepest_above (Updates n kind w ∷ es) h = deepest_above es h.1
deepest_above (Reuses f args ws ∷ es) h = deepest_above es h.1
deepest_above (Begins n d ∷ es) h = deepest_above es h.1
deepest_above (Syncs n ∷ es) h = deepest_above es h.1
deepest_above (Spawns n ∷ es) h = deepest_above es h.1
deepest_above (Leaves n v ∷ es) h = deepest_above es h.1
deepest_above (Faults k ∷ es) h = deepest_above es h.1
deepest_above (Marks f args c ∷ es) h = deepest_above es h.1

fits_above : (o : Out Fault ℤ) (es : Log) (w : Outcome) (v : ℤ) → Fits o es w → o.answer ≡ Ok v → Every IsAbove es → deepest o.log ≤ depth_limit
fits_above o es (Ok u) v h e k = subst (λ l. deepest l ≤ depth_limit) (sym (ap (λ x. x.log) h.0)) (deepest_above es k)
fits_above o es (Err j) v h e k = absurd (let q = sym e ∙ h.0 in cc)

pub other_depth : (program : Tree) (tables : Tables) (sight : Accumulators) → ReadsAtMainsEnd program → (left : ℕ) (f : Name) → IsOther f → (vs : List ℤ) (acc : Accumulators) (v : ℤ) → (elide program tables (suc left) start f vs acc).answer ≡ Ok v → deepest (elide program tables (suc left) start f vs acc).log ≤ depth_limit
other_depth program tables sight ruled left f other vs acc v e =
    let r = run program tables sight left None f vs [] in
    fits_above (elide program tables (suc left) start f vs acc) r.events r.outcome v (other_fits program tables sight ruled left None start f other vs [] acc) e (above_run program tables sight left None f vs [])
