-- On the trail no instance leaves with a fault before there is one.
use Rattle.std.proofs.Common.{◌-◌, ℕ, suc, [], ◌∷◌, ◌++◌, Option, Some, None, Ok, Err, ℤ, ◌≡◌, inl, inr, refl, sym, ◌∙◌}
use Rattle.meaning.specs.Tree.{Tree}
use Rattle.meaning.specs.Tables.{Tables}
use Rattle.meaning.specs.Outcome.{Log, Accumulators, Fault, Outcome, Place, Reads, Enters, Updates, Reuses, Begins, Syncs, Leaves, Faults, Marks, Spawns}
use Rattle.meaning.specs.Statements.{beginning}
use Rattle.meaning.specs.Elision.{main, depth_limit}
use Rattle.meaning.specs.Trail.{Trace, led, child_of, doom_after, after_call, after_spawn, past_sync, over, closed, Look, run, trail_at}
use Rattle.trail_theory.specs.Order.{Every}
use Rattle.trail_theory.specs.ElisionBeside.{first_fault}
use Rattle.trail_theory.proofs.Evaluations.{Told}
use Rattle.trail_theory.proofs.Beginnings.{beginning_told}
use Rattle.trail_theory.proofs.FirstFaults.{or_else, fault_append}
use Rattle.trail_theory.proofs.Walks.{Opens, Closed, has_run}
use Rattle.run_theory.proofs.Hands.{IsSpared}

abbrev Blames : Log → Type 0
Blames [] = Unit {0}
Blames (Faults k ∷ es) = Unit {0}
Blames (Leaves n (Ok v) ∷ es) = Blames es
Blames (Leaves n (Err k) ∷ es) = ⊥
Blames (Reads r ∷ es) = Blames es
Blames (Enters f args d ∷ es) = Blames es
Blames (Updates n kind w ∷ es) = Blames es
Blames (Reuses f args ws ∷ es) = Blames es
Blames (Begins n d ∷ es) = Blames es
Blames (Syncs n ∷ es) = Blames es
Blames (Spawns n ∷ es) = Blames es
Blames (Marks f args b ∷ es) = Blames es

blames_append : (a b : Log) → Blames a → (first_fault a ≡ None → Blames b) → Blames (a ++ b)
blames_append [] b h k = k refl
blames_append (Faults j ∷ a) b h k = tt
blames_append (Leaves n (Ok v) ∷ a) b h k = blames_append a b h k
blames_append (Leaves n (Err j) ∷ a) b h k = absurd h
blames_append (Reads r ∷ a) b h k = blames_append a b h k
blames_append (Enters f args d ∷ a) b h k = blames_append a b h k
blames_append (Updates n kind w ∷ a) b h k = blames_append a b h k
blames_append (Reuses f args ws ∷ a) b h k = blames_append a b h k
blames_append (Begins n d ∷ a) b h k = blames_append a b h k
blames_append (Syncs n ∷ a) b h k = blames_append a b h k
blames_append (Spawns n ∷ a) b h k = blames_append a b h k
blames_append (Marks f args c ∷ a) b h k = blames_append a b h k

told_blames : (es : Log) → Every Told es → Blames es
told_blames [] h = tt
told_blames (Reads r ∷ es) h = told_blames es h.1
told_blames (Updates n kind w ∷ es) h = told_blames es h.1
told_blames (Enters f args d ∷ es) h = absurd h.0
told_blames (Reuses f args ws ∷ es) h = absurd h.0
told_blames (Begins n d ∷ es) h = absurd h.0
told_blames (Syncs n ∷ es) h = absurd h.0
told_blames (Spawns n ∷ es) h = absurd h.0
told_blames (Leaves n v ∷ es) h = absurd h.0
told_blames (Faults k ∷ es) h = absurd h.0
told_blames (Marks f args c ∷ es) h = absurd h.0

opens_blames : (es : Log) → Every Opens es → Blames es
opens_blames [] h = tt
opens_blames (Begins n d ∷ es) h = opens_blames es h.1
opens_blames (Marks f args b ∷ es) h = opens_blames es h.1
opens_blames (Enters f args d ∷ es) h = opens_blames es h.1
opens_blames (Reads r ∷ es) h = absurd h.0
opens_blames (Updates n kind w ∷ es) h = absurd h.0
opens_blames (Reuses f args ws ∷ es) h = absurd h.0
opens_blames (Syncs n ∷ es) h = absurd h.0
opens_blames (Spawns n ∷ es) h = absurd h.0
opens_blames (Leaves n v ∷ es) h = absurd h.0
opens_blames (Faults k ∷ es) h = absurd h.0

else_none : (x y : Option Fault) → or_else x y ≡ None → (x ≡ None) × (y ≡ None)
else_none None y e = (refl, e)
else_none (Some k) y e = absurd cc

none_both : (a b : Log) → first_fault (a ++ b) ≡ None → (first_fault a ≡ None) × (first_fault b ≡ None)
none_both a b e = else_none (first_fault a) (first_fault b) (sym (fault_append a b) ∙ e)

-- it ends with a fault only where it has one
abbrev Owns : Log → Outcome → Type 0
Owns es (Ok v) = Unit {0}
Owns es (Err k) = first_fault es ≡ None → ⊥

abbrev Blamed : Place → ℕ → Option Fault → Trace → Type 0
Blamed n c doom r = Blames r.events × (doom ≡ None → Owns r.events r.outcome)

abbrev BlamedRun : Place → Trace → Type 0
BlamedRun n r = Blames r.events × Owns r.events r.outcome

owns_led : (a es : Log) (o : Outcome) → Owns es o → Owns (a ++ es) o
owns_led a es (Ok v) h = tt
owns_led a es (Err k) h = λ e. h (none_both a es e).1

owns_front : (a es : Log) (o : Outcome) → (first_fault a ≡ None → ⊥) → Owns (a ++ es) o
owns_front a es (Ok v) h = tt
owns_front a es (Err k) h = λ e. h (none_both a es e).0

blame_over : (n : Place) (c : ℕ) (doom : Option Fault) (v : ℤ) → Blamed n c doom (over n doom v)
blame_over n c None v = (tt, λ e. tt)
blame_over n c (Some k) v = (tt, λ e. absurd cc)

blame_call : (n : Place) (c : ℕ) (doom : Option Fault) (es : Log) (o : Outcome) (next : ℤ → Trace) → BlamedRun (child_of n c) (record { events = es; outcome = o }) → ((v : ℤ) → Blamed n (suc c) doom (next v)) → Blamed n c doom (after_call doom (record { events = es; outcome = o }) next)
blame_call n c doom es (Ok v) next h g = (blames_append es (next v).events h.0 (λ z. (g v).0), λ e. owns_led es (next v).events (next v).outcome ((g v).1 e))
blame_call n c doom es (Err k) next h g = (blames_append es [] h.0 (λ z. tt), λ e. λ z. h.1 (none_both es [] z).0)

blame_spawn : (n : Place) (c : ℕ) (doom : Option Fault) (es : Log) (o : Outcome) (next : Outcome → Trace) → BlamedRun (child_of n c) (record { events = es; outcome = o }) → Blamed n (suc c) (doom_after doom o) (next o) → Blamed n c doom (after_spawn (child_of n c) (record { events = es; outcome = o }) next)
blame_spawn n c doom es (Ok v) next h g = (blames_append es (next (Ok v)).events h.0 (λ z. g.0), λ e. owns_led es (next (Ok v)).events (next (Ok v)).outcome (g.1 e))
blame_spawn n c doom es (Err k) next h g = (blames_append es (next (Err k)).events h.0 (λ z. g.0), λ e. owns_front es (next (Err k)).events (next (Err k)).outcome h.1)

blame_sync : (n : Place) (c : ℕ) (doom : Option Fault) (r : Trace) → Blamed n c None r → Blamed n c doom (led (Syncs n ∷ []) (past_sync doom r))
blame_sync n c None r h = (h.0, λ e. owns_led (Syncs n ∷ []) r.events r.outcome (h.1 refl))
blame_sync n c (Some k) r h = (tt, λ e. absurd cc)

blame_end : (n : Place) (es : Log) (o : Outcome) → Blames es → Owns es o → BlamedRun n (record { events = es ++ Leaves n o ∷ []; outcome = o })
blame_end n es (Ok v) h g = (blames_append es (Leaves n (Ok v) ∷ []) h (λ z. tt), tt)
blame_end n es (Err k) h g = (blames_append es (Leaves n (Err k) ∷ []) h (λ z. absurd (g z)), owns_front es (Leaves n (Err k) ∷ []) (Err k) g)

blame_closed : (n : Place) (ops : Log) (r : Trace) → Every Opens ops → Blamed n 1 None r → BlamedRun n (closed ops n r)
blame_closed n ops r t h =
    let e = blame_end n r.events r.outcome h.0 (h.1 refl) in
    (blames_append ops (r.events ++ Leaves n r.outcome ∷ []) (opens_blames ops t) (λ z. e.0), owns_led ops (r.events ++ Leaves n r.outcome ∷ []) r.outcome e.1)

blame : Closed Blamed BlamedRun
blame =
    record {
      stops = λ n c doom k. (tt, λ e. λ z. cc);
      overs = blame_over;
      leds = λ n c doom es r t h. (blames_append es r.events (told_blames es t) (λ z. h.0), λ e. owns_led es r.events r.outcome (h.1 e));
      calls = λ n c doom r next h g. blame_call n c doom r.events r.outcome next h g;
      spawns = λ n c doom r next h g. blame_spawn n c doom r.events r.outcome next h g;
      syncs = blame_sync;
      closes = blame_closed;
    }

blames_spare : (a b : Log) → Blames (a ++ b) → first_fault a ≡ None → IsSpared a
blames_spare [] b h q c k i = i
blames_spare (Faults j ∷ a) b h q c k i = absurd cc
blames_spare (Leaves n (Err j) ∷ a) b h q c k i = absurd h
blames_spare (Leaves n (Ok v) ∷ a) b h q c k (inl e) = absurd cc
blames_spare (Leaves n (Ok v) ∷ a) b h q c k (inr i) = blames_spare a b h q c k i
blames_spare (Reads r ∷ a) b h q c k (inl e) = absurd cc
blames_spare (Reads r ∷ a) b h q c k (inr i) = blames_spare a b h q c k i
blames_spare (Enters f args d ∷ a) b h q c k (inl e) = absurd cc
blames_spare (Enters f args d ∷ a) b h q c k (inr i) = blames_spare a b h q c k i
blames_spare (Updates n kind w ∷ a) b h q c k (inl e) = absurd cc
blames_spare (Updates n kind w ∷ a) b h q c k (inr i) = blames_spare a b h q c k i
blames_spare (Reuses f args ws ∷ a) b h q c k (inl e) = absurd cc
blames_spare (Reuses f args ws ∷ a) b h q c k (inr i) = blames_spare a b h q c k i
blames_spare (Begins n d ∷ a) b h q c k (inl e) = absurd cc
blames_spare (Begins n d ∷ a) b h q c k (inr i) = blames_spare a b h q c k i
blames_spare (Syncs n ∷ a) b h q c k (inl e) = absurd cc
blames_spare (Syncs n ∷ a) b h q c k (inr i) = blames_spare a b h q c k i
blames_spare (Spawns n ∷ a) b h q c k (inl e) = absurd cc
blames_spare (Spawns n ∷ a) b h q c k (inr i) = blames_spare a b h q c k i
blames_spare (Marks f args x ∷ a) b h q c k (inl e) = absurd cc
blames_spare (Marks f args x ∷ a) b h q c k (inr i) = blames_spare a b h q c k i

pub spared_before : (program : Tree) (tables : Tables) (sight : Accumulators) (look : Look) (a b : Log) → a ++ b ≡ trail_at program tables sight look → first_fault a ≡ None → IsSpared a
spared_before program tables sight look a b e q =
    let es = (run program tables sight (depth_limit - 1) look main [] []).events in
    let whole : Blames (trail_at program tables sight look) = blames_append (beginning program) es (told_blames (beginning program) (beginning_told program)) (λ z. (has_run Blamed BlamedRun blame program tables sight (depth_limit - 1) look main [] []).0) in
    blames_spare a b (rw e whole) q
