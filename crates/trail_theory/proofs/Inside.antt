-- What has no fault above the entry stands above the entry; an instance with a fault to answer answers it.
use Rattle.std.proofs.Common.{ℕ, suc, List, [], ◌∷◌, ◌++◌, Option, Some, None, Ok, Err, ℤ, ◌≡◌, refl, ap}
use Rattle.meaning.specs.Tree.{Name, Tree}
use Rattle.meaning.specs.Tables.{Tables}
use Rattle.meaning.specs.Outcome.{Log, Accumulators, Fault, Outcome, Place, Reads, Enters, Updates, Reuses, Begins, Syncs, Leaves, Faults, Marks, Spawns}
use Rattle.meaning.specs.Trail.{Trace, led, child_of, first, doom_after, after_call, after_spawn, past_sync, over, closed, Look, run_inside, runner}
use Rattle.meaning.specs.SmallStep.{Start}
use Rattle.trail_theory.specs.Order.{Every}
use Rattle.trail_theory.specs.TaskFits.{Higher, SyncInside}
use Rattle.trail_theory.proofs.Places.{every_append, higher_child}
use Rattle.trail_theory.proofs.Evaluations.{told_inside}
use Rattle.trail_theory.proofs.Walks.{Opens, Closed, has_inside}

opens_inside : (m : Start) (es : Log) → Every Opens es → Every (SyncInside m) es
opens_inside m [] h = tt
opens_inside m (Begins n d ∷ es) h = (tt, opens_inside m es h.1)
opens_inside m (Marks f args b ∷ es) h = (tt, opens_inside m es h.1)
opens_inside m (Enters f args d ∷ es) h = (tt, opens_inside m es h.1)
opens_inside m (Reads r ∷ es) h = absurd h.0
opens_inside m (Updates n kind w ∷ es) h = absurd h.0
opens_inside m (Reuses f args ws ∷ es) h = absurd h.0
opens_inside m (Syncs n ∷ es) h = absurd h.0
opens_inside m (Spawns n ∷ es) h = absurd h.0
opens_inside m (Leaves n v ∷ es) h = absurd h.0
opens_inside m (Faults k ∷ es) h = absurd h.0

module _ (m : Start) where
  abbrev Above : Place → ℕ → Option Fault → Trace → Type 0
  Above n c doom r = Higher m n → (v : ℤ) → r.outcome ≡ Ok v → (doom ≡ None) × Every (SyncInside m) r.events

  abbrev AboveRun : Place → Trace → Type 0
  AboveRun n r = Higher m n → (v : ℤ) → r.outcome ≡ Ok v → Every (SyncInside m) r.events

  above_over : (n : Place) (c : ℕ) (doom : Option Fault) (v : ℤ) → Above n c doom (over n doom v)
  above_over n c None v h w e = (refl, (h, tt))
  above_over n c (Some k) v h w e = absurd cc

  above_call : (n : Place) (c : ℕ) (doom : Option Fault) (es : Log) (o : Outcome) (next : ℤ → Trace) → AboveRun (child_of n c) (record { events = es; outcome = o }) → ((v : ℤ) → Above n (suc c) doom (next v)) → Above n c doom (after_call doom (record { events = es; outcome = o }) next)
  above_call n c doom es (Ok w) next a b h v e = let q = b w h v e in (q.0, every_append (SyncInside m) es (next w).events (a (higher_child m n c h) w refl) q.1)
  above_call n c doom es (Err k) next a b h v e = absurd cc

  above_spawn : (n : Place) (c : ℕ) (doom : Option Fault) (es : Log) (o : Outcome) (next : Outcome → Trace) → AboveRun (child_of n c) (record { events = es; outcome = o }) → Above n (suc c) (doom_after doom o) (next o) → Above n c doom (after_spawn (child_of n c) (record { events = es; outcome = o }) next)
  above_spawn n c doom es (Ok w) next a b h v e = let q = b h v e in (q.0, (tt, every_append (SyncInside m) es (next (Ok w)).events (a (higher_child m n c h) w refl) q.1))
  above_spawn n c doom es (Err k) next a b h v e = let q = (b h v e).0 in absurd cc

  above_sync : (n : Place) (c : ℕ) (doom : Option Fault) (r : Trace) → Above n c None r → Above n c doom (led (Syncs n ∷ []) (past_sync doom r))
  above_sync n c None r a h v e = (refl, (h, (a h v e).1))
  above_sync n c (Some k) r a h v e = absurd cc

  above_closed : (n : Place) (ops es : Log) (o : Outcome) → Every Opens ops → Above n 1 None (record { events = es; outcome = o }) → AboveRun n (closed ops n (record { events = es; outcome = o }))
  above_closed n ops es (Ok w) k a h v e = every_append (SyncInside m) ops (es ++ Leaves n (Ok w) ∷ []) (opens_inside m ops k) (every_append (SyncInside m) es (Leaves n (Ok w) ∷ []) (a h w refl).1 (tt, tt))
  above_closed n ops es (Err j) k a h v e = absurd cc

  above : Closed Above AboveRun
  above =
      record {
        stops = λ n c doom k h v e. absurd cc;
        overs = above_over;
        leds = λ n c doom es r t a h v e. let q = a h v e in (q.0, every_append (SyncInside m) es r.events (told_inside m es t) q.1);
        calls = λ n c doom r next a b. above_call n c doom r.events r.outcome next a b;
        spawns = λ n c doom r next a b. above_spawn n c doom r.events r.outcome next a b;
        syncs = above_sync;
        closes = λ n ops r k a. above_closed n ops r.events r.outcome k a;
      }

pub inside_calm : (program : Tree) (tables : Tables) (sight : Accumulators) (m : Start) (k : Look) (left : ℕ) (f : Name) (vs : List ℤ) (n : Place) → Higher m n → (v : ℤ) → (run_inside program tables sight (runner program tables sight left k) left f vs n).outcome ≡ Ok v
    → Every (SyncInside m) (run_inside program tables sight (runner program tables sight left k) left f vs n).events
inside_calm program tables sight m k left f vs n h v e = (has_inside (Above m) (AboveRun m) (above m) program tables sight left k f vs n h v e).1

-- an instance with a fault to answer answers it
abbrev Doomed : Place → ℕ → Option Fault → Trace → Type 0
Doomed n c doom r = (k : Fault) → doom ≡ Some k → r.outcome ≡ Err k

abbrev AnyRun : Place → Trace → Type 0
AnyRun n r = Unit {0}

doomed_first : (doom : Option Fault) (j k : Fault) → doom ≡ Some k → first doom j ≡ k
doomed_first None j k e = absurd cc
doomed_first (Some i) j k e = cc

doomed_over : (n : Place) (c : ℕ) (doom : Option Fault) (v : ℤ) → Doomed n c doom (over n doom v)
doomed_over n c None v k e = absurd cc
doomed_over n c (Some i) v k e = let q : i ≡ k = cc in ap Err q

doomed_call : (n : Place) (c : ℕ) (doom : Option Fault) (es : Log) (o : Outcome) (next : ℤ → Trace) → ((v : ℤ) → Doomed n (suc c) doom (next v)) → Doomed n c doom (after_call doom (record { events = es; outcome = o }) next)
doomed_call n c doom es (Ok v) next h k e = h v k e
doomed_call n c doom es (Err j) next h k e = ap Err (doomed_first doom j k e)

still_doomed : (doom : Option Fault) (o : Outcome) (k : Fault) → doom ≡ Some k → doom_after doom o ≡ Some k
still_doomed doom (Ok v) k e = e
still_doomed doom (Err j) k e = ap Some (doomed_first doom j k e)

doomed_sync : (n : Place) (c : ℕ) (doom : Option Fault) (r : Trace) → Doomed n c doom (led (Syncs n ∷ []) (past_sync doom r))
doomed_sync n c None r k e = absurd cc
doomed_sync n c (Some i) r k e = let q : i ≡ k = cc in ap Err q

pub doomed : Closed Doomed AnyRun
doomed =
    record {
      stops = λ n c doom j k e. ap Err (doomed_first doom j k e);
      overs = doomed_over;
      leds = λ n c doom es r t h. h;
      calls = λ n c doom r next h g. doomed_call n c doom r.events r.outcome next g;
      spawns = λ n c doom r next h g k e. g k (still_doomed doom r.outcome k e);
      syncs = λ n c doom r h. doomed_sync n c doom r;
      closes = λ n ops r t h. tt;
    }
