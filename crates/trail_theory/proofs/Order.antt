-- The trail's instances are left in the order of their names.
use Rattle.std.proofs.Common.{◌-◌, ℕ, suc, ◌<◌, ◌≤◌, [], ◌∷◌, ◌++◌, Option, Some, None, Ok, Err, ℤ, ◌≡◌, inl, inr, ⊎_elim, refl, sym, ap₂, ◌∙◌, arith, append_assoc, append-nil}
use Rattle.meaning.specs.Tree.{Tree}
use Rattle.meaning.specs.Tables.{Tables}
use Rattle.meaning.specs.Outcome.{Log, Accumulators, Fault, Outcome, Place, Event, Reads, Enters, Updates, Reuses, Begins, Syncs, Leaves, Faults, Marks, Spawns}
use Rattle.meaning.specs.Statements.{beginning}
use Rattle.meaning.specs.Trail.{Trace, led, child_of, after_call, past_sync, Look, run, trail_at}
use Rattle.meaning.specs.Elision.{main, depth_limit}
use Rattle.trail_theory.specs.Order.{In, Every, LeavesBefore, AllLater, LeavesInOrder}
use Rattle.trail_theory.proofs.Places.{in_append, in_left, in_right, every_in, order_strict, order_later, order_inner}
use Rattle.trail_theory.proofs.Evaluations.{Told}
use Rattle.trail_theory.proofs.Beginnings.{beginning_told}
use Rattle.trail_theory.proofs.Walks.{Opens, Closed, has_run}

pub ordered_append : (a b : Log) → LeavesInOrder a → LeavesInOrder b → ((p : Place) (v : Outcome) → In (Leaves p v) a → AllLater p b) → LeavesInOrder (a ++ b)
ordered_append [] b h k x = k
ordered_append (Reads r ∷ a) b h k x = ordered_append a b h k (λ p v i. x p v (inr i))
ordered_append (Enters f args d ∷ a) b h k x = ordered_append a b h k (λ p v i. x p v (inr i))
ordered_append (Updates n kind w ∷ a) b h k x = ordered_append a b h k (λ p v i. x p v (inr i))
ordered_append (Reuses f args ws ∷ a) b h k x = ordered_append a b h k (λ p v i. x p v (inr i))
ordered_append (Begins n d ∷ a) b h k x = ordered_append a b h k (λ p v i. x p v (inr i))
ordered_append (Syncs n ∷ a) b h k x = ordered_append a b h k (λ p v i. x p v (inr i))
ordered_append (Spawns n ∷ a) b h k x = ordered_append a b h k (λ p v i. x p v (inr i))
ordered_append (Faults j ∷ a) b h k x = ordered_append a b h k (λ p v i. x p v (inr i))
ordered_append (Marks f args c ∷ a) b h k x = ordered_append a b h k (λ p v i. x p v (inr i))
ordered_append (Leaves n w ∷ a) b h k x =
    (λ c v i. ⊎_elim (λ j. h.0 c v j) (λ j. x n w (inl refl) c v j) (in_append (Leaves c v) a b i), ordered_append a b h.1 k (λ p v i. x p v (inr i)))

pub ordered_tail : (e : Event) (es : Log) → LeavesInOrder (e ∷ es) → LeavesInOrder es
ordered_tail (Reads r) es h = h
ordered_tail (Enters f args d) es h = h
ordered_tail (Updates n kind w) es h = h
ordered_tail (Reuses f args ws) es h = h
ordered_tail (Begins n d) es h = h
ordered_tail (Syncs n) es h = h
ordered_tail (Spawns n) es h = h
ordered_tail (Faults j) es h = h
ordered_tail (Marks f args c) es h = h
ordered_tail (Leaves n w) es h = h.1

-- what leaves behind a leaving
leaves_head : (e : Event) (es : Log) (p : Place) (v : Outcome) → LeavesInOrder (e ∷ es) → Leaves p v ≡ e → AllLater p es
leaves_head (Leaves n w) es p v h q = let r : p ≡ n = cc in rw r h.0
leaves_head (Reads r) es p v h q = absurd cc
leaves_head (Enters f args d) es p v h q = absurd cc
leaves_head (Updates n kind w) es p v h q = absurd cc
leaves_head (Reuses f args ws) es p v h q = absurd cc
leaves_head (Begins n d) es p v h q = absurd cc
leaves_head (Syncs n) es p v h q = absurd cc
leaves_head (Spawns n) es p v h q = absurd cc
leaves_head (Faults j) es p v h q = absurd cc
leaves_head (Marks f args c) es p v h q = absurd cc

pub ordered_across : (a b : Log) (p : Place) (v : Outcome) → LeavesInOrder (a ++ b) → In (Leaves p v) a → AllLater p b
ordered_across [] b p v h i = absurd i
ordered_across (e ∷ a) b p v h (inl q) = λ c u i. leaves_head e (a ++ b) p v h q c u (in_right (Leaves c u) a b i)
ordered_across (e ∷ a) b p v h (inr i) = ordered_across a b p v (ordered_tail e (a ++ b) h) i

pub ordered_front : (a b : Log) → LeavesInOrder (a ++ b) → LeavesInOrder a
ordered_front [] b h = tt
ordered_front (Reads r ∷ a) b h = ordered_front a b h
ordered_front (Enters f args d ∷ a) b h = ordered_front a b h
ordered_front (Updates n kind w ∷ a) b h = ordered_front a b h
ordered_front (Reuses f args ws ∷ a) b h = ordered_front a b h
ordered_front (Begins n d ∷ a) b h = ordered_front a b h
ordered_front (Syncs n ∷ a) b h = ordered_front a b h
ordered_front (Spawns n ∷ a) b h = ordered_front a b h
ordered_front (Faults j ∷ a) b h = ordered_front a b h
ordered_front (Marks f args c ∷ a) b h = ordered_front a b h
ordered_front (Leaves n w ∷ a) b h = (λ c v i. h.0 c v (in_left (Leaves c v) a b i), ordered_front a b h.1)

-- where one instance's leaving stands, the stretches are the same
pub record SameSplit (a b a' b' : Log) (v v' : Outcome) : Type 0 where
  pub sooner : a ≡ a'
  pub value : v ≡ v'
  pub later : b ≡ b'

pub same_split : (p : Place) (a b a' b' : Log) (v v' : Outcome) → LeavesInOrder (a ++ Leaves p v ∷ b) → LeavesInOrder (a' ++ Leaves p v' ∷ b') → a ++ Leaves p v ∷ b ≡ a' ++ Leaves p v' ∷ b' → SameSplit a b a' b' v v'
same_split p [] b [] b' v v' h k e = record { sooner = refl; value = cc; later = cc }
same_split p [] b (x ∷ a') b' v v' h k e =
    let q : Leaves p v ≡ x = cc in
    absurd (order_strict p (ordered_across (x ∷ a') (Leaves p v' ∷ b') p v k (inl q) p v' (inl refl)))
same_split p (x ∷ a) b [] b' v v' h k e =
    let q : Leaves p v' ≡ x = cc in
    absurd (order_strict p (ordered_across (x ∷ a) (Leaves p v ∷ b) p v' h (inl q) p v (inl refl)))
same_split p (x ∷ a) b (y ∷ a') b' v v' h k e =
    let q : x ≡ y = cc in
    let t : a ++ Leaves p v ∷ b ≡ a' ++ Leaves p v' ∷ b' = cc in
    let s = same_split p a b a' b' v v' (ordered_tail x _ h) (ordered_tail y _ k) t in
    record { sooner = ap₂ ◌∷◌ q s.sooner; value = s.value; later = s.later }

-- events that leave nothing
told_leaves : (c : Place) (v : Outcome) (es : Log) → Every Told es → In (Leaves c v) es → ⊥
told_leaves c v es h i = every_in Told (Leaves c v) es h i

opens_leaves : (c : Place) (v : Outcome) (es : Log) → Every Opens es → In (Leaves c v) es → ⊥
opens_leaves c v es h i = every_in Opens (Leaves c v) es h i

none_ordered : (es : Log) → ((c : Place) (v : Outcome) → In (Leaves c v) es → ⊥) → LeavesInOrder es
none_ordered [] h = tt
none_ordered (Reads r ∷ a) h = none_ordered a (λ c v i. h c v (inr i))
none_ordered (Enters f args d ∷ a) h = none_ordered a (λ c v i. h c v (inr i))
none_ordered (Updates n kind w ∷ a) h = none_ordered a (λ c v i. h c v (inr i))
none_ordered (Reuses f args ws ∷ a) h = none_ordered a (λ c v i. h c v (inr i))
none_ordered (Begins n d ∷ a) h = none_ordered a (λ c v i. h c v (inr i))
none_ordered (Syncs n ∷ a) h = none_ordered a (λ c v i. h c v (inr i))
none_ordered (Spawns n ∷ a) h = none_ordered a (λ c v i. h c v (inr i))
none_ordered (Faults j ∷ a) h = none_ordered a (λ c v i. h c v (inr i))
none_ordered (Marks f args b ∷ a) h = none_ordered a (λ c v i. h c v (inr i))
none_ordered (Leaves n w ∷ a) h = absurd (h n w (inl refl))

-- the names that a walk leaves
record Within (n c : Place) : Type 0 where
  path : Place
  is : c ≡ n ++ path

record Inside (n : Place) (k : ℕ) (c : Place) : Type 0 where
  child : ℕ
  path : Place
  from : k ≤ child
  is : c ≡ n ++ child ∷ path

inside_further : (n : Place) (k : ℕ) (c : Place) → Inside n (suc k) c → Inside n k c
inside_further n k c h = record { child = h.child; path = h.path; from = let f : suc k ≤ h.child = h.from in omega arith; is = h.is }

within_inside : (n : Place) (k : ℕ) (c : Place) → Within (child_of n k) c → Inside n k c
within_inside n k c h = record { child = k; path = h.path; from = omega arith; is = h.is ∙ append_assoc n (k ∷ []) h.path }

record TidyAt (n : Place) (k : ℕ) (es : Log) : Type 0 where
  inside : (c : Place) (v : Outcome) → In (Leaves c v) es → Inside n k c
  ordered : LeavesInOrder es

record TidyRun (n : Place) (es : Log) : Type 0 where
  within : (c : Place) (v : Outcome) → In (Leaves c v) es → Within n c
  ordered : LeavesInOrder es

tidy_none : (n : Place) (k : ℕ) (es : Log) → ((c : Place) (v : Outcome) → In (Leaves c v) es → ⊥) → TidyAt n k es
tidy_none n k es h = record { inside = λ c v i. absurd (h c v i); ordered = none_ordered es h }

tidy_led : (n : Place) (k : ℕ) (a b : Log) → ((c : Place) (v : Outcome) → In (Leaves c v) a → ⊥) → TidyAt n k b → TidyAt n k (a ++ b)
tidy_led n k a b h t =
    record {
      inside = λ c v i. ⊎_elim (λ j. absurd (h c v j)) (λ j. t.inside c v j) (in_append (Leaves c v) a b i);
      ordered = ordered_append a b (none_ordered a h) t.ordered (λ p v i. absurd (h p v i));
    }

-- a child, and then the rest
tidy_child : (n : Place) (k : ℕ) (a b : Log) → TidyRun (child_of n k) a → TidyAt n (suc k) b → TidyAt n k (a ++ b)
tidy_child n k a b h g =
    record {
      inside = λ c v i. ⊎_elim (λ j. within_inside n k c (h.within c v j)) (λ j. inside_further n k c (g.inside c v j)) (in_append (Leaves c v) a b i);
      ordered = ordered_append a b h.ordered g.ordered (λ p v i c w j.
          let w' = h.within p v i in
          let z = g.inside c w j in
          let l : k < z.child = z.from in
          let pe : p ≡ n ++ k ∷ w'.path = w'.is ∙ append_assoc n (k ∷ []) w'.path in
          rw (pe, z.is) (order_later n k z.child w'.path z.path l));
    }

sync_leaves : (n c : Place) (v : Outcome) → In (Leaves c v) (Syncs n ∷ []) → ⊥
sync_leaves n c v i = ⊎_elim (λ e. cc) (λ z. z) i

spawn_leaves : (n c : Place) (v : Outcome) → In (Leaves c v) (Spawns n ∷ []) → ⊥
spawn_leaves n c v i = ⊎_elim (λ e. cc) (λ z. z) i

stop_leaves : (k : Fault) (c : Place) (v : Outcome) → In (Leaves c v) (Faults k ∷ []) → ⊥
stop_leaves k c v i = ⊎_elim (λ e. cc) (λ z. z) i

tidy_call : (n : Place) (c : ℕ) (doom : Option Fault) (es : Log) (o : Outcome) (next : ℤ → Trace) → TidyRun (child_of n c) es → ((v : ℤ) → TidyAt n (suc c) (next v).events) → TidyAt n c (after_call doom (record { events = es; outcome = o }) next).events
tidy_call n c doom es (Ok v) next h g = tidy_child n c es (next v).events h (g v)
tidy_call n c doom es (Err k) next h g = tidy_child n c es [] h (tidy_none n (suc c) [] (λ c v i. i))

tidy_sync : (n : Place) (c : ℕ) (doom : Option Fault) (r : Trace) → TidyAt n c r.events → TidyAt n c (led (Syncs n ∷ []) (past_sync doom r)).events
tidy_sync n c None r h = tidy_led n c (Syncs n ∷ []) r.events (sync_leaves n) h
tidy_sync n c (Some k) r h = tidy_none n c (Syncs n ∷ []) (sync_leaves n)

closed_tidy : (n : Place) (es : Log) (o : Outcome) → TidyAt n 1 es → TidyRun n (es ++ Leaves n o ∷ [])
closed_tidy n es o h =
    record {
      within = λ c v i. elim (in_append (Leaves c v) es (Leaves n o ∷ []) i) [
        | inl j ↦ let a = h.inside c v j in record { path = a.child ∷ a.path; is = a.is }
        | inr (inl e) ↦ record { path = []; is = let q : c ≡ n = cc in q ∙ sym (append-nil n) }
        | inr (inr z) ↦ absurd z
      ];
      ordered = ordered_append es (Leaves n o ∷ []) h.ordered (λ c v z. absurd z, tt) (λ p v i c w j.
          let a = h.inside p v i in
          elim j as (λ j. LeavesBefore p c) [ inl e ↦ (let q : c ≡ n = cc in rw (q, a.is) (order_inner n a.child a.path)) | inr z ↦ absurd z ]);
    }

run_led : (n : Place) (a b : Log) → ((c : Place) (v : Outcome) → In (Leaves c v) a → ⊥) → TidyRun n b → TidyRun n (a ++ b)
run_led n a b h t =
    record {
      within = λ c v i. ⊎_elim (λ j. absurd (h c v j)) (λ j. t.within c v j) (in_append (Leaves c v) a b i);
      ordered = ordered_append a b (none_ordered a h) t.ordered (λ p v i. absurd (h p v i));
    }

abbrev Tidy : Place → ℕ → Option Fault → Trace → Type 0
Tidy n c doom r = TidyAt n c r.events

abbrev TidyTrace : Place → Trace → Type 0
TidyTrace n r = TidyRun n r.events

tidy : Closed Tidy TidyTrace
tidy =
    record {
      stops = λ n c doom k. tidy_none n c (Faults k ∷ []) (stop_leaves k);
      overs = λ n c doom v. tidy_none n c (Syncs n ∷ []) (sync_leaves n);
      leds = λ n c doom es r t h. tidy_led n c es r.events (λ p v i. told_leaves p v es t i) h;
      calls = λ n c doom r next h g. tidy_call n c doom r.events r.outcome next h g;
      spawns = λ n c doom r next h g. tidy_child n c (Spawns (child_of n c) ∷ r.events) (next r.outcome).events (run_led (child_of n c) (Spawns (child_of n c) ∷ []) r.events (spawn_leaves (child_of n c)) h) g;
      syncs = tidy_sync;
      closes = λ n ops r t h. run_led n ops (r.events ++ Leaves n r.outcome ∷ []) (λ p v i. opens_leaves p v ops t i) (closed_tidy n r.events r.outcome h);
    }

pub trail_ordered : (program : Tree) (tables : Tables) (sight : Accumulators) (look : Look) → LeavesInOrder (trail_at program tables sight look)
trail_ordered program tables sight look =
    (run_led [] (beginning program) (run program tables sight (depth_limit - 1) look main [] []).events (λ p v i. told_leaves p v (beginning program) (beginning_told program) i) (has_run Tidy TidyTrace tidy program tables sight (depth_limit - 1) look main [] [])).ordered
