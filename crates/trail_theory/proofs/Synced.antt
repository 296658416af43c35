-- Whether a sync of main stands behind each of its spawns, along the trail.
use Rattle.std.proofs.Common.{ℕ, ◌-◌, List, [], ◌∷◌, ◌++◌, Option, Some, None, Ok, Err, ℤ, ◌≡◌, refl, ap, ◌∙◌, Bool, true, false}
use Rattle.meaning.specs.Tree.{Name, Tree}
use Rattle.meaning.specs.Tables.{Tables}
use Rattle.meaning.specs.Outcome.{Log, Accumulators, Event, Fault, Outcome, Place, Reads, Enters, Updates, Reuses, Begins, Syncs, Leaves, Faults, Marks, Spawns}
use Rattle.meaning.specs.Trail.{Trace, led, child_of, after_call, past_sync, Look, mark, opening, inner, run_inside, runner}
use Rattle.meaning.specs.SmallStep.{Child, instance, half, behind}
use Rattle.meaning.specs.Statements.{proc_of}
use Rattle.meaning.specs.Elision.{depth_limit}
use Rattle.trail_theory.specs.Order.{Every}
use Rattle.trail_theory.specs.SerialRest.{child_inside}
use Rattle.trail_theory.specs.TaskFits.{SyncInside}
use Rattle.trail_theory.specs.MainReads.{synced_one, synced_after, IsSynced, IsNotMain}
use Rattle.trail_theory.proofs.Places.{every_append, no_end}
use Rattle.trail_theory.proofs.Evaluations.{Told}
use Rattle.trail_theory.proofs.Walks.{half_opens, Opens, Closed, has_loop, good_runs, has_inside}

-- not a spawn by main
abbrev pub SpawnsElsewhere : Event → Type 0
SpawnsElsewhere (Spawns []) = Unit {0}
SpawnsElsewhere (Spawns (j ∷ [])) = ⊥
SpawnsElsewhere (Spawns (i ∷ j ∷ n)) = Unit {0}
SpawnsElsewhere (Reads r) = Unit {0}
SpawnsElsewhere (Enters f args d) = Unit {0}
SpawnsElsewhere (Updates n kind w) = Unit {0}
SpawnsElsewhere (Reuses f args ws) = Unit {0}
SpawnsElsewhere (Begins n d) = Unit {0}
SpawnsElsewhere (Syncs n) = Unit {0}
SpawnsElsewhere (Leaves n v) = Unit {0}
SpawnsElsewhere (Faults k) = Unit {0}
SpawnsElsewhere (Marks f args c) = Unit {0}

-- not a sync of main
abbrev pub SyncsElsewhere : Event → Type 0
SyncsElsewhere (Syncs []) = ⊥
SyncsElsewhere (Syncs (j ∷ n)) = Unit {0}
SyncsElsewhere (Spawns n) = Unit {0}
SyncsElsewhere (Reads r) = Unit {0}
SyncsElsewhere (Enters f args d) = Unit {0}
SyncsElsewhere (Updates n kind w) = Unit {0}
SyncsElsewhere (Reuses f args ws) = Unit {0}
SyncsElsewhere (Begins n d) = Unit {0}
SyncsElsewhere (Leaves n v) = Unit {0}
SyncsElsewhere (Faults k) = Unit {0}
SyncsElsewhere (Marks f args c) = Unit {0}

pub synced_append : (b : Bool) (x y : Log) → synced_after b (x ++ y) ≡ synced_after (synced_after b x) y
synced_append b [] y = refl
synced_append b (e ∷ x) y = synced_append (synced_one b e) x y

stays_synced : (e : Event) → SpawnsElsewhere e → synced_one true e ≡ true
stays_synced (Syncs []) h = refl
stays_synced (Syncs (j ∷ n)) h = refl
stays_synced (Spawns []) h = refl
stays_synced (Spawns (j ∷ [])) h = absurd h
stays_synced (Spawns (i ∷ j ∷ n)) h = refl
stays_synced (Reads r) h = refl
stays_synced (Enters f args d) h = refl
stays_synced (Updates n kind w) h = refl
stays_synced (Reuses f args ws) h = refl
stays_synced (Begins n d) h = refl
stays_synced (Leaves n v) h = refl
stays_synced (Faults k) h = refl
stays_synced (Marks f args c) h = refl

stays_unsynced : (e : Event) → SyncsElsewhere e → synced_one false e ≡ false
stays_unsynced (Syncs []) h = absurd h
stays_unsynced (Syncs (j ∷ n)) h = refl
stays_unsynced (Spawns []) h = refl
stays_unsynced (Spawns (j ∷ [])) h = refl
stays_unsynced (Spawns (i ∷ j ∷ n)) h = refl
stays_unsynced (Reads r) h = refl
stays_unsynced (Enters f args d) h = refl
stays_unsynced (Updates n kind w) h = refl
stays_unsynced (Reuses f args ws) h = refl
stays_unsynced (Begins n d) h = refl
stays_unsynced (Leaves n v) h = refl
stays_unsynced (Faults k) h = refl
stays_unsynced (Marks f args c) h = refl

all_synced : (es : Log) → Every SpawnsElsewhere es → synced_after true es ≡ true
all_synced [] h = refl
all_synced (e ∷ es) h = ap (λ b. synced_after b es) (stays_synced e h.0) ∙ all_synced es h.1

pub all_unsynced : (es : Log) → Every SyncsElsewhere es → synced_after false es ≡ false
all_unsynced [] h = refl
all_unsynced (e ∷ es) h = ap (λ b. synced_after b es) (stays_unsynced e h.0) ∙ all_unsynced es h.1

pub still_synced : (done es : Log) → Every SpawnsElsewhere es → IsSynced done → IsSynced (done ++ es)
still_synced done es h s = synced_append true done es ∙ ap (λ b. synced_after b es) s ∙ all_synced es h

pub still_unsynced : (done es : Log) → Every SyncsElsewhere es → synced_after true done ≡ false → synced_after true (done ++ es) ≡ false
still_unsynced done es h s = synced_append true done es ∙ ap (λ b. synced_after b es) s ∙ all_unsynced es h

-- a sync of main
pub synced_now : (done : Log) (n : Place) → n ≡ [] → IsSynced (done ++ Syncs n ∷ [])
synced_now done [] e = synced_append true done (Syncs [] ∷ [])
synced_now done (j ∷ n) e = absurd cc

-- a spawn of main
pub unsynced_now : (done : Log) (n : Place) (c : ℕ) → n ≡ [] → synced_after true (done ++ Spawns (child_of n c) ∷ []) ≡ false
unsynced_now done [] c e = synced_append true done (Spawns (c ∷ []) ∷ [])
unsynced_now done (j ∷ n) c e = absurd cc

-- ---- what isn't main's

pub not_main : (n : Place) (c : ℕ) → IsNotMain (child_of n c)
not_main [] c e = cc
not_main (j ∷ n) c e = cc

pub spawned_elsewhere : (n : Place) (c : ℕ) → IsNotMain n → SpawnsElsewhere (Spawns (child_of n c))
spawned_elsewhere [] c h = absurd (h refl)
spawned_elsewhere (i ∷ []) c h = tt
spawned_elsewhere (i ∷ j ∷ n) c h = tt

synced_elsewhere : (n : Place) → IsNotMain n → SyncsElsewhere (Syncs n)
synced_elsewhere [] h = absurd (h refl)
synced_elsewhere (j ∷ n) h = tt

abbrev pub IsElsewhere : Event → Type 0
IsElsewhere e = SpawnsElsewhere e × SyncsElsewhere e

pub told_elsewhere : (es : Log) → Every Told es → Every IsElsewhere es
told_elsewhere [] h = tt
told_elsewhere (Reads r ∷ es) h = ((tt, tt), told_elsewhere es h.1)
told_elsewhere (Updates n kind w ∷ es) h = ((tt, tt), told_elsewhere es h.1)
told_elsewhere (Enters f args d ∷ es) h = absurd h.0
told_elsewhere (Reuses f args ws ∷ es) h = absurd h.0
told_elsewhere (Begins n d ∷ es) h = absurd h.0
told_elsewhere (Syncs n ∷ es) h = absurd h.0
told_elsewhere (Leaves n v ∷ es) h = absurd h.0
told_elsewhere (Faults k ∷ es) h = absurd h.0
told_elsewhere (Marks f args c ∷ es) h = absurd h.0
told_elsewhere (Spawns n ∷ es) h = absurd h.0

pub opens_elsewhere : (es : Log) → Every Opens es → Every IsElsewhere es
opens_elsewhere [] h = tt
opens_elsewhere (Begins n d ∷ es) h = ((tt, tt), opens_elsewhere es h.1)
opens_elsewhere (Marks f args c ∷ es) h = ((tt, tt), opens_elsewhere es h.1)
opens_elsewhere (Enters f args d ∷ es) h = ((tt, tt), opens_elsewhere es h.1)
opens_elsewhere (Reads r ∷ es) h = absurd h.0
opens_elsewhere (Updates n kind w ∷ es) h = absurd h.0
opens_elsewhere (Reuses f args ws ∷ es) h = absurd h.0
opens_elsewhere (Syncs n ∷ es) h = absurd h.0
opens_elsewhere (Leaves n v ∷ es) h = absurd h.0
opens_elsewhere (Faults k ∷ es) h = absurd h.0
opens_elsewhere (Spawns n ∷ es) h = absurd h.0

pub no_spawns : (es : Log) → Every IsElsewhere es → Every SpawnsElsewhere es
no_spawns [] h = tt
no_spawns (e ∷ es) h = (h.0.0, no_spawns es h.1)

pub no_syncs : (es : Log) → Every IsElsewhere es → Every SyncsElsewhere es
no_syncs [] h = tt
no_syncs (e ∷ es) h = (h.0.1, no_syncs es h.1)

-- ---- an instance that isn't main

abbrev Elsewhere : Place → ℕ → Option Fault → Trace → Type 0
Elsewhere n c doom r = IsNotMain n → Every IsElsewhere r.events

abbrev ElsewhereRun : Place → Trace → Type 0
ElsewhereRun n r = IsNotMain n → Every IsElsewhere r.events

elsewhere_call : (n : Place) (c : ℕ) (doom : Option Fault) (es : Log) (o : Outcome) (next : ℤ → Trace) → Every IsElsewhere es → ((v : ℤ) → Every IsElsewhere (next v).events) → Every IsElsewhere (after_call doom (record { events = es; outcome = o }) next).events
elsewhere_call n c doom es (Ok v) next h g = every_append IsElsewhere es (next v).events h (g v)
elsewhere_call n c doom es (Err k) next h g = every_append IsElsewhere es [] h tt

elsewhere_sync : (n : Place) (doom : Option Fault) (r : Trace) → IsNotMain n → Every IsElsewhere r.events → Every IsElsewhere (led (Syncs n ∷ []) (past_sync doom r)).events
elsewhere_sync n None r m h = ((tt, synced_elsewhere n m), h)
elsewhere_sync n (Some k) r m h = ((tt, synced_elsewhere n m), tt)

elsewhere : Closed Elsewhere ElsewhereRun
elsewhere =
    record {
      stops = λ n c doom k m. ((tt, tt), tt);
      overs = λ n c doom v m. ((tt, synced_elsewhere n m), tt);
      leds = λ n c doom es r t h m. every_append IsElsewhere es r.events (told_elsewhere es t) (h m);
      calls = λ n c doom r next h g m. elsewhere_call n c doom r.events r.outcome next (h (not_main n c)) (λ v. g v m);
      spawns = λ n c doom r next h g m. ((spawned_elsewhere n c m, tt), every_append IsElsewhere r.events (next r.outcome).events (h (not_main n c)) (g m));
      syncs = λ n c doom r h m. elsewhere_sync n doom r m (h m);
      closes = λ n ops r t h m. every_append IsElsewhere ops (r.events ++ Leaves n r.outcome ∷ []) (opens_elsewhere ops t) (every_append IsElsewhere r.events (Leaves n r.outcome ∷ []) (h m) ((tt, tt), tt));
    }

pub inside_elsewhere : (program : Tree) (tables : Tables) (sight : Accumulators) (left : ℕ) (look : Look) (f : Name) (vs : List ℤ) (n : Place) → IsNotMain n → Every IsElsewhere (run_inside program tables sight (runner program tables sight left look) left f vs n).events
inside_elsewhere program tables sight left look f vs n m = has_inside Elsewhere ElsewhereRun elsewhere program tables sight left look f vs n m

pub opening_elsewhere : (program : Tree) (look : Look) (left : ℕ) (f : Name) (vs : List ℤ) (n : Place) → Every IsElsewhere (opening program look left f vs n)
opening_elsewhere program look left f vs n = ((tt, tt), marks look (proc_of program f).memo)
  where
    marks : (look : Look) (memo : Bool) → Every IsElsewhere (mark look f vs (depth_limit - left) memo ++ Enters f vs (depth_limit - left) ∷ [])
    marks None memo = ((tt, tt), tt)
    marks (Some l) false = ((tt, tt), tt)
    marks (Some l) true = ((tt, tt), ((tt, tt), tt))

-- a child that isn't main
pub child_elsewhere : (program : Tree) (tables : Tables) (sight : Accumulators) (look : Look) (left : ℕ) (child : Child) (n : Place) → IsNotMain n → Every IsElsewhere (child_inside program tables sight look left child n).events
child_elsewhere program tables sight look left (instance f vs) n m = every_append IsElsewhere (opening program look left f vs n) _ (opening_elsewhere program look left f vs n) (inside_elsewhere program tables sight left (inner program look left f vs) f vs n m)
child_elsewhere program tables sight look left (half k job count i) n m =
    ((tt, tt), has_loop (Every Opens) Elsewhere ElsewhereRun elsewhere half_opens program tables sight (runner program tables sight left look) (good_runs Elsewhere ElsewhereRun elsewhere program tables sight left look) left k job count i n 1 None m)

-- inside a strand that begins behind a child of main there is no sync of main
pub inside_syncs : (k : ℕ) (es : Log) → Every (SyncInside (behind [] k)) es → Every SyncsElsewhere es
inside_syncs k [] h = tt
inside_syncs k (Syncs [] ∷ es) h = absurd (no_end [] h.0.child h.0.path h.0.is)
inside_syncs k (Syncs (j ∷ n) ∷ es) h = (tt, inside_syncs k es h.1)
inside_syncs k (Spawns n ∷ es) h = (tt, inside_syncs k es h.1)
inside_syncs k (Reads r ∷ es) h = (tt, inside_syncs k es h.1)
inside_syncs k (Enters f args d ∷ es) h = (tt, inside_syncs k es h.1)
inside_syncs k (Updates n kind w ∷ es) h = (tt, inside_syncs k es h.1)
inside_syncs k (Reuses f args ws ∷ es) h = (tt, inside_syncs k es h.1)
inside_syncs k (Begins n d ∷ es) h = (tt, inside_syncs k es h.1)
inside_syncs k (Leaves n v ∷ es) h = (tt, inside_syncs k es h.1)
inside_syncs k (Faults j ∷ es) h = absurd h.0
inside_syncs k (Marks f args c ∷ es) h = (tt, inside_syncs k es h.1)
