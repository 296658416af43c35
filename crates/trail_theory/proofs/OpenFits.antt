-- The open layers beside the trail: they fit as the top layer grows, as one opens, and as the top one closes.
use Rattle.std.proofs.Common.{ℕ, suc, cond, ap₂, ◌-◌, List, [], ◌∷◌, ◌++◌, Option, Some, None, ℤ, ◌≡◌, refl, sym, ap, ◌∙◌, append_assoc, map, true, false, Bool}
use Rattle.meaning.specs.Tree.{Name, Tree}
use Rattle.meaning.specs.Tables.{Tables, is_there}
use Rattle.meaning.specs.Outcome.{Log, Accumulators, Place, Reads, Enters, Updates, Reuses, Begins, Syncs, Leaves, Faults, Marks, Spawns}
use Rattle.meaning.specs.Values.{Env}
use Rattle.meaning.specs.Statements.{proc_of, fresh}
use Rattle.meaning.specs.Elision.{depth_limit}
use Rattle.meaning.specs.Trail.{Look, answers, within, mark, opening, inner, run_inside, runner, run}
use Rattle.meaning.specs.SmallStep.{slot, instance, Phase, entering, running, spawning, returning, leaving, broken, Parent, first_todo, opened, with_layer, Lookup, look_of}
use Rattle.meaning.specs.Layers.{ahead_of_entry}
use Rattle.meaning.specs.Tallies.{Opened, Tally, executions, passed_all}
use Rattle.trail_theory.specs.Counts.{reuses}
use Rattle.trail_theory.specs.Order.{Every}
use Rattle.trail_theory.specs.SerialRest.{Beside, below}
use Rattle.trail_theory.specs.TaskFits.{SlotFits, same, EnvFits}
use Rattle.trail_theory.specs.Right.{full_rest, IsRecorded}
use Rattle.trail_theory.specs.OpenLayers.{OpenFit, OpenAt}
use Rattle.trail_theory.proofs.Evaluations.{Told}
use Rattle.trail_theory.proofs.Keys.{reuses_append}
use Rattle.trail_theory.proofs.Openings.{told_reuses, opening_reuses}
use Rattle.trail_theory.proofs.Advances.{grown, merged_top}

-- ---- the events of an entering

told_ahead : (es : Log) (n : Place) (d : ℕ) (more : Log) → Every Told es → ahead_of_entry (es ++ Begins n d ∷ more) ≡ es
told_ahead [] n d more h = refl
told_ahead (Reads r ∷ es) n d more h = ap (λ w. Reads r ∷ w) (told_ahead es n d more h.1)
told_ahead (Updates j kind w ∷ es) n d more h = ap (λ v. Updates j kind w ∷ v) (told_ahead es n d more h.1)
told_ahead (Enters f args e ∷ es) n d more h = absurd h.0
told_ahead (Reuses f args ws ∷ es) n d more h = absurd h.0
told_ahead (Begins p e ∷ es) n d more h = absurd h.0
told_ahead (Syncs p ∷ es) n d more h = absurd h.0
told_ahead (Spawns p ∷ es) n d more h = absurd h.0
told_ahead (Leaves p v ∷ es) n d more h = absurd h.0
told_ahead (Faults k ∷ es) n d more h = absurd h.0
told_ahead (Marks f args b ∷ es) n d more h = absurd h.0

told_executions : (es more : Log) → Every Told es → executions (es ++ more) ≡ executions more
told_executions [] more h = refl
told_executions (Reads r ∷ es) more h = told_executions es more h.1
told_executions (Updates j kind w ∷ es) more h = told_executions es more h.1
told_executions (Enters f args e ∷ es) more h = absurd h.0
told_executions (Reuses f args ws ∷ es) more h = absurd h.0
told_executions (Begins p e ∷ es) more h = absurd h.0
told_executions (Syncs p ∷ es) more h = absurd h.0
told_executions (Spawns p ∷ es) more h = absurd h.0
told_executions (Leaves p v ∷ es) more h = absurd h.0
told_executions (Faults k ∷ es) more h = absurd h.0
told_executions (Marks f args b ∷ es) more h = absurd h.0

-- an instance that is executed in the layer below opens none and records nothing
pub passed_opened : (ks : List (Name × List ℤ)) (t : Tally) → (passed_all ks t).opened ≡ t.opened
passed_opened [] t = refl
passed_opened (k ∷ ks) t = passed_opened ks _

pub passed_made : (ks : List (Name × List ℤ)) (t : Tally) → (passed_all ks t).made ≡ t.made
passed_made [] t = refl
passed_made (k ∷ ks) t = passed_made ks _

-- ---- the names of a new instance

slot_same : (B : Log) (n : Place) (W : List ℕ) (x : ℕ) (o q : Option ℤ) → SlotFits B n W x (slot o) q → q ≡ o
slot_same B n W x None q (same e) = e
slot_same B n W x (Some v) q (same e) = e

pub env_same : (B : Log) (n : Place) (W : List ℕ) (x : ℕ) (E F : Env) → EnvFits B n W x (map slot E) F → F ≡ E
env_same B n W x [] [] h = refl
env_same B n W x [] (q ∷ F) h = absurd h
env_same B n W x (o ∷ E) [] h = absurd h
env_same B n W x (o ∷ E) (q ∷ F) h = λ i. slot_same B n W x o q h.0 i ∷ env_same B n W (suc x) E F h.1 i

module _ (program : Tree) (tables : Tables) (sight : Accumulators) (lookup : Lookup) where
  abbrev L : Look
  L = look_of lookup

  abbrev Fit : Log → List Opened → List Log → Type 0
  Fit B os ss = OpenFit program tables sight lookup B os ss

  pub grown_open : (B : Log) (os : List Opened) (ss : List Log) (es : Log) → Fit B os ss → Fit B os (grown program tables sight lookup ss es)
  grown_open B [] [] es h = h
  grown_open B [] (s ∷ []) es h = tt
  grown_open B [] (s ∷ s' ∷ ss) es h = h
  grown_open B (o ∷ os) [] es h = h
  grown_open B (o ∷ os) (s ∷ ss) es h = h

  any_longer : (B : Log) (os : List Opened) (s s' : Log) (ss : List Log) → Fit B os (s ∷ ss) → Fit B os (s' ∷ ss)
  any_longer B [] s s' [] h = tt
  any_longer B [] s s' (r ∷ ss) h = h
  any_longer B (o ∷ os) s s' ss h = h

  pub merged_open : (B : Log) (o : Opened) (os : List Opened) (ss : List Log) → Fit B (o ∷ os) ss → Fit B os (merged_top program tables sight lookup ss)
  merged_open B o os [] h = absurd h
  merged_open B o [] (s ∷ []) h = absurd h.1
  merged_open B o (p ∷ os) (s ∷ []) h = absurd h.1
  merged_open B o os (s ∷ r ∷ ss) h = any_longer B os r (r ++ s) ss h.1

  pub open_any : (ph : Phase) (B : Log) (os : List Opened) (ss : List Log) → Fit B os ss → OpenAt program tables sight lookup ph B os ss
  open_any (entering child) B os ss h = h
  open_any (running todo) B os ss h = h
  open_any (spawning d x child todo) B os ss h = h
  open_any (returning v) B os ss h = h
  open_any (leaving v) B os ss h = h
  open_any (broken k) B os ss h = tt

  -- ---- an instance that no record answers

  marked : (f : Name) (vs : List ℤ) (d : ℕ) (n : Place) (memo : Bool) → memo ≡ true → lookup f vs d ≡ None → executions (Begins n d ∷ (mark L f vs d memo ++ Enters f vs d ∷ [])) ≡ (f, vs) ∷ []
  marked f vs d n false q e = absurd cc
  marked f vs d n true q e = ap (λ o. executions (Begins n d ∷ (Marks f vs (is_there o) ∷ Enters f vs d ∷ []))) e

  pub opening_executes : (es : Log) (left : ℕ) (f : Name) (vs : List ℤ) (n : Place) → Every Told es → IsRecorded program f → lookup f vs (depth_limit - left) ≡ None → executions (es ++ opening program L left f vs n) ≡ (f, vs) ∷ []
  opening_executes es left f vs n told memo e = told_executions es (opening program L left f vs n) told ∙ marked f vs (depth_limit - left) n (proc_of program f).memo memo e

  pub opening_reuses_none : (es : Log) (left : ℕ) (f : Name) (vs : List ℤ) (n : Place) → Every Told es → IsRecorded program f → lookup f vs (depth_limit - left) ≡ None → reuses (es ++ opening program L left f vs n) ≡ []
  opening_reuses_none es left f vs n told memo e =
      let d = depth_limit - left in
      reuses_append es (opening program L left f vs n) ∙ ap₂ ◌++◌ (told_reuses es told) (opening_reuses program lookup f vs d n (proc_of program f).memo None e (ap (λ c. cond c None None) memo))

  pub opening_ahead : (es : Log) (left : ℕ) (f : Name) (vs : List ℤ) (n : Place) → Every Told es → ahead_of_entry (es ++ opening program L left f vs n) ≡ es
  opening_ahead es left f vs n told = told_ahead es n (depth_limit - left) (mark L f vs (depth_limit - left) (proc_of program f).memo ++ Enters f vs (depth_limit - left) ∷ []) told

  inner_same : (left : ℕ) (f : Name) (vs : List ℤ) → IsRecorded program f → lookup f vs (depth_limit - left) ≡ None → inner program L left f vs ≡ L
  inner_same left f vs memo e = ap (λ b. within L (answers L f vs (depth_limit - left) b)) memo ∙ ap (λ o. within L (is_there o)) e

  -- the entering and what the instance and those below it still do are its run and what those do
  pub opening_goes : (left : ℕ) (f : Name) (vs : List ℤ) (n : Place) (t : List Parent) (gs : List Beside) → IsRecorded program f → lookup f vs (depth_limit - left) ≡ None
      → opening program L left f vs n ++ full_rest program tables sight lookup (with_layer true (opened program left (instance f vs) n)) (running (first_todo program (instance f vs))) t (record { env = fresh (proc_of program f).names vs; doom = None }) gs
      ≡ (run program tables sight left L f vs n).events ++ (below program tables sight L t gs (run program tables sight left L f vs n).outcome).events
  opening_goes left f vs n t gs memo e =
      let ops = opening program L left f vs n in
      let w = λ (k : Look). run_inside program tables sight (runner program tables sight left k) left f vs n in
      let parts = λ (k : Look). (ops ++ ((w k).events ++ Leaves n (w k).outcome ∷ [])) ++ (below program tables sight L t gs (w k).outcome).events in
      sym (append_assoc ops ((w L).events ++ Leaves n (w L).outcome ∷ []) (below program tables sight L t gs (w L).outcome).events) ∙ sym (ap parts (inner_same left f vs memo e))
