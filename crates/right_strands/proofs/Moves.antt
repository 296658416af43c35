-- What is taken out of a right strand and put back is right.
use Rattle.std.proofs.Common.{◌≡◌, ◌⊎◌, inl, inr, ℕ, suc, ◌+◌, ◌-◌, ℤ, Bool, false, List, [], ◌∷◌, ◌++◌, length, Option, Some, None, refl, sym, ap, ◌∙◌, subst, arith}
use Rattle.std.specs.Prelude.{pos}
use Rattle.std.proofs.lemmas.List.{length-append}
use Rattle.monoid_laws.specs.declared.Kind.{Kind}
use Rattle.meaning.specs.Tables.{Tables}
use Rattle.meaning.specs.Records.{Kept}
use Rattle.meaning.specs.Trail.{child_of}
use Rattle.meaning.specs.SmallStep.{Frame, Child, Todo, spawning, leaving, Parent, place_of_continuation}
use Rattle.meaning.specs.Tallies.{no_tally}
use Rattle.meaning.specs.LayeredStrand.{inlined, detached, continuation, resumed, stolen}
use Rattle.linked_program.specs.declared.code.Code.{Code}
use Rattle.linked_program.specs.Checked.{PlainChecked}
use Rattle.input_tables.specs.Edited.{Edited}
use Rattle.record_theory.specs.Record.{PlainRecord}
use Rattle.positions.specs.declared.phase.Phase.{Phase}
use Rattle.positions.specs.declared.phase.Phase.TheVariants.{Entering, Running, AtSpawn, Returning, Leaving, Broken}
use Rattle.positions.specs.declared.start.Start.{Start}
use Rattle.positions.specs.declared.start.Start.TheVariants.{Behind}
use Rattle.positions.specs.Activations.{PlainActivation}
use Rattle.positions.specs.Layers.{PlainLayer}
use Rattle.positions.specs.Setting.{Setting, setting_with}
use Rattle.positions.specs.Strands.{PlainStrand, PlainTask, shorter}
use Rattle.positions.specs.Nesting.{AreNested, NestAt}
use Rattle.positions.specs.Moves as moves
use Rattle.positions.specs.Stands.{AreParents, StandsAt, IsStart, IsAt}
use Rattle.positions.specs.Simulation.{IsInlined, IsDetached, IsResumed, IsStolen}
use Rattle.position_theory.proofs.Nested.{nest_any, nest_none}
use Rattle.position_theory.proofs.Moves.{inlined_is}
use Rattle.right_strands.specs.Picked.{IsSet}
use Rattle.right_strands.specs.Remembering.{recalling}
use Rattle.right_strands.specs.Rightness.{Pushed, FitsHere, IsSound, IsRightBy, IsRightTaskBy, IsRightTask, IsHeld, WasDetached}
use Rattle.right_strands.proofs.Starts.{start_same, start_tight}
use Rattle.right_strands.proofs.Layered.{none_opened}
use Rattle.right_strands.proofs.Owned.{stolen_own, inlined_own, detached_own, continuation_own, popped_own}
use Rattle.right_strands.proofs.Recorded.{inlined_recorded, detached_recorded, popped_recorded, stolen_recorded}
use Rattle.right_strands.proofs.Settings.{set_with}

-- on with a continuation, all layers are of instances around
resumed_nests : (codes : List Code) (task : PlainTask) (s : PlainStrand) (o : Option ℤ) → AreNested codes s.tally.opened → NestAt codes (moves.resumed_by o task s).phase (moves.resumed_by o task s)
resumed_nests codes task s None h = nest_any codes s.phase s h
resumed_nests codes task s (Some v) h = nest_any codes Running (moves.resumed_by (Some v) task s) h

module _ (setting : Setting) where
  -- ---- at a spawn

  pub record Spawns (s : PlainStrand) : Type 0 where
    pub sound : IsSound setting s
    pub depth : ℕ
    pub into : Option ℕ
    pub child : Child
    pub todo : Todo
    pub phase : sound.named.phase ≡ spawning depth into child todo
    pub instance : sound.named.frame.instance ≡ shorter s.path
    pub long : length s.path ≡ suc (length (shorter s.path))

  spawns_at : (s : PlainStrand) (h : IsSound setting s) (below : List PlainActivation) → StandsAt setting AtSpawn below s h.named → Spawns s
  spawns_at s h [] n = absurd n
  spawns_at s h (a ∷ below) n =
      let e : length s.path ≡ length (shorter s.path) + 1 = ap length n.named ∙ length-append (shorter s.path) (a.children ∷ []) in
      record {
        sound = h;
        depth = s.top.left;
        into = a.into;
        child = n.child;
        todo = n.todo;
        phase = n.phase;
        instance = ap (λ (fr : Frame). fr.instance) n.frame;
        long = omega arith;
      }

  spawns : (s : PlainStrand) → s.phase ≡ AtSpawn → IsRightBy setting s → Spawns s
  spawns s e (inl w) = spawns_at s w s.below (subst (λ ph. StandsAt setting ph s.below s w.named) e w.stands.now)
  spawns s e (inr c) = absurd (let q : AtSpawn ≡ Broken c.fault = sym e ∙ c.phase in cc)

  -- ---- a child that has returned

  none_under : (path : List ℕ) (below : List PlainActivation) (under : List Parent) → below ≡ [] → AreParents setting path below under → under ≡ []
  none_under path [] [] e h = refl
  none_under path [] (p ∷ under) e h = absurd h
  none_under path (a ∷ below) under e h = absurd cc

  -- the continuation waits for the child of its place
  place_is : (k : Pushed) (h : IsRightTaskBy setting k) → place_of_continuation h.named ≡ k.task.place
  place_is k h =
      ap (λ (fr : Frame). child_of fr.instance h.named.child) h.stands.parent.frame
      ∙ ap (child_of (shorter k.task.place)) h.stands.child ∙ sym h.stands.parent.named

  -- ---- moves

  pub inlined_right : (s : PlainStrand) → s.phase ≡ AtSpawn → IsInlined setting s (moves.inlined s) → IsRightBy setting s → IsRightBy setting (moves.inlined s)
  inlined_right s e f h =
      let p = spawns s e h in
      let w = p.sound in
      inl (record {
        named = inlined setting.program.tree w.named p.depth p.into p.child p.todo;
        tally = w.tally;
        stands = f w.named w.tally p.depth p.into p.child p.todo w.stands p.phase;
        nests = subst (λ ph. NestAt setting.codes ph s) e w.nests;
        owns = inlined_own setting w.named w.tally p.depth p.into p.child p.todo p.phase w.owns;
        recorded = inlined_recorded setting w.named w.tally w.owns w.recorded p.depth p.into p.child p.todo p.phase (inlined_own setting w.named w.tally p.depth p.into p.child p.todo p.phase w.owns);
      })

  pub detached_right : (s : PlainStrand) (task : PlainTask) → s.phase ≡ AtSpawn → IsDetached setting s (moves.detached s) task → IsRightBy setting s → IsRightBy setting (moves.detached s)
  detached_right s task e f h =
      let p = spawns s e h in
      let w = p.sound in
      inl (record {
        named = detached setting.program.tree w.named p.depth p.child;
        tally = w.tally;
        stands = (f w.named w.tally p.depth p.into p.child p.todo w.stands p.phase).0;
        nests = subst (λ ph. NestAt setting.codes ph s) e w.nests;
        owns = detached_own setting w.named w.tally p.depth p.into p.child p.todo p.phase w.owns;
        recorded = detached_recorded setting w.named w.tally w.owns w.recorded p.depth p.into p.child p.todo p.phase (detached_own setting w.named w.tally p.depth p.into p.child p.todo p.phase w.owns);
      })

  pub task_right : (s : PlainStrand) (task : PlainTask) → s.phase ≡ AtSpawn → task.place ≡ s.path → IsDetached setting s (moves.detached s) task → IsRightBy setting s → IsRightTaskBy setting (record { task = task; since = s.start })
  task_right s task e at f h =
      let p = spawns s e h in
      let w = p.sound in
      let x = w.named in
      let right = continuation_own setting x w.tally p.depth p.into p.child p.todo p.phase w.owns in
      let began : IsStart s.start AtSpawn s.path x.start = subst (λ ph. IsStart s.start ph s.path x.start) e w.stands.start in
      let long : length s.path ≡ suc (length x.frame.instance) = p.long ∙ ap (λ n. suc (length n)) (sym p.instance) in
      record {
        named = continuation x p.into p.todo;
        stands = (f x w.tally p.depth p.into p.child p.todo w.stands p.phase).1;
        since = subst (λ path. IsStart s.start (Leaving (pos 0)) path x.start) (sym at) (start_tight s.start s.path x.start x.frame.instance x.frame.next long right.0.spot began);
        right = right;
      }

  -- ---- a strand of a stolen continuation

  pub stolen_right : (k : Pushed) (s : PlainStrand) → IsStolen setting k.task s → IsRightTaskBy setting k → IsRightBy setting s
  stolen_right k s f h = inl (record {
    named = stolen setting.program.tree h.named;
    tally = no_tally;
    stands = f h.named h.stands;
    nests = nest_none setting.codes s.phase s (none_opened setting s.tally.opened (f h.named h.stands).tally.opened);
    owns = stolen_own setting h.named h.right;
    recorded = stolen_recorded setting h.named h.right (stolen_own setting h.named h.right);
  })

  -- ---- on with the continuation that waits

  module _ (s : PlainStrand) (k : Pushed) (fits : FitsHere s k) (f : IsResumed setting k.task s (moves.resumed k.task s)) (task : IsRightTaskBy setting k) where
    popped : (v : ℤ) (w : IsSound setting s) → IsAt setting (leaving v) s.path s.top s.below w.named → s.phase ≡ Leaving v → s.below ≡ [] → IsSound setting (moves.resumed k.task s)
    popped v w n ph none =
        let x = w.named in
        let under : x.under ≡ [] = none_under s.path s.below x.under none n.under in
        let began : IsStart k.since (Leaving v) k.task.place x.start =
        subst (λ path. IsStart k.since (Leaving v) path x.start) fits.1 (subst (λ st. IsStart st (Leaving v) s.path x.start) fits.0 (subst (λ p. IsStart s.start p s.path x.start) ph w.stands.start)) in
        let since = start_same k.since (Leaving v) (Leaving (pos 0)) k.task.place x.start task.named.since began task.since in
        let place = ap (λ (fr : Frame). fr.instance) n.frame ∙ fits.1 ∙ sym (place_is k task) in
        let owns = popped_own setting x w.tally task.named v n.phase under since place w.owns task.right in
        record {
          named = resumed setting.program.tree x task.named v;
          tally = w.tally;
          stands = f x w.tally task.named v fits.1 w.stands task.stands n.phase under;
          nests = resumed_nests setting.codes k.task s (moves.returned_of s) (subst (λ q. NestAt setting.codes q s) ph w.nests);
          owns = owns;
          recorded = popped_recorded setting x w.tally w.owns w.recorded task.named v n.phase under since place task.right owns;
        }

    -- what becomes of it by what it does next
    resumed_by : (ph : Phase) (below : List PlainActivation) (path : List ℕ) → s.phase ≡ ph → s.below ≡ below → s.path ≡ path → (moves.resumed k.task s ≡ s) ⊎ ((v : ℤ) × (ph ≡ Leaving v) × (below ≡ []))
    resumed_by (Leaving v) [] (a ∷ n) e b p = inr (v, refl, refl)
    resumed_by (Leaving v) [] [] e b p = inl (ap (λ o. moves.resumed_by o k.task s) (ap (λ q. moves.returned_at q s.below s.path) e ∙ ap (λ q. moves.returned_at (Leaving v) q s.path) b ∙ ap (moves.returned_at (Leaving v) []) p))
    resumed_by (Leaving v) (a ∷ below) path e b p = inl (ap (λ o. moves.resumed_by o k.task s) (ap (λ q. moves.returned_at q s.below s.path) e ∙ ap (λ q. moves.returned_at (Leaving v) q s.path) b))
    resumed_by Entering below path e b p = inl (ap (λ o. moves.resumed_by o k.task s) (ap (λ q. moves.returned_at q s.below s.path) e))
    resumed_by Running below path e b p = inl (ap (λ o. moves.resumed_by o k.task s) (ap (λ q. moves.returned_at q s.below s.path) e))
    resumed_by AtSpawn below path e b p = inl (ap (λ o. moves.resumed_by o k.task s) (ap (λ q. moves.returned_at q s.below s.path) e))
    resumed_by (Returning v) below path e b p = inl (ap (λ o. moves.resumed_by o k.task s) (ap (λ q. moves.returned_at q s.below s.path) e))
    resumed_by (Broken v) below path e b p = inl (ap (λ o. moves.resumed_by o k.task s) (ap (λ q. moves.returned_at q s.below s.path) e))

    resumed_fits : (ph : Phase) → s.phase ≡ ph → (v : ℤ) → ph ≡ Leaving v → s.below ≡ [] → IsRightBy setting s → IsRightBy setting (moves.resumed k.task s)
    resumed_fits ph e v p none (inl w) = inl (popped v w (subst (λ ph. StandsAt setting ph s.below s w.named) (e ∙ p) w.stands.now) (e ∙ p) none)
    resumed_fits ph e v p none (inr c) = absurd (let q : Leaving v ≡ Broken c.fault = sym (e ∙ p) ∙ c.phase in cc)

    pub resumed_right : IsRightBy setting s → IsRightBy setting (moves.resumed k.task s)
    resumed_right h = elim (resumed_by s.phase s.below s.path refl refl refl) [
      | inl same ↦ subst (IsRightBy setting) (sym same) h
      | inr r ↦ resumed_fits s.phase refl r.0 r.1 r.2 h
    ]

-- ---- the same, as the code has them

module _ (task : PlainTask) (s : PlainStrand) where
  start_resumed : (o : Option ℤ) → (moves.resumed_by o task s).start ≡ s.start
  start_resumed None = refl
  start_resumed (Some v) = refl

  layer_resumed : (o : Option ℤ) → (moves.resumed_by o task s).layer ≡ s.layer
  layer_resumed None = refl
  layer_resumed (Some v) = refl

detached_as : (setting : Setting) (s s' : PlainStrand) (task : PlainTask) → s' ≡ moves.detached s → ((i : Setting) → IsDetached i s s' task) → IsDetached setting s (moves.detached s) task
detached_as setting s s' task is f = subst (λ s'. IsDetached setting s s' task) is (f setting)

module _ (setting : Setting) where
  pub inlined_kept : (start : Start) (failed : Bool) (s s' : PlainStrand) → s.phase ≡ AtSpawn → s' ≡ moves.inlined s → ((i : Setting) → IsInlined i s s') → IsHeld setting start failed s → IsHeld setting start failed s'
  inlined_kept start failed s s' e is f h = record {
    kinds = ap (λ (s : PlainStrand). s.layer.kinds) is ∙ h.kinds;
    right = λ n k. subst (IsRightBy (recalling setting k)) (sym is) (inlined_right (recalling setting k) s e (subst (IsInlined (recalling setting k) s) is (f (recalling setting k))) (h.right n k));
    begins = λ n. h.begins n ∙ ap (λ (s : PlainStrand). s.start) (sym is);
  }

  pub detached_kept : (start : Start) (failed : Bool) (s s' : PlainStrand) (task : PlainTask) → s.phase ≡ AtSpawn → s' ≡ moves.detached s → ((i : Setting) → IsDetached i s s' task) → IsHeld setting start failed s → IsHeld setting start failed s'
  detached_kept start failed s s' task e is f h = record {
    kinds = ap (λ (s : PlainStrand). s.layer.kinds) is ∙ h.kinds;
    right = λ n k. subst (IsRightBy (recalling setting k)) (sym is) (detached_right (recalling setting k) s task e (detached_as (recalling setting k) s s' task is f) (h.right n k));
    begins = λ n. h.begins n ∙ ap (λ (s : PlainStrand). s.start) (sym is);
  }

  pub task_kept : (start : Start) (failed : Bool) (s s' : PlainStrand) (task : PlainTask) → failed ≡ false → s.phase ≡ AtSpawn → task.place ≡ s.path → s' ≡ moves.detached s → ((i : Setting) → IsDetached i s s' task) → IsHeld setting start failed s
      → IsRightTask setting (record { task = task; since = start })
  task_kept start failed s s' task n e at is f h k =
      subst (λ since. IsRightTaskBy (recalling setting k) (record { task = task; since = since })) (sym (h.begins n)) (task_right (recalling setting k) s task e at (detached_as (recalling setting k) s s' task is f) (h.right n k))

  pub was_detached : (start : Start) (failed : Bool) (s s' : PlainStrand) (task : PlainTask) → failed ≡ false → s.phase ≡ AtSpawn → s.below ≡ task.top ∷ task.below → s' ≡ moves.detached s → IsHeld setting start failed s → WasDetached setting (record { task = task; since = start }) s'
  was_detached start failed s s' task n e b is h = record { old = s; right = h.right n; phase = e; below = b; is = is }

  pub attached_kept : (start : Start) (failed : Bool) (now s s' : PlainStrand) (k : Pushed) (task : PlainTask) (since : Start) → s ≡ now → record { task = task; since = since } ≡ k → WasDetached setting k now → s' ≡ moves.attached task s → IsHeld setting start failed s → IsHeld setting start failed s'
  attached_kept start failed now s s' k task since same t was is h =
      let i : task ≡ k.task = ap (λ (k : Pushed). k.task) t in
      let e : s' ≡ moves.inlined was.old =
      is ∙ ap (λ task. moves.attached task s) i ∙ ap (moves.attached k.task) (same ∙ was.is) ∙ ap (λ below. record was.old { below = below; phase = Entering }) (sym was.below) in
      record {
        kinds = ap (λ (s : PlainStrand). s.layer.kinds) is ∙ h.kinds;
        right = λ n m. subst (IsRightBy (recalling setting m)) (sym e) (inlined_right (recalling setting m) was.old was.phase (inlined_is (recalling setting m) was.old) (was.right m));
        begins = λ n. h.begins n ∙ ap (λ (s : PlainStrand). s.start) (sym is);
      }

  pub resumed_kept : (start : Start) (failed : Bool) (now s s' : PlainStrand) (k : Pushed) (task : PlainTask) (since : Start) → s ≡ now → record { task = task; since = since } ≡ k → FitsHere now k → s' ≡ moves.resumed task s → ((i : Setting) → IsResumed i task s s') → IsRightTask setting (record { task = task; since = since })
      → IsHeld setting start failed s → IsHeld setting start failed s'
  resumed_kept start failed now s s' k task since same t fits is f i h =
      let there : FitsHere s (record { task = task; since = since }) = subst (λ k. FitsHere s k) (sym t) (subst (λ (s : PlainStrand). FitsHere s k) (sym same) fits) in
      record {
        kinds = ap (λ (s : PlainStrand). s.layer.kinds) is ∙ ap (λ (l : PlainLayer). l.kinds) (layer_resumed task s (moves.returned_of s)) ∙ h.kinds;
        right = λ n m. subst (IsRightBy (recalling setting m)) (sym is) (resumed_right (recalling setting m) s (record { task = task; since = since }) there (subst (IsResumed (recalling setting m) task s) is (f (recalling setting m))) (i m) (h.right n m));
        begins = λ n. h.begins n ∙ sym (start_resumed task s (moves.returned_of s)) ∙ ap (λ (s : PlainStrand). s.start) (sym is);
      }

pub stolen_kept : (setting : Setting) (p : PlainChecked) (e : Edited) (r : List PlainRecord) → IsSet setting p e r → (k : Pushed) (s : PlainStrand) (start : Start) (kit : List Kind) → kit ≡ setting.kinds → s ≡ moves.stolen p.codes kit k.task
    → ((tables : Tables) (kept : List Kept) (records : List PlainRecord) → IsStolen (setting_with p tables kept records) k.task s) → ((front : List ℕ) (child : ℕ) → k.task.place ≡ front ++ child ∷ [] → start ≡ Behind (length front) child) → IsRightTask setting k → IsHeld setting start false s
stolen_kept setting p e r set k s start kit same is f starts h =
    let named : start ≡ Behind (length (shorter k.task.place)) k.task.top.children = starts (shorter k.task.place) k.task.top.children (h set.sound).stands.parent.named in
    let long : length k.task.place ≡ length (shorter k.task.place) + 1 = ap length (h set.sound).stands.parent.named ∙ length-append (shorter k.task.place) (k.task.top.children ∷ []) in
    let depth : length (shorter k.task.place) ≡ length k.task.place - 1 = omega arith in
    record {
      kinds = ap (λ (s : PlainStrand). s.layer.kinds) is ∙ same;
      right = λ n m. stolen_right (recalling setting m) k s (subst (λ (i : Setting). IsStolen i k.task s) (set_with setting p e r set m) (f e.tables m.kept r)) (h m);
      begins = λ n. named ∙ ap (λ d. Behind d k.task.top.children) depth ∙ ap (λ (s : PlainStrand). s.start) (sym is);
    }
