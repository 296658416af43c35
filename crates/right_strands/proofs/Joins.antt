-- Two right neighbours become one right strand.
use Rattle.std.proofs.Common.{◌≡◌, ◌⊎◌, inl, inr, ℕ, ◌-◌, ◌==◌, ◌&&◌, if◌then◌else◌, cond, ℤ, Bool, true, false, List, [], ◌∷◌, length, Some, None, Result, Ok, Err, OnErr, refl, sym, ap, ◌∙◌, subst, arith}
use Rattle.std.proofs.lemmas.Bool.{eq-eqb}
use Rattle.monoid_laws.specs.Worth.{Worth}
use Rattle.monoid_laws.specs.Kinds.{operate_all}
use Rattle.meaning.specs.Outcome.{Place, Fault as NamedFault}
use Rattle.meaning.specs.Trail.{child_of}
use Rattle.meaning.specs.SmallStep.{Start as NamedStart, root, behind, is_entry as is_named_entry, same_name, Frame, running, returning, leaving, broken, Parent}
use Rattle.meaning.specs.Layers.{Notes}
use Rattle.meaning.specs.LayeredStrand.{LayeredStrand}
use Rattle.meaning.specs.LayeredStrand as definitions
use Rattle.meaning.specs.Tallies.{tallies_joined as named_tallies_joined}
use Rattle.meaning.specs.Schedules.{place_of_start, may_join, joined_pair, recording_from}
use Rattle.trail_theory.specs.OpenLayers.{IsNumbered}
use Rattle.trail_theory.specs.OwedLayers.{Unbroken}
use Rattle.trail_theory.specs.Right.{RightAt, IsOneLayer}
use Rattle.trail_theory.proofs.OwnTheorems.{stay_own, own_entry}
use Rattle.strand_theory.specs.Ready.{IsReady}
use Rattle.strand_theory.proofs.Laws.{law, sound}
use Rattle.strand_theory.proofs.Broken.{broken_behind}
use Rattle.strand_theory.proofs.Folds.{may_join_true, pair_sound}
use Rattle.strand_theory.proofs.Names.{same_name_true, both_true}
use Rattle.positions.specs.declared.phase.Fault.{Fault}
use Rattle.positions.specs.declared.phase.Phase.{Phase}
use Rattle.positions.specs.declared.phase.Phase.TheVariants.{Entering, Running, AtSpawn, Returning, Leaving, Broken}
use Rattle.positions.specs.declared.phase.Paused.TheVariants as paused
use Rattle.positions.specs.declared.start.Start.{Start}
use Rattle.positions.specs.declared.start.Start.TheVariants.{Root, Behind}
use Rattle.positions.specs.Activations.{PlainActivation}
use Rattle.positions.specs.Layers.{PlainLayer, multiplied}
use Rattle.positions.specs.Tallies.{tallies_joined}
use Rattle.positions.specs.Setting.{Setting}
use Rattle.positions.specs.Strands.{PlainStrand, is_entry}
use Rattle.positions.specs.Advance.{pause_of, pause_at}
use Rattle.positions.specs.Moves.{settled_by, joined, joined_at, joined_after, joined_ended, joined_broken}
use Rattle.positions.specs.Simulation.{place_of, IsNotAtSpawn}
use Rattle.positions.specs.Stands.{AreNotes, AreParents, StandsAt, StandsFor, IsStart, IsAt, named_fault}
use Rattle.positions.specs.Nesting.{NestAt}
use Rattle.position_theory.proofs.Nested.{nest_any}
use Rattle.position_theory.proofs.Joins.{joined_is}
use Rattle.position_theory.proofs.Starts.{begins_behind as behind_by_numbers, entry_is}
use Rattle.strand_moves.specs.Joins.{with_worths, IsDone}
use Rattle.right_strands.specs.Remembering.{Remembers, recalling}
use Rattle.right_strands.specs.Rightness.{sight, lookup, IsSound, IsRightBy, IsHeld}
use Rattle.right_strands.specs.Pairs.{StopsBroken, IsPair, IsPairFrom}
use Rattle.right_strands.proofs.Points.{HasReturned, returned_is, AtSync, at_statement, at_end, sync_is, entry_there}
use Rattle.right_strands.proofs.Recorded.{joined_recorded}
use Rattle.right_strands.proofs.Layered.{sound_layered}
use Rattle.right_strands.proofs.Cuts.{Breaks, place_named, cut_of, sound_of}

pub start_loose : (st : Start) (v : ℤ) (f : Fault) (path : List ℕ) (m : NamedStart) → IsStart st (Leaving v) path m → IsStart st (Broken f) path m
start_loose Root v f path root h = tt
start_loose Root v f path (behind m k) h = absurd h
start_loose (Behind d c) v f path root h = absurd h
start_loose (Behind d c) v f path (behind m k) h = (h.0, h.1, omega arith)

same_itself : (n : Place) → same_name n n ≡ true
same_itself [] = refl
same_itself (k ∷ n) = ap (λ b. b && same_name n n) (eq-eqb k k refl) ∙ same_itself n

record BeginsBehind (y : NamedStart) (p : Place) : Type 0 where
  pub over : Place
  pub child : ℕ
  pub start : y ≡ behind over child
  pub place : p ≡ child_of over child

begins_behind : (y : NamedStart) (p : Place) (k : ℕ) (n : List ℕ) → place_of_start y ≡ p → p ≡ k ∷ n → BeginsBehind y p
begins_behind root p k n e h = absurd cc
begins_behind (behind m c) p k n e h = record { over = m; child = c; start = refl; place = sym e }

returning_runs : (st : Start) (path : List ℕ) (m : NamedStart) (v : ℤ) → IsStart st (Returning v) path m → IsStart st Running path m
returning_runs Root path root v h = tt
returning_runs Root path (behind m k) v h = absurd h
returning_runs (Behind d c) path root v h = absurd h
returning_runs (Behind d c) path (behind m k) v h = h

-- ---- reducers' values that moved from the right to the left

module _ (l r : PlainStrand) (us vs : List Worth) (product : operate_all l.layer.kinds l.layer.worths r.layer.worths ≡ operate_all l.layer.kinds us vs) (v : ℤ) where
  abbrev put : List Worth → PlainStrand → PlainStrand
  put ws s = record s { start = l.start; layer = record (multiplied l.layer r.layer) { worths = ws }; lower = l.lower; tally = tallies_joined l.tally r.tally }

  put_if : (ws : List Worth) (b : Bool) (a a' c c' : PlainStrand) → put ws a ≡ put ws a' → put ws c ≡ put ws c' → put ws (if b then a else c) ≡ put ws (if b then a' else c')
  put_if ws true a a' c c' h k = h
  put_if ws false a a' c c' h k = k

  put_settled : (ws : List Worth) (st : Start) → put ws (settled_by st v (with_worths vs r)) ≡ put ws (settled_by st v r)
  put_settled ws Root = refl
  put_settled ws (Behind d c) = put_if ws (length r.path - d == 0) _ _ _ _ refl refl

  pub ended_same : joined_ended (with_worths us l) v (with_worths vs r) ≡ joined_ended l v r
  ended_same = put_settled (operate_all l.layer.kinds us vs) r.start ∙ ap (λ ws. put ws (settled_by r.start v r)) (sym product)

module _ (setting : Setting) where
  none_under : (path : List ℕ) (below : List PlainActivation) (under : List Parent) → below ≡ [] → AreParents setting path below under → under ≡ []
  none_under path [] [] e h = refl
  none_under path [] (p ∷ under) e h = absurd h
  none_under path (a ∷ below) under e h = absurd cc

  -- by numbers there is one layer, so by name
  record OneNamed (ns : List Notes) : Type 0 where
    pub note : Notes
    pub is : ns ≡ note ∷ []

  one_named : (st : Start) (l : PlainLayer) (ls : List PlainLayer) (ns : List Notes) → ls ≡ [] → AreNotes setting st (l ∷ ls) ns → OneNamed ns
  one_named st l [] [] e h = absurd h
  one_named st l [] (n ∷ []) e h = record { note = n; is = refl }
  one_named st l [] (n ∷ m ∷ ns) e h = absurd h.1
  one_named st l (m ∷ ls) ns e h = absurd cc

  -- and the other way round
  one_numbered : (st : Start) (l : PlainLayer) (ls : List PlainLayer) (ns : List Notes) → IsOneLayer ns → AreNotes setting st (l ∷ ls) ns → ls ≡ []
  one_numbered st l ls [] e h = absurd e
  one_numbered st l [] (n ∷ []) e h = refl
  one_numbered st l (m ∷ ls) (n ∷ []) e h = absurd h.1
  one_numbered st l ls (n ∷ m ∷ ns) e h = absurd e

  -- ---- at a sync

  as_running : (r : PlainStrand) (ph : Phase) (m : NamedStart) → AtSync r → IsStart r.start r.phase r.path m → IsStart r.start Running r.path m
  as_running r ph m (at_statement e) h = subst (λ ph. IsStart r.start ph r.path m) e h
  as_running r ph m (at_end v e) h = returning_runs r.start r.path m v (subst (λ ph. IsStart r.start ph r.path m) e h)

  sync_named : (r : PlainStrand) (y : LayeredStrand) → AtSync r → StandsAt setting r.phase r.below r y → ((A : Type 0) → Unbroken y.phase A → A) × (y.frame.instance ≡ r.path)
  sync_named r y (at_statement e) n =
      let i = subst (λ ph. StandsAt setting ph r.below r y) e n in
      ((λ A h. subst (λ ph. Unbroken ph A) i.phase h), ap (λ (fr : Frame). fr.instance) i.frame)
  sync_named r y (at_end v e) n =
      let i = subst (λ ph. StandsAt setting ph r.below r y) e n in
      ((λ A h. subst (λ ph. Unbroken ph A) i.phase h), ap (λ (fr : Frame). fr.instance) i.frame)

  not_broken : (r : PlainStrand) → AtSync r → (f : Fault) → r.phase ≡ Broken f → ⊥
  not_broken r (at_statement e) f q = let c : Running ≡ Broken f = sym e ∙ q in cc
  not_broken r (at_end v e) f q = let c : Returning v ≡ Broken f = sym e ∙ q in cc

  -- a sound strand at its entry's sync has one layer
  bare : (r : PlainStrand) → AtSync r → is_entry r ≡ true → (w : IsSound setting r) → (w.tally.opened ≡ []) × IsOneLayer w.named.layers
  bare r s e w =
      let y = w.named in
      let n = sync_named r y s w.stands.now in
      let entry : is_named_entry y.start y.frame.instance ≡ true = ap (is_named_entry y.start) n.1 ∙ entry_is r.start r.path y.start (as_running r r.phase y.start s w.stands.start) ∙ e in
      n.0 ((w.tally.opened ≡ []) × IsOneLayer y.layers) (own_entry setting.program setting.tables (lookup setting) y w.tally entry w.owns)

  pub stalled_alone : (r : PlainStrand) → pause_of setting.codes r ≡ paused.AtSync → IsRightBy setting r → r.lower ≡ []
  stalled_alone r at h =
      let s = sync_is setting.codes r at in
      let w = sound_of setting r (λ f e. not_broken r s f e) h in
      one_numbered r.start r.layer r.lower w.named.layers (bare r s (entry_there setting.codes r at) w).1 w.stands.layers

  -- ---- one of them has a fault

  joined_cut : (l r : PlainStrand) (f : Fault) (m : NamedStart) → IsStart l.start (Broken f) l.path m → Breaks setting m f → IsRightBy setting (joined_broken l r f)
  joined_cut l r f m b h = inr (record { fault = f; phase = refl; start = m; begins = b; first = h })

  -- ---- the left one is over

  module _ (l r : PlainStrand) (h : IsPair setting l r) (p : HasReturned l) where
    abbrev l0 : PlainStrand
    l0 = with_worths h.left_worths l

    abbrev r0 : PlainStrand
    r0 = with_worths h.right_worths r

    left_sound : IsSound setting l0
    left_sound = sound_of setting l0 (λ f e. (let q : Leaving p.value ≡ Broken f = sym p.phase ∙ e in cc)) h.left

    left_at : IsAt setting (leaving p.value) l.path l.top l.below left_sound.named
    left_at = subst (λ ph. StandsAt setting ph l.below l0 left_sound.named) p.phase left_sound.stands.now

    left_under : left_sound.named.under ≡ []
    left_under = none_under l.path l.below left_sound.named.under p.below left_at.under

    left_right : RightAt setting.program.tree setting.tables (sight setting) (lookup setting) left_sound.named.start left_sound.named.layers left_sound.named.frame (leaving p.value) []
    left_right =
        let x = left_sound.named in
        subst (λ t. RightAt setting.program.tree setting.tables (sight setting) (lookup setting) x.start x.layers x.frame (leaving p.value) t) left_under
        (subst (λ ph. RightAt setting.program.tree setting.tables (sight setting) (lookup setting) x.start x.layers x.frame ph x.under) left_at.phase left_sound.owns.tallied.right)

    left_instance : left_sound.named.frame.instance ≡ l.path
    left_instance = ap (λ (fr : Frame). fr.instance) left_at.frame

    left_start : IsStart l.start (Leaving p.value) l.path left_sound.named.start
    left_start = subst (λ ph. IsStart l.start ph l.path left_sound.named.start) p.phase left_sound.stands.start

    there : (y : NamedStart) → IsStart r.start r.phase r.path y → place_of_start y ≡ l.path
    there y i = sym (place_named r.start r.phase r.path y i) ∙ same_name_true (place_of r.start r.path) l.path (h.behind p.value p.phase)

    -- and the right one has a fault
    by_fault : (f : Fault) → r.phase ≡ Broken f → IsRightBy setting (joined_broken l r f)
    by_fault f e =
        let c = cut_of setting r0 f e h.right in
        let b = begins_behind c.start l.path p.last p.front (there c.start c.begins) p.path in
        let x = left_sound.named in
        joined_cut l r f x.start (start_loose l.start p.value f l.path x.start left_start)
        (broken_behind setting.program.tree setting.tables (sight setting) (lookup setting) x.start x.layers x.frame p.value b.over b.child (named_fault setting f) left_right (left_instance ∙ b.place)
        (subst (λ m. Breaks setting m f) b.start c.first))

    named_sound : (r : PlainStrand) (y : LayeredStrand) → AtSync r → StandsAt setting r.phase r.below r y → (k : NamedFault) → y.phase ≡ broken k → ⊥
    named_sound r y (at_statement e) n k q = let i = subst (λ ph. StandsAt setting ph r.below r y) e n in let c : running i.todo ≡ broken k = sym i.phase ∙ q in cc
    named_sound r y (at_end v e) n k q = let i = subst (λ ph. StandsAt setting ph r.below r y) e n in let c : returning v ≡ broken k = sym i.phase ∙ q in cc

    valued_sync : AtSync r → AtSync r0
    valued_sync (at_statement e) = at_statement e
    valued_sync (at_end v e) = at_end v e

    not_at_spawn : AtSync r → IsNotAtSpawn r.phase
    not_at_spawn (at_statement e) = subst IsNotAtSpawn (sym e) tt
    not_at_spawn (at_end v e) = subst IsNotAtSpawn (sym e) tt

    joined_by : AtSync r → joined l r ≡ joined_ended l p.value r
    joined_by (at_statement e) = ap (λ ph. joined_at ph l r) p.phase ∙ ap (λ ph. joined_after ph l p.value r) e
    joined_by (at_end v e) = ap (λ ph. joined_at ph l r) p.phase ∙ ap (λ ph. joined_after ph l p.value r) e

    joined_by0 : AtSync r → joined l0 r0 ≡ joined_ended l0 p.value r0
    joined_by0 (at_statement e) = ap (λ ph. joined_at ph l0 r0) p.phase ∙ ap (λ ph. joined_after ph l0 p.value r0) e
    joined_by0 (at_end v e) = ap (λ ph. joined_at ph l0 r0) p.phase ∙ ap (λ ph. joined_after ph l0 p.value r0) e

    -- and the right one waits at a sync
    by_sync : IsReady setting.program setting.tables setting.memory → IsNumbered setting.program → pause_of setting.codes r ≡ paused.AtSync → IsRightBy setting (joined_ended l p.value r)
    by_sync ready numbered at =
        let s = sync_is setting.codes r at in
        let x = left_sound.named in
        let w = sound_of setting r0 (λ f e. not_broken r s f e) h.right in
        let y = w.named in
        let b = begins_behind y.start l.path p.last p.front (there y.start w.stands.start) p.path in
        let one = one_named r0.start r0.layer r.lower y.layers h.one_layer w.stands.layers in
        let z = definitions.joined setting.program.tree x p.value y in
        let may : may_join setting.program setting.tables setting.memory x z ≡ true = h.free p.value p.phase at x y left_sound.tally w.tally p.value left_sound.stands w.stands in
        let same : same_name x.frame.instance (place_of_start y.start) ≡ true = ap (λ n. same_name n (place_of_start y.start)) (left_instance ∙ sym (there y.start w.stands.start)) ∙ same_itself (place_of_start y.start) in
        let pair : joined_pair setting.program setting.tables setting.memory x x.phase y y.phase ≡ Some z =
        ap (λ ph. joined_pair setting.program setting.tables setting.memory x ph y y.phase) left_at.phase
        ∙ pair_sound setting.program setting.tables setting.memory x y p.value y.phase (λ k q. named_sound r0 y (valued_sync s) w.stands.now k q)
        ∙ ap (λ c. cond c (Some z) None) (both_true (same_name x.frame.instance (place_of_start y.start)) (may_join setting.program setting.tables setting.memory x z) same may) in
        let stands : StandsFor setting (joined l0 r0) z (named_tallies_joined left_sound.tally w.tally) = joined_is setting l0 r0 x y z left_sound.tally w.tally (not_at_spawn s) h.one_layer (behind_by_numbers r0.start r0.phase r0.path b.over b.child (subst (IsStart r0.start r0.phase r0.path) b.start w.stands.start)) left_sound.nests (sound_layered setting l0 left_sound) left_sound.stands w.stands pair in
        let product : operate_all l.layer.kinds l.layer.worths r.layer.worths ≡ operate_all l.layer.kinds h.left_worths h.right_worths =
        subst (λ ks. operate_all ks l.layer.worths r.layer.worths ≡ operate_all ks h.left_worths h.right_worths) (sym h.left_kinds) h.product in
        let owns = (stay_own setting.program setting.tables (lookup setting) (law setting.program setting.tables setting.memory ready) ready.rules numbered (sound setting.program setting.tables setting.memory ready)).joins
        x y left_sound.tally w.tally p.value b.over b.child one.note left_at.phase left_under b.start (left_instance ∙ b.place) one.is
        (may_join_true setting.program setting.tables setting.memory x z may) left_sound.owns w.owns in
        inl (record {
          named = z;
          tally = named_tallies_joined left_sound.tally w.tally;
          stands = subst (λ s. StandsFor setting s z (named_tallies_joined left_sound.tally w.tally)) (joined_by0 s ∙ ended_same l r h.left_worths h.right_worths product p.value) stands;
          nests = nest_any setting.codes (joined_ended l p.value r).phase (joined_ended l p.value r) (subst (λ q. NestAt setting.codes q l0) p.phase left_sound.nests);
          owns = owns;
          recorded = joined_recorded setting ready x y left_sound.tally w.tally p.value b.over b.child one.note left_at.phase left_under b.start (left_instance ∙ b.place) one.is
              (may_join_true setting.program setting.tables setting.memory x z may) (bare r0 (valued_sync s) (entry_there setting.codes r at) w).0 left_sound.owns left_sound.recorded w.owns w.recorded owns;
        })

    waits_joined : IsReady setting.program setting.tables setting.memory → IsNumbered setting.program → (pause_of setting.codes r ≡ paused.AtSync) ⊎ StopsBroken r → IsRightBy setting (joined l r)
    waits_joined ready numbered (inl at) = subst (IsRightBy setting) (sym (joined_by (sync_is setting.codes r at))) (by_sync ready numbered at)
    waits_joined ready numbered (inr f) = subst (IsRightBy setting) (sym (ap (λ ph. joined_at ph l r) p.phase ∙ ap (λ ph. joined_after ph l p.value r) f.1)) (by_fault f.0 f.1)

  pub over_joined : (l r : PlainStrand) → IsReady setting.program setting.tables setting.memory → IsNumbered setting.program → IsPair setting l r → (pause_of setting.codes l ≡ paused.Returned) ⊎ StopsBroken l → IsRightBy setting (joined l r)
  over_joined l r ready numbered h (inl e) = waits_joined l r h (returned_is setting.codes l e) ready numbered h.waits
  over_joined l r ready numbered h (inr f) =
      let c = cut_of setting (with_worths h.left_worths l) f.0 f.1 h.left in
      subst (IsRightBy setting) (sym (ap (λ ph. joined_at ph l r) f.1))
      (joined_cut l r f.0 c.start (subst (λ ph. IsStart l.start ph l.path c.start) f.1 c.begins) c.first)

  done_by : (l : PlainStrand) → (pause_of setting.codes l ≡ paused.Returned) ⊎ StopsBroken l → IsDone l.phase
  done_by l (inl e) = let p = returned_is setting.codes l e in subst IsDone (sym p.phase) tt
  done_by l (inr f) = subst IsDone (sym f.1) tt

  pub pair_done : (l r : PlainStrand) → IsPair setting l r → IsDone l.phase
  pair_done l r h = done_by l h.over

  pause_at_same : (ws : List Worth) (s : PlainStrand) (ph : Phase) → pause_at setting.codes ph (with_worths ws s) ≡ pause_at setting.codes ph s
  pause_at_same ws s Entering = refl
  pause_at_same ws s Running = refl
  pause_at_same ws s AtSpawn = refl
  pause_at_same ws s (Returning v) = refl
  pause_at_same ws s (Leaving v) = refl
  pause_at_same ws s (Broken f) = refl

  over_same : (ws : List Worth) (l : PlainStrand) → (pause_of setting.codes l ≡ paused.Returned) ⊎ StopsBroken l → (pause_of setting.codes (with_worths ws l) ≡ paused.Returned) ⊎ StopsBroken (with_worths ws l)
  over_same ws l (inl a) = inl (pause_at_same ws l l.phase ∙ a)
  over_same ws l (inr f) = inr f

  waits_same : (ws : List Worth) (r : PlainStrand) → (pause_of setting.codes r ≡ paused.AtSync) ⊎ StopsBroken r → (pause_of setting.codes (with_worths ws r) ≡ paused.AtSync) ⊎ StopsBroken (with_worths ws r)
  waits_same ws r (inl a) = inl (pause_at_same ws r r.phase ∙ a)
  waits_same ws r (inr f) = inr f

  half_pair : (l r : PlainStrand) (ws zs : List Worth) → operate_all l.layer.kinds ws zs ≡ operate_all l.layer.kinds l.layer.worths r.layer.worths → IsPair setting l r → IsPair setting (with_worths ws l) (with_worths zs r)
  half_pair l r ws zs e h = record {
    left_worths = h.left_worths;
    right_worths = h.right_worths;
    left = h.left;
    right = h.right;
    product = subst (λ ks. operate_all ks ws zs ≡ operate_all ks l.layer.worths r.layer.worths) h.left_kinds e ∙ h.product;
    left_kinds = h.left_kinds;
    right_kinds = h.right_kinds;
    one_layer = h.one_layer;
    over = over_same ws l h.over;
    waits = waits_same zs r h.waits;
    behind = h.behind;
    free = λ v a b. h.free v a (sym (pause_at_same zs r r.phase) ∙ b);
  }

-- ---- the same, as the code has them

after_kept : (q : Phase) (l r : PlainStrand) (v : ℤ) → ((joined_after q l v r).layer.kinds ≡ l.layer.kinds) × ((joined_after q l v r).start ≡ l.start)
after_kept Entering l r v = (refl, refl)
after_kept Running l r v = (refl, refl)
after_kept AtSpawn l r v = (refl, refl)
after_kept (Returning w) l r v = (refl, refl)
after_kept (Leaving w) l r v = (refl, refl)
after_kept (Broken f) l r v = (refl, refl)

at_kept : (ph : Phase) (l r : PlainStrand) → ((joined_at ph l r).layer.kinds ≡ l.layer.kinds) × ((joined_at ph l r).start ≡ l.start)
at_kept Entering l r = (refl, refl)
at_kept Running l r = (refl, refl)
at_kept AtSpawn l r = (refl, refl)
at_kept (Returning v) l r = (refl, refl)
at_kept (Leaving v) l r = after_kept r.phase l r v
at_kept (Broken f) l r = (refl, refl)

module _ (setting : Setting) where
  pub joined_kept : (l r s : PlainStrand) (start : Start) → Remembers setting → ((k : Remembers setting) → IsReady setting.program setting.tables (recording_from k.kept)) → IsNumbered setting.program → s ≡ joined l r → IsPairFrom setting start l r → IsHeld setting start false s
  joined_kept l r s start sound ready numbered is h = record {
    kinds = ap (λ (s : PlainStrand). s.layer.kinds) is ∙ (at_kept l.phase l r).0 ∙ (h.pair sound).left_kinds;
    right = λ n k. subst (IsRightBy (recalling setting k)) (sym is) (over_joined (recalling setting k) l r (ready k) numbered (h.pair k) (h.pair k).over);
    begins = λ n. h.begins ∙ sym (at_kept l.phase l r).1 ∙ ap (λ (s : PlainStrand). s.start) (sym is);
  }

  pub half_kept : (l r l' r' : PlainStrand) (start : Start) → l' ≡ with_worths l'.layer.worths l → r' ≡ with_worths r'.layer.worths r → operate_all l.layer.kinds l'.layer.worths r'.layer.worths ≡ operate_all l.layer.kinds l.layer.worths r.layer.worths → IsPairFrom setting start l r → IsPairFrom setting start l' r'
  half_kept l r l' r' start a b e h = record {
    pair = λ k. subst (λ l. IsPair (recalling setting k) l r') (sym a) (subst (λ r. IsPair (recalling setting k) (with_worths l'.layer.worths l) r) (sym b) (half_pair (recalling setting k) l r l'.layer.worths r'.layer.worths e (h.pair k)));
    begins = h.begins ∙ ap (λ (s : PlainStrand). s.start) (sym a);
  }

  -- reducers' values have moved: by itself the left one isn't known to be right
  pub half_or : {A E : Type 0} (l r l' r' : PlainStrand) (start : Start) (res : Result A E) → OnErr res (l' ≡ with_worths l'.layer.worths l) → OnErr res (r' ≡ with_worths r'.layer.worths r)
      → OnErr res (operate_all l.layer.kinds l'.layer.worths r'.layer.worths ≡ operate_all l.layer.kinds l.layer.worths r.layer.worths) → IsPairFrom setting start l r → OnErr res (IsPairFrom setting start l' r')
  half_or l r l' r' start (Ok n) a b e h = tt
  half_or l r l' r' start (Err n) a b e h = half_kept l r l' r' start a b e h
