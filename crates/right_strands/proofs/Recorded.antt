-- What one strand has recorded of its stretch of the trail, after each of its moves.
use Rattle.std.proofs.Common.{◌≡◌, ℕ, ◌+◌, ◌++◌, ℤ, Bool, List, [], ◌∷◌, Option, length, length-append, append_assoc, map, take, IsPermutation, refl, sym, ap, ◌∙◌, subst, arith}
use Rattle.std.proofs.Math.Seq.{take-append_seam}
use Rattle.std.proofs.lemmas.List.{length-map}
use Rattle.std.proofs.lemmas.List.Sorted.{length_permutation}
use Rattle.meaning.specs.Outcome.{Log, Place, Leaves}
use Rattle.meaning.specs.Records.{Key}
use Rattle.meaning.specs.Trail.{child_of, trail_at}
use Rattle.meaning.specs.SmallStep.{Start, root, behind, look_of, Child, Todo, spawning, leaving, Continuation, place_of_continuation, Step, moved, taken, paused, micro}
use Rattle.meaning.specs.Layers.{Notes, total}
use Rattle.meaning.specs.Tallies.{Tally, no_tally, executions, tallied, tallies_joined}
use Rattle.meaning.specs.LayeredStrand.{LayeredStrand, advanced, first_layered, inlined, detached, resumed, stolen, joined}
use Rattle.meaning.specs.Tree.{Tree}
use Rattle.trail_theory.specs.Counts.{IsCounted}
use Rattle.trail_theory.specs.Order.{LeavesInOrder}
use Rattle.trail_theory.specs.OpenLayers.{IsNumbered}
use Rattle.trail_theory.specs.OwnLayers.{by_name}
use Rattle.trail_theory.specs.Right.{StartsAfter, stretch, MayJoin}
use Rattle.trail_theory.specs.TalliedTheorems.{IsTalliedNow, advanced_now, tallied_now}
use Rattle.trail_theory.specs.AddingUp.{AddsUp}
use Rattle.trail_theory.proofs.AddingUp.{add_up}
use Rattle.trail_theory.proofs.Advances.{ordered_at}
use Rattle.trail_theory.proofs.Order.{same_split}
use Rattle.trail_theory.proofs.Keys.{executions_append}
use Rattle.trail_theory.proofs.OwnMoves.{named_tallied}
use Rattle.strand_theory.specs.Recorded.{key_of}
use Rattle.strand_theory.specs.Ready.{IsReady}
use Rattle.strand_theory.proofs.Laws.{law, sound}
use Rattle.strand_theory.proofs.RecordedStrands.{RecordsNow, stay_recorded, first_records, steal_records, inline_records, detach_records, pop_records}
use Rattle.strand_theory.proofs.UnflaggedSteps.{tallied_alike}
use Rattle.positions.specs.Setting.{Setting}
use Rattle.positions.specs.Simulation.{small_step, tally_after}
use Rattle.right_strands.specs.Rightness.{sight, lookup, key_opened, HasRecordedStretch}
use Rattle.right_strands.proofs.Owned.{Own, Pushes, step_is}

-- ---- stretches from one beginning

-- that have as many executions have the same
same_front : (a b c d : Log) → a ++ b ≡ c ++ d → length (executions a) ≡ length (executions c) → executions a ≡ executions c
same_front a b c d e n =
    let x = executions a in
    let y = executions c in
    sym (take-append_seam x (executions b)) ∙ ap (take (length x)) (sym (executions_append a b) ∙ ap executions e ∙ executions_append c d)
    ∙ ap (λ k. take k (y ++ executions d)) n ∙ take-append_seam y (executions d)

-- ---- what a tally has recorded adds up

long_each : (t : Tally) (passed : List Key) (keys : List Key) → IsPermutation (map key_of t.made ++ (map key_opened t.opened ++ passed)) keys → length keys ≡ length t.made + (length t.opened + length passed)
long_each t passed keys h =
    let a : length keys ≡ length (map key_of t.made ++ (map key_opened t.opened ++ passed)) = length_permutation _ keys h in
    let b : length (map key_of t.made ++ (map key_opened t.opened ++ passed)) ≡ length (map key_of t.made) + length (map key_opened t.opened ++ passed) = length-append (map key_of t.made) (map key_opened t.opened ++ passed) in
    let c : length (map key_opened t.opened ++ passed) ≡ length (map key_opened t.opened) + length passed = length-append (map key_opened t.opened) passed in
    let d : length (map key_of t.made) ≡ length t.made = length-map t.made key_of in
    let e : length (map key_opened t.opened) ≡ length t.opened = length-map t.opened key_opened in
    omega (arith, a, b, c, d, e)

pub adds_here : (t : Tally) (es : Log) → IsCounted t es → HasRecordedStretch t es → AddsUp t
adds_here t es c h =
    let n : t.executed ≡ length (executions es) = c.executed_are in
    let p : length (executions es) ≡ length t.made + (length t.opened + length h.passed) = long_each t h.passed (executions es) h.each in
    let u : length h.passed ≡ t.unrecorded = h.counted in
    omega (arith, n, p, u)

pub start_kept : (program : Tree) (x : LayeredStrand) (st : Step) → (advanced program x st).start ≡ x.start
start_kept program x (moved l evs fr ph t) = refl
start_kept program x (taken evs k fr ph t) = refl
start_kept program x (paused p) = refl

module _ (setting : Setting) where
  abbrev Now : LayeredStrand → Tally → Type 0
  Now x t = IsTalliedNow setting.program setting.tables (lookup setting) x t

  abbrev Records : LayeredStrand → Tally → Type 0
  Records x t = RecordsNow setting.program setting.tables (lookup setting) x t

  abbrev Trail : Log
  Trail = trail_at setting.program.tree setting.tables (sight setting) (look_of (lookup setting))

  in_order : (es : Log) → es ≡ Trail → LeavesInOrder es
  in_order es e = ordered_at setting.program.tree setting.tables (sight setting) (lookup setting) es e

  -- what the trail has from a beginning on
  same_rest : (m : Start) (B B' C C' : Log) → StartsAfter m B → StartsAfter m B' → B ++ C ≡ Trail → B' ++ C' ≡ Trail → C ≡ C'
  same_rest root B B' C C' s s' e e' = (rw s at e) ∙ sym (rw s' at e')
  same_rest (behind m k) B B' C C' s s' e e' =
      let p = child_of m k in
      let f : s.sooner ++ Leaves p s.value ∷ C ≡ Trail = rw (← append_assoc s.sooner (Leaves p s.value ∷ []) C) (rw s.is at e) in
      let f' : s'.sooner ++ Leaves p s'.value ∷ C' ≡ Trail = rw (← append_assoc s'.sooner (Leaves p s'.value ∷ []) C') (rw s'.is at e') in
      (same_split p s.sooner C s'.sooner C' s.value s'.value (in_order _ f) (in_order _ f') (f ∙ sym f')).later

  -- ---- a strand that has recorded its stretch, told of any other that begins there, with the same tally

  pub records_of : (x : LayeredStrand) (t : Tally) (h : Now x t) → HasRecordedStretch t (stretch h.right.segments) → Records x t
  records_of x t h r = record { right = h.right; recorded = record { passed = r.passed; counted = r.counted; each = r.each } }

  recorded_by : (x y : LayeredStrand) (t : Tally) → y.start ≡ x.start → (h : Now x t) → AddsUp t → Records y t → HasRecordedStretch t (stretch h.right.segments)
  recorded_by x y t e h adds r =
      let a = h.right in
      let b = r.right in
      let same = same_rest x.start a.before b.before _ _ a.starts (subst (λ m. StartsAfter m b.before) e b.starts) a.is_trail b.is_trail in
      let n : t.executed ≡ length (executions (stretch a.segments)) = h.counted.executed_are in
      let p : length (executions (stretch b.segments)) ≡ length t.made + (length t.opened + length r.recorded.passed) = long_each t r.recorded.passed (executions (stretch b.segments)) r.recorded.each in
      let u : length r.recorded.passed ≡ t.unrecorded = r.recorded.counted in
      let long : length (executions (stretch b.segments)) ≡ length (executions (stretch a.segments)) = omega (arith, n, p, u, adds) in
      let keys : executions (stretch b.segments) ≡ executions (stretch a.segments) = same_front (stretch b.segments) _ (stretch a.segments) _ (sym same) long in
      record { passed = r.recorded.passed; counted = r.recorded.counted; each = subst (IsPermutation _) keys r.recorded.each }

  -- ---- moves

  module _ (x : LayeredStrand) (t : Tally) (h : Own setting x t) (r : HasRecordedStretch t (stretch h.tallied.right.segments)) where
    adds_now : AddsUp t
    adds_now = adds_here t (stretch h.tallied.right.segments) h.tallied.counted r

    records_now : Records x t
    records_now = records_of x t h.tallied r

    pub inlined_recorded : (d : ℕ) (into : Option ℕ) (child : Child) (todo : Todo) → x.phase ≡ spawning d into child todo → (g : Own setting (inlined setting.program.tree x d into child todo) t)
        → HasRecordedStretch t (stretch g.tallied.right.segments)
    inlined_recorded d into child todo e g =
        let y = inlined setting.program.tree x d into child todo in
        recorded_by y y t refl g.tallied adds_now (inline_records setting.program setting.tables (sight setting) (lookup setting) x t d into child todo e records_now)

    pub detached_recorded : (d : ℕ) (into : Option ℕ) (child : Child) (todo : Todo) → x.phase ≡ spawning d into child todo → (g : Own setting (detached setting.program.tree x d child) t)
        → HasRecordedStretch t (stretch g.tallied.right.segments)
    detached_recorded d into child todo e g =
        let y = detached setting.program.tree x d child in
        recorded_by y y t refl g.tallied adds_now (detach_records setting.program setting.tables (sight setting) (lookup setting) x t d into child todo e records_now)

    pub popped_recorded : (k : Continuation) (v : ℤ) → x.phase ≡ leaving v → x.under ≡ [] → x.start ≡ k.since → x.frame.instance ≡ place_of_continuation k → Pushes setting k → (g : Own setting (resumed setting.program.tree x k v) t)
        → HasRecordedStretch t (stretch g.tallied.right.segments)
    popped_recorded k v a b c d right g =
        let y = resumed setting.program.tree x k v in
        recorded_by y y t refl g.tallied adds_now (pop_records setting.program setting.tables (sight setting) (lookup setting) x t k v a b c d records_now right.0)

    pub stepped_recorded : IsReady setting.program setting.tables setting.memory → IsNumbered setting.program → (kit : Bool) → (g : Own setting (advanced setting.program.tree x (small_step setting kit x t)) (tally_after setting kit x t))
        → HasRecordedStretch (tally_after setting kit x t) (stretch g.tallied.right.segments)
    stepped_recorded ready numbered kit g =
        let P = setting.program.tree in
        let z = by_name x t in
        let st = micro P setting.tables (lookup setting) kit (total P z.layers).worth z.start z.frame z.phase z.under in
        let there : Now z t = named_tallied setting.program setting.tables (sight setting) (lookup setting) x t h.tallied in
        let here = recorded_by z x t refl there adds_now records_now in
        let next = (stay_recorded setting.program setting.tables (lookup setting) (law setting.program setting.tables setting.memory ready) ready.rules (sound setting.program setting.tables setting.memory ready)).advances kit z t there.shallow (records_of z t there here) in
        let same : tallied_now setting.program setting.tables (lookup setting) kit z t ≡ tally_after setting kit x t =
        sym (ap (λ s. tallied setting.program x.layers s t) (step_is setting ready numbered kit x t h) ∙ tallied_alike setting.program x.layers st t) in
        let begins : (advanced_now setting.program setting.tables (lookup setting) kit z).start ≡ (advanced P x (small_step setting kit x t)).start = start_kept P z st ∙ sym (start_kept P x (small_step setting kit x t)) in
        recorded_by (advanced P x (small_step setting kit x t)) (advanced_now setting.program setting.tables (lookup setting) kit z) (tally_after setting kit x t) begins g.tallied
        ((add_up setting.program).advances x.layers (small_step setting kit x t) t adds_now)
        (subst (Records (advanced_now setting.program setting.tables (lookup setting) kit z)) same next)

  pub first_recorded : (g : Own setting (first_layered setting.program.tree) no_tally) → HasRecordedStretch no_tally (stretch g.tallied.right.segments)
  first_recorded g =
      let y = first_layered setting.program.tree in
      recorded_by y y no_tally refl g.tallied refl (first_records setting.program setting.tables (sight setting) (lookup setting))

  pub stolen_recorded : (k : Continuation) → Pushes setting k → (g : Own setting (stolen setting.program.tree k) no_tally) → HasRecordedStretch no_tally (stretch g.tallied.right.segments)
  stolen_recorded k right g =
      let y = stolen setting.program.tree k in
      recorded_by y y no_tally refl g.tallied refl (steal_records setting.program setting.tables (sight setting) (lookup setting) k right.0)

  pub joined_recorded : IsReady setting.program setting.tables setting.memory → (l r : LayeredStrand) (t u : Tally) (v : ℤ) (m : Place) (c : ℕ) (noted : Notes) → l.phase ≡ leaving v → l.under ≡ [] → r.start ≡ behind m c → l.frame.instance ≡ child_of m c → r.layers ≡ noted ∷ []
      → MayJoin l (joined setting.program.tree l v r) → u.opened ≡ [] → (h : Own setting l t) → HasRecordedStretch t (stretch h.tallied.right.segments) → (k : Own setting r u) → HasRecordedStretch u (stretch k.tallied.right.segments)
      → (g : Own setting (joined setting.program.tree l v r) (tallies_joined t u)) → HasRecordedStretch (tallies_joined t u) (stretch g.tallied.right.segments)
  joined_recorded ready l r t u v m c noted a b d e f may none h hr k kr g =
      let y = joined setting.program.tree l v r in
      recorded_by y y (tallies_joined t u) refl g.tallied ((add_up setting.program).joins t u none (adds_now l t h hr) (adds_now r u k kr))
      ((stay_recorded setting.program setting.tables (lookup setting) (law setting.program setting.tables setting.memory ready) ready.rules (sound setting.program setting.tables setting.memory ready)).joins
      l r t u v m c noted a b d e f may none (records_now l t h hr) (records_now r u k kr))
