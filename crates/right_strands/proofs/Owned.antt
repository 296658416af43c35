-- A small step of a strand without flags, told of that strand alone.
use Rattle.std.proofs.Common.{◌≡◌, ℕ, ℤ, Bool, true, List, [], ◌∷◌, Option, refl, sym, ap, ◌∙◌, subst}
use Rattle.meaning.specs.Tree.{Tree}
use Rattle.meaning.specs.Outcome.{Accumulators}
use Rattle.meaning.specs.Records.{Kept, holds_now}
use Rattle.meaning.specs.SmallStep.{Start, Frame, Phase, entering, running, spawning, returning, leaving, broken, Child, Todo, Parent, Continuation, place_of_continuation, Step, moved, taken, paused, micro}
use Rattle.meaning.specs.Layers.{Notes, bottom, total}
use Rattle.meaning.specs.Tallies.{Opened, Tally, no_tally, tallied}
use Rattle.meaning.specs.LayeredStrand.{LayeredStrand, advanced, first_layered, inlined, detached, continuation, resumed, stolen}
use Rattle.trail_theory.specs.Order.{Every}
use Rattle.trail_theory.specs.OpenLayers.{IsNumbered, IsNewRecord}
use Rattle.trail_theory.specs.OwedLayers.{Unbroken}
use Rattle.trail_theory.specs.OwnLayers.{OwnsNow, Stands, TopByLength, TopTest, is_top, is_top_by_length, frame_by, by_name}
use Rattle.trail_theory.specs.Unflagged.{unflagged, unflagged_step, UnflaggedStaysOwn}
use Rattle.trail_theory.specs.Right.{IsOneLayer, Sees}
use Rattle.trail_theory.proofs.ReadPoints.{sees_when}
use Rattle.trail_theory.specs.TalliedTheorems.{IsContinuationNow}
use Rattle.trail_theory.proofs.Theorems.{continues}
use Rattle.trail_theory.proofs.TalliedMoves.{first_tallied, steal_tallied, inline_tallied, detach_tallied, continuation_shallow, pop_tallied}
use Rattle.trail_theory.proofs.OwnLayers.{all_child, all_parent}
use Rattle.trail_theory.proofs.OwnMoves.{same_tests}
use Rattle.trail_theory.proofs.OwnTheorems.{own_read, own_count}
use Rattle.trail_theory.proofs.Unflagged.{unflagged_stays}
use Rattle.strand_theory.specs.Ready.{IsReady}
use Rattle.strand_theory.proofs.Laws.{law, sound}
use Rattle.strand_theory.proofs.UnflaggedSteps.{micro_alike, tallied_alike}
use Rattle.positions.specs.Setting.{Setting}
use Rattle.positions.specs.Simulation.{small_step, HoldNow, tally_after}
use Rattle.right_strands.specs.Rightness.{sight, lookup}

-- ---- what a small step looks at

same_bottom : (program : Tree) (ns : List Notes) → IsOneLayer ns → bottom ns ≡ (total program ns).worth
same_bottom program [] h = absurd h
same_bottom program (n ∷ []) h = refl
same_bottom program (n ∷ m ∷ ns) h = absurd h

-- the top layer's name is the instance's where it is as long
told : (ph : Phase) (os : List Opened) (fr : Frame) → Unbroken ph (TopByLength fr.instance os) → frame_by is_top_by_length ph os fr ≡ frame_by is_top ph os fr
told (entering child) os fr h = refl
told (running todo) os fr h = refl
told (spawning d x child todo) os fr h = refl
told (returning v) os fr h = ap (λ b. record fr { recorded = b }) (same_tests fr.instance os h)
told (leaving v) os fr h = refl
told (broken k) os fr h = refl

-- a test that leaves each flag as it is
abbrev as_flagged : Frame → TopTest
as_flagged fr os n = fr.recorded

left_alone : (ph : Phase) (os : List Opened) (fr : Frame) → frame_by (as_flagged fr) ph os fr ≡ fr
left_alone (entering child) os fr = refl
left_alone (running todo) os fr = refl
left_alone (spawning d x child todo) os fr = refl
left_alone (returning v) os fr = refl
left_alone (leaving v) os fr = refl
left_alone (broken k) os fr = refl

now_of : (setting : Setting) (ks : List Kept) → Every (IsNewRecord setting.program setting.tables) ks → Every (λ k. holds_now setting.program setting.tables k ≡ true) ks
now_of setting [] h = tt
now_of setting (k ∷ ks) h = (h.0.now, now_of setting ks h.1)

module _ (setting : Setting) where
  abbrev pub Own : LayeredStrand → Tally → Type 0
  Own x t = OwnsNow setting.program setting.tables (lookup setting) x t

  -- the records made hold now
  pub made_hold : (x : LayeredStrand) (t : Tally) → Own x t → HoldNow setting t
  made_hold x t h = now_of setting t.made h.tallied.made

  -- ---- moves

  stands_at : (x : LayeredStrand) (t : Tally) (ph : Phase) → x.phase ≡ ph → Own x t → Stands x.frame.instance ph t.opened
  stands_at x t ph e h = subst (λ w. Stands x.frame.instance w t.opened) e h.stands

  abbrev pub Pushes : Continuation → Type 0
  Pushes k = IsContinuationNow setting.program setting.tables (lookup setting) k

  pub first_own : Own (first_layered setting.program.tree) no_tally
  first_own = record { tallied = first_tallied setting.program setting.tables (sight setting) (lookup setting); stands = tt }

  pub stolen_own : (k : Continuation) → Pushes k → Own (stolen setting.program.tree k) no_tally
  stolen_own k h = record { tallied = steal_tallied setting.program setting.tables (sight setting) (lookup setting) k h.0 h.1; stands = tt }

  module _ (x : LayeredStrand) (t : Tally) (d : ℕ) (into : Option ℕ) (child : Child) (todo : Todo) (e : x.phase ≡ spawning d into child todo) (h : Own x t) where
    pub inlined_own : Own (inlined setting.program.tree x d into child todo) t
    inlined_own = record {
      tallied = inline_tallied setting.program setting.tables (sight setting) (lookup setting) x t d into child todo e h.tallied;
      stands = all_child x.frame.instance x.frame.next t.opened (stands_at x t (spawning d into child todo) e h);
    }

    pub detached_own : Own (detached setting.program.tree x d child) t
    detached_own = record {
      tallied = detach_tallied setting.program setting.tables (sight setting) (lookup setting) x t d into child todo e h.tallied;
      stands = all_child x.frame.instance x.frame.next t.opened (stands_at x t (spawning d into child todo) e h);
    }

    pub continuation_own : Pushes (continuation x into todo)
    continuation_own = (
      continues setting.program.tree setting.tables (sight setting) (lookup setting) x d into child todo e h.tallied.right,
      continuation_shallow setting.program setting.tables (sight setting) (lookup setting) x t into todo h.tallied,
    )

  pub popped_own : (x : LayeredStrand) (t : Tally) (k : Continuation) (v : ℤ) → x.phase ≡ leaving v → x.under ≡ [] → x.start ≡ k.since → x.frame.instance ≡ place_of_continuation k → Own x t → Pushes k → Own (resumed setting.program.tree x k v) t
  popped_own x t k v a b c d h g = record {
    tallied = pop_tallied setting.program setting.tables (sight setting) (lookup setting) x t k v a b c d h.tallied g.0 g.1;
    stands = all_parent x.frame.instance k.parent.frame.instance k.child t.opened d (stands_at x t (leaving v) a h);
  }

  -- ---- a small step

  -- a step that reads what another one reads at a read is the same, flags aside
  module _ (kit : Bool) (acc' acc : Accumulators) (m : Start) (fr : Frame) (ph : Phase) (t : List Parent) where
    abbrev by_read : Accumulators → Step
    by_read a = micro setting.program.tree setting.tables (lookup setting) kit a m fr ph t

    read_alike : Sees acc' acc ph → unflagged_step (by_read acc') ≡ unflagged_step (by_read acc)
    read_alike sees =
        sym (micro_alike setting.program.tree setting.tables (lookup setting) kit acc' acc' (as_flagged fr) [] m fr ph t (λ e. left_alone ph [] fr) (sees_when acc' acc' ph (λ n x r b bs e. refl)))
        ∙ micro_alike setting.program.tree setting.tables (lookup setting) kit acc' acc (as_flagged fr) [] m fr ph t (λ e. left_alone ph [] fr) sees

  module _ (ready : IsReady setting.program setting.tables setting.memory) (numbered : IsNumbered setting.program) where
    stays : UnflaggedStaysOwn setting.program setting.tables (lookup setting)
    stays = unflagged_stays setting.program setting.tables (lookup setting) (law setting.program setting.tables setting.memory ready) ready.rules numbered (sound setting.program setting.tables setting.memory ready)

    module _ (kit : Bool) (x : LayeredStrand) (t : Tally) (h : Own x t) where
      -- the step by names, which reads the product of the layers
      abbrev by_names : Step
      by_names = let w = by_name x t in micro setting.program.tree setting.tables (lookup setting) kit (total setting.program.tree x.layers).worth w.start w.frame w.phase w.under

      pub step_is : small_step setting kit x t ≡ unflagged_step by_names
      step_is =
          ap (λ (fr : Frame). unflagged_step (micro setting.program.tree setting.tables (lookup setting) kit (bottom x.layers) x.start fr x.phase x.under)) (told x.phase t.opened x.frame ((own_count setting.program setting.tables (lookup setting)).lengths x t h))
          ∙ read_alike kit (bottom x.layers) (total setting.program.tree x.layers).worth x.start (frame_by is_top x.phase t.opened x.frame) x.phase x.under
          (sees_when (bottom x.layers) (total setting.program.tree x.layers).worth x.phase
          (λ n y r b bs e. same_bottom setting.program.tree x.layers (own_read setting.program setting.tables (lookup setting) ready.rules.reads x t n y r b bs e h).1))

      by_step : (st : Step) → Own (unflagged (advanced setting.program.tree (by_name x t) st)) (tallied setting.program x.layers st t)
          → Own (advanced setting.program.tree x (unflagged_step st)) (tallied setting.program x.layers (unflagged_step st) t)
      by_step (moved l evs fr ph u) k = subst (λ y. Own (advanced setting.program.tree x (unflagged_step (moved l evs fr ph u))) y) (sym (tallied_alike setting.program x.layers (moved l evs fr ph u) t)) k
      by_step (taken evs r fr ph u) k = subst (λ y. Own (advanced setting.program.tree x (unflagged_step (taken evs r fr ph u))) y) (sym (tallied_alike setting.program x.layers (taken evs r fr ph u) t)) k
      by_step (paused p) k = h

      -- a small step leaves the owner of its layers
      pub steps_own : Own (advanced setting.program.tree x (small_step setting kit x t)) (tally_after setting kit x t)
      steps_own =
          subst (λ st. Own (advanced setting.program.tree x st) (tallied setting.program x.layers st t)) (sym step_is) (by_step by_names (stays kit x t h))
