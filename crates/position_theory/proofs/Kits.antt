-- The layers that a small step opens and closes by numbers take as many kits as by names.
use Rattle.std.proofs.Common.{◌≡◌, ℕ, suc, ◌≤◌, Bool, true, false, if◌then◌else◌, List, [], ◌∷◌, length, refl, sym, ◌∙◌, ap, subst, arith}
use Rattle.std.specs.Prelude.{ℤ}
use Rattle.meaning.specs.Outcome.{Log, Syncs}
use Rattle.meaning.specs.SmallStep.{Frame, Phase as NamedPhase, entering, running, spawning, returning, leaving, broken, Parent, Step, moved, taken, paused as paused_step, noting, opening_one, closing_one, unless, is_entry, led_step, leaving_layer, micro}
use Rattle.meaning.specs.Layers.{Notes, bottom, noted_top, take_top, ahead_of_entry}
use Rattle.meaning.specs.LayeredStrand.{LayeredStrand, advanced}
use Rattle.meaning.specs.Tallies.{Tally}
use Rattle.trail_theory.specs.OwnLayers.{is_top_by_length}
use Rattle.trail_theory.specs.Unflagged.{unflagged_step}
use Rattle.positions.specs.declared.phase.Phase.{Phase}
use Rattle.positions.specs.declared.phase.Phase.TheVariants as phase
use Rattle.positions.specs.declared.start.Start.{Start}
use Rattle.positions.specs.Setting.{Setting, IsLinked, HasItsTables, HasItsRecords, by_own_names}
use Rattle.positions.specs.Activations.{PlainActivation}
use Rattle.positions.specs.Layers.{PlainLayer, below_top}
use Rattle.positions.specs.Tallies.{PlainOpened, is_own}
use Rattle.positions.specs.Strands.{PlainStrand, entry_by, IsLayeredAt}
use Rattle.positions.specs.Advance as plain
use Rattle.positions.specs.Advance.{kits_then}
use Rattle.positions.specs.Stands.{IsStart, AreNotes, IsTally, StandsAt, frame_of}
use Rattle.positions.specs.Simulation.{kits_by, KitsFollow}
use Rattle.position_theory.proofs.Beginning.{lookup_of}
use Rattle.position_theory.proofs.Claims.{IsClaim, enter_has, todo_has}
use Rattle.position_theory.proofs.Recorded.{own_is}
use Rattle.position_theory.proofs.Starts.{start_moved, entry_is}
use Rattle.position_theory.proofs.Stepping.{rebuilt, step_in, HoldsAt, phase_is}

-- ---- steps that close no layer

abbrev ClosesNone : Step → Type 0
ClosesNone (moved noting es fr ph under) = Unit {0}
ClosesNone (moved opening_one es fr ph under) = Unit {0}
ClosesNone (moved closing_one es fr ph under) = ⊥
ClosesNone (taken es k fr ph under) = Unit {0}
ClosesNone (paused_step p) = Unit {0}

led_closes : (es : Log) (st : Step) → ClosesNone st → ClosesNone (led_step es st)
led_closes es (moved noting fs fr ph under) h = tt
led_closes es (moved opening_one fs fr ph under) h = tt
led_closes es (moved closing_one fs fr ph under) h = h
led_closes es (taken fs k fr ph under) h = tt
led_closes es (paused_step p) h = tt

closes_none : IsClaim ClosesNone
closes_none = record { notes = λ es fr ph under. tt; opens = λ es fr ph under. tt; takes = λ es k fr ph under. tt; leads = led_closes }

unless_closes : (b : Bool) (st : Step) → ClosesNone st → ClosesNone (unless b st)
unless_closes true st h = tt
unless_closes false st h = h

-- ---- how many layers there are

same_count : (setting : Setting) (st : Start) (ls : List PlainLayer) (ns : List Notes) → AreNotes setting st ls ns → length ls ≡ length ns
same_count setting st [] [] h = refl
same_count setting st [] (n ∷ ns) h = absurd h
same_count setting st (l ∷ ls) [] h = absurd h
same_count setting st (l ∷ ls) (n ∷ ns) h = ap suc (same_count setting st ls ns h.1)

noted_count : (ls : List Notes) (es : Log) → length (noted_top ls es) ≡ length ls
noted_count [] es = refl
noted_count (l ∷ ls) es = refl

module _ (setting : Setting) where
  taken_count : (n : Notes) (ls : List Notes) → length (take_top setting.program.tree n ls) ≡ length ls
  taken_count n [] = refl
  taken_count n (l ∷ ls) = refl

  module _ (from to : Start) (x : LayeredStrand) (l l' : PlainLayer) (lower lower' : List PlainLayer) (kits : ℕ) (old : AreNotes setting from (l ∷ lower) x.layers) where
    -- a step that closes none
    counted : (st : Step) → ClosesNone st → AreNotes setting to (l' ∷ lower') (advanced setting.program.tree x (unflagged_step st)).layers → kits_by (unflagged_step st) kits ≡ kits_then lower lower' kits
    counted (moved noting es fr ph under) none new =
        let before : suc (length lower) ≡ length x.layers = same_count setting from (l ∷ lower) x.layers old in
        let after : suc (length lower') ≡ length x.layers = same_count setting to (l' ∷ lower') (noted_top x.layers es) new ∙ noted_count x.layers es in
        omega arith
    counted (moved opening_one es fr ph under) none new =
        let before : suc (length lower) ≡ length x.layers = same_count setting from (l ∷ lower) x.layers old in
        let after : length lower' ≡ length x.layers = same_count setting to lower' (noted_top x.layers (ahead_of_entry es)) new.1 ∙ noted_count x.layers (ahead_of_entry es) in
        omega arith
    counted (moved closing_one es fr ph under) none new = absurd none
    counted (taken es k fr ph under) none new =
        let before : suc (length lower) ≡ length x.layers = same_count setting from (l ∷ lower) x.layers old in
        let after : suc (length lower') ≡ length x.layers = same_count setting to (l' ∷ lower') _ new ∙ taken_count _ (noted_top x.layers es) ∙ noted_count x.layers es in
        omega arith
    counted (paused_step p) none new =
        let before : suc (length lower) ≡ length x.layers = same_count setting from (l ∷ lower) x.layers old in
        let after : suc (length lower') ≡ length x.layers = same_count setting to (l' ∷ lower') x.layers new in
        omega arith

-- ---- each phase

module _ (setting : Setting) (kit : Bool) (linked : IsLinked (by_own_names setting)) (records : HasItsRecords (by_own_names setting)) (s : PlainStrand) (x : LayeredStrand) (t : Tally) (kits : ℕ)
    (hl : AreNotes (by_own_names setting) s.start (s.layer ∷ s.lower) x.layers) (counts : IsTally (by_own_names setting) s.tally t) where
  abbrev in_place : Phase → List PlainActivation → PlainStrand
  in_place ph below = record s { phase = ph; below = below }

  abbrev then_in : Phase → List PlainActivation → PlainStrand
  then_in ph below = plain.advanced (by_own_names setting) kit (in_place ph below)

  abbrev by_names : LayeredStrand → NamedPhase → Step
  by_names y ph = step_in setting kit linked records s x t hl counts y ph

  abbrev Follows : PlainStrand → Step → Type 0
  Follows s' st = kits_by (unflagged_step st) kits ≡ kits_then s.lower s'.lower kits

  -- an instance that doesn't return
  abbrev GoesOn : NamedPhase → Type 0
  GoesOn (returning v) = ⊥
  GoesOn (entering child) = Unit {0}
  GoesOn (running todo) = Unit {0}
  GoesOn (spawning d into child todo) = Unit {0}
  GoesOn (leaving v) = Unit {0}
  GoesOn (broken k) = Unit {0}

  abbrev micro_in : NamedPhase → List Parent → Step
  micro_in ph under = micro setting.program.tree setting.tables (lookup_of setting) kit (bottom x.layers) x.start x.frame ph under

  leaving_closes : (v : ℤ) (under : List Parent) → ClosesNone (micro_in (leaving v) under)
  leaving_closes v [] = tt
  leaving_closes v (p ∷ under) = tt

  goes_on : (ph : NamedPhase) → GoesOn ph → ClosesNone (by_names x ph)
  goes_on (entering child) h = enter_has ClosesNone closes_none setting.program.tree setting.tables (lookup_of setting) kit (bottom x.layers) x.frame child x.under
  goes_on (running todo) h =
      todo_has ClosesNone closes_none setting.program.tree setting.tables (lookup_of setting) kit (bottom x.layers) x.start x.frame x.under todo (λ n rest bs is. unless_closes (is_entry x.start x.frame.instance) _ tt)
  goes_on (spawning d into child todo) h = tt
  goes_on (returning v) h = absurd h
  goes_on (leaving v) h = leaving_closes v x.under
  goes_on (broken k) h = tt

  -- what the strand comes to tells how many layers were opened
  follows : (ph : Phase) (below : List PlainActivation) → IsStart s.start ph s.path x.start → StandsAt (by_own_names setting) ph below (in_place ph below) x → HoldsAt setting kit linked records s x t hl counts ph x
      → GoesOn x.phase → Follows (then_in ph below) (by_names x x.phase)
  follows ph below begins h hold on =
      counted (by_own_names setting) s.start (then_in ph below).start x s.layer (then_in ph below).layer s.lower (then_in ph below).lower kits hl (by_names x x.phase) (goes_on x.phase on)
      (phase_is setting kit linked records s x t hl counts ph below begins h hold).layers

  -- ---- an instance that returns

  has_one : (os : List PlainOpened) (n : ℕ) → is_own os n ≡ true → 1 ≤ length os
  has_one [] n e = absurd cc
  has_one (o ∷ os) n e = omega arith

  below_count : (lower : List PlainLayer) → 1 ≤ length lower → length lower ≡ suc (length (below_top lower))
  below_count [] h = absurd (omega arith)
  below_count (l ∷ ls) h = refl

  abbrev leaves : Bool → ℤ → Frame → Step
  leaves flag v fr = moved (leaving_layer setting.program.tree setting.tables (lookup_of setting) kit (bottom x.layers) flag) (Syncs s.path ∷ []) fr (leaving v) x.under

  owned : (b : Bool) (v : ℤ) (below : List PlainActivation) (fr : Frame) → (b ≡ true → 1 ≤ length s.lower)
      → Follows (if b then plain.closed (by_own_names setting) v (in_place (phase.Returning v) below) else in_place (phase.Leaving v) below) (leaves b v fr)
  owned true v below fr h = let e : length s.lower ≡ suc (length (below_top s.lower)) = below_count s.lower (h refl) in omega arith
  owned false v below fr h = omega arith

  left : (b c : Bool) (v : ℤ) (below : List PlainActivation) (fr : Frame) → (c ≡ true → 1 ≤ length s.lower)
      → Follows (if b then in_place (phase.Returning v) below else if c then plain.closed (by_own_names setting) v (in_place (phase.Returning v) below) else in_place (phase.Leaving v) below) (unless b (leaves c v fr))
  left true c v below fr h = omega arith
  left false c v below fr h = owned c v below fr h

  returned : (v : ℤ) (below : List PlainActivation) → IsStart s.start (phase.Returning v) s.path x.start → StandsAt (by_own_names setting) (phase.Returning v) below (in_place (phase.Returning v) below) x
      → length s.tally.opened ≡ length s.lower → Follows (then_in (phase.Returning v) below) (by_names x x.phase)
  returned v below begins h layered =
      let entry : is_entry x.start s.path ≡ entry_by s.start s.path = entry_is s.start s.path x.start (start_moved s.start (phase.Returning v) phase.Running s.path s.path x.start (λ d w. (refl, w)) begins) in
      let own : is_own s.tally.opened (length s.path) ≡ is_top_by_length t.opened s.path = own_is (by_own_names setting) s.tally.opened t.opened s.path counts.opened in
      let fr : Frame = frame_of (by_own_names setting) s.path s.top in
      subst (λ y. Follows (then_in (phase.Returning v) below) (by_names y y.phase)) (sym (rebuilt x _ _ h.frame h.phase))
      (subst (λ b. Follows (then_in (phase.Returning v) below) (unless b (leaves (is_top_by_length t.opened s.path) v fr))) (sym entry)
      (subst (λ c. Follows (then_in (phase.Returning v) below) (unless (entry_by s.start s.path) (leaves c v fr))) own
      (left (entry_by s.start s.path) (is_own s.tally.opened (length s.path)) v below fr (λ e. subst (λ n. 1 ≤ n) layered (has_one s.tally.opened (length s.path) e)))))

  -- ---- all of them

  kits_in : (ph : Phase) (below : List PlainActivation) → IsStart s.start ph s.path x.start → StandsAt (by_own_names setting) ph below (in_place ph below) x → IsLayeredAt ph s → Follows (then_in ph below) (by_names x x.phase)
  kits_in phase.Entering below begins h layered = follows phase.Entering below begins h tt (subst GoesOn (sym h.phase) tt)
  kits_in phase.Running below begins h layered = follows phase.Running below begins h tt (subst GoesOn (sym h.phase) tt)
  kits_in phase.AtSpawn [] begins h layered = absurd h
  kits_in phase.AtSpawn (p ∷ below) begins h layered = follows phase.AtSpawn (p ∷ below) begins h tt (subst GoesOn (sym h.phase) tt)
  kits_in (phase.Returning v) below begins h layered = returned v below begins h layered
  kits_in (phase.Leaving v) below begins h layered = follows (phase.Leaving v) below begins h tt (subst GoesOn (sym h.phase) tt)
  kits_in (phase.Broken f) below begins h layered = follows (phase.Broken f) below begins h tt (subst GoesOn (sym h) tt)

own_kits_follow : (setting : Setting) → IsLinked (by_own_names setting) → HasItsRecords (by_own_names setting) → (kit : Bool) (s : PlainStrand) → KitsFollow (by_own_names setting) kit s (plain.advanced (by_own_names setting) kit s)
own_kits_follow setting linked records kit s x t kits h layered = kits_in setting kit linked records s x t kits h.layers h.tally s.phase s.below h.start h.now layered

-- over tables of the names that the codes were linked by
pub kits_follow : (setting : Setting) → HasItsTables setting → IsLinked setting → HasItsRecords setting → (kit : Bool) (s : PlainStrand) → KitsFollow setting kit s (plain.advanced setting kit s)
kits_follow setting e linked records kit s =
    subst (λ us. IsLinked (record setting { names = us }) → HasItsRecords (record setting { names = us }) → KitsFollow (record setting { names = us }) kit s (plain.advanced (record setting { names = us }) kit s)) (sym e)
    (λ l r. own_kits_follow setting l r kit s) linked records
