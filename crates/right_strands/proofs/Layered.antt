-- A sound strand has one layer more than there are open ones.
use Rattle.std.proofs.Common.{◌≡◌, suc, List, [], ◌∷◌, length, refl, ap, subst, arith}
use Rattle.meaning.specs.Layers.{Notes}
use Rattle.meaning.specs.LayeredStrand.{LayeredStrand}
use Rattle.meaning.specs.Tallies.{Opened}
use Rattle.trail_theory.specs.OwedLayers.{Unbroken}
use Rattle.trail_theory.proofs.OwedSteps.{unbroken_by}
use Rattle.trail_theory.proofs.OwnTheorems.{own_count}
use Rattle.positions.specs.declared.phase.Phase.{Phase}
use Rattle.positions.specs.declared.phase.Phase.TheVariants.{Entering, Running, AtSpawn, Returning, Leaving, Broken}
use Rattle.positions.specs.declared.start.Start.{Start}
use Rattle.positions.specs.Setting.{Setting}
use Rattle.positions.specs.Activations.{PlainActivation}
use Rattle.positions.specs.Layers.{PlainLayer}
use Rattle.positions.specs.Tallies.{PlainOpened}
use Rattle.positions.specs.Strands.{PlainStrand, IsLayeredAt, IsLayered}
use Rattle.positions.specs.Stands.{AreNotes, AreOpened, StandsAt}
use Rattle.right_strands.specs.Rightness.{lookup, IsSound}

module _ (setting : Setting) where
  notes_long : (st : Start) (l : PlainLayer) (lower : List PlainLayer) (ls : List Notes) → AreNotes setting st (l ∷ lower) ls → length ls ≡ suc (length lower)
  notes_long st l lower [] h = absurd h
  notes_long st l [] (n ∷ []) h = refl
  notes_long st l [] (n ∷ m ∷ ns) h = absurd h.1
  notes_long st l (m ∷ lower) (n ∷ ns) h = ap suc (notes_long st m lower ns h.1)

  opened_long : (os : List PlainOpened) (ks : List Opened) → AreOpened setting os ks → length os ≡ length ks
  opened_long [] [] h = refl
  opened_long [] (k ∷ ks) h = absurd h
  opened_long (o ∷ os) [] h = absurd h
  opened_long (o ∷ os) (k ∷ ks) h = ap suc (opened_long os ks h.1)

  pub none_opened : (os : List PlainOpened) → AreOpened setting os [] → os ≡ []
  none_opened [] h = refl
  none_opened (o ∷ os) h = absurd h

  layered_at : (s : PlainStrand) (x : LayeredStrand) (ph : Phase) (below : List PlainActivation) → StandsAt setting ph below s x → Unbroken x.phase (length s.tally.opened ≡ length s.lower) → IsLayeredAt ph s
  layered_at s x Entering below n u = subst (λ q. Unbroken q (length s.tally.opened ≡ length s.lower)) n.phase u
  layered_at s x Running below n u = subst (λ q. Unbroken q (length s.tally.opened ≡ length s.lower)) n.phase u
  layered_at s x AtSpawn [] n u = absurd n
  layered_at s x AtSpawn (p ∷ below) n u = subst (λ q. Unbroken q (length s.tally.opened ≡ length s.lower)) n.phase u
  layered_at s x (Returning v) below n u = subst (λ q. Unbroken q (length s.tally.opened ≡ length s.lower)) n.phase u
  layered_at s x (Leaving v) below n u = subst (λ q. Unbroken q (length s.tally.opened ≡ length s.lower)) n.phase u
  layered_at s x (Broken f) below n u = tt

  pub sound_layered : (s : PlainStrand) → IsSound setting s → IsLayered s
  sound_layered s h =
      let numbered : length h.named.layers ≡ suc (length s.lower) = notes_long s.start s.layer s.lower h.named.layers h.stands.layers in
      let opened : length s.tally.opened ≡ length h.tally.opened = opened_long s.tally.opened h.tally.opened h.stands.tally.opened in
      layered_at s h.named s.phase s.below h.stands.now
      (unbroken_by h.named.phase (λ (e : length h.named.layers ≡ suc (length h.tally.opened)). (let q : length s.tally.opened ≡ length s.lower = omega (arith, numbered, opened, e) in q))
      ((own_count setting.program setting.tables (lookup setting)).layers h.named h.tally h.owns))
