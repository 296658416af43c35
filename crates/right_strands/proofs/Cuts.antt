-- A strand with a fault has the first fault that the trail has from its beginning on; without one it is sound.
use Rattle.std.proofs.Common.{◌≡◌, inl, inr, ℕ, Bool, List, refl, sym, ap, ◌∙◌, subst}
use Rattle.meaning.specs.Trail.{child_of}
use Rattle.meaning.specs.SmallStep.{Start as NamedStart, root, behind, broken}
use Rattle.meaning.specs.Schedules.{place_of_start}
use Rattle.trail_theory.specs.Right.{RightAt}
use Rattle.strand_theory.specs.Faults.{BrokenAt}
use Rattle.strand_theory.proofs.Broken.{right_broken}
use Rattle.positions.specs.declared.phase.Fault.{Fault}
use Rattle.positions.specs.declared.phase.Phase.{Phase}
use Rattle.positions.specs.declared.phase.Phase.TheVariants.{Entering, Running, AtSpawn, Returning, Leaving, Broken}
use Rattle.positions.specs.declared.start.Start.{Start}
use Rattle.positions.specs.declared.start.Start.TheVariants.{Root, Behind}
use Rattle.positions.specs.Setting.{Setting}
use Rattle.positions.specs.Strands.{PlainStrand}
use Rattle.positions.specs.Moves.{lowest_alone}
use Rattle.positions.specs.Simulation.{place_of}
use Rattle.positions.specs.Stands.{IsStart, StandsAt, named_fault}
use Rattle.strand_moves.specs.Joins.{HasFault}
use Rattle.right_strands.specs.Remembering.{recalling}
use Rattle.right_strands.specs.Rightness.{sight, lookup, IsSound, IsRightBy, IsHeld}

pub fault_there : (ph : Phase) → HasFault ph → (f : Fault) × (ph ≡ Broken f)
fault_there (Broken f) h = (f, refl)
fault_there Entering h = absurd h
fault_there Running h = absurd h
fault_there AtSpawn h = absurd h
fault_there (Returning v) h = absurd h
fault_there (Leaving v) h = absurd h

-- ---- places

pub place_named : (st : Start) (ph : Phase) (path : List ℕ) (m : NamedStart) → IsStart st ph path m → place_of st path ≡ place_of_start m
place_named Root ph path root h = refl
place_named Root ph path (behind m k) h = absurd h
place_named (Behind d c) ph path root h = absurd h
place_named (Behind d c) ph path (behind m k) h = ap (λ n. child_of n c) (sym h.0) ∙ ap (child_of m) (sym h.1)

module _ (setting : Setting) where
  abbrev pub Breaks : NamedStart → Fault → Type 0
  Breaks m f = BrokenAt setting.program.tree setting.tables (sight setting) (lookup setting) m (named_fault setting f)

  pub record CutAt (s : PlainStrand) (f : Fault) : Type 0 where
    pub start : NamedStart
    pub begins : IsStart s.start s.phase s.path start
    pub first : Breaks start f

  pub cut_of : (s : PlainStrand) (f : Fault) → s.phase ≡ Broken f → IsRightBy setting s → CutAt s f
  cut_of s f e (inl w) =
      let x = w.named in
      let ph : x.phase ≡ broken (named_fault setting f) = subst (λ ph. StandsAt setting ph s.below s x) e w.stands.now in
      record {
        start = x.start;
        begins = w.stands.start;
        first = right_broken setting.program.tree setting.tables (sight setting) (lookup setting) x.start x.layers x.frame (named_fault setting f) x.under
            (subst (λ ph. RightAt setting.program.tree setting.tables (sight setting) (lookup setting) x.start x.layers x.frame ph x.under) ph w.owns.tallied.right);
      }
  cut_of s f e (inr c) =
      let q : c.fault ≡ f = (let b : Broken c.fault ≡ Broken f = sym c.phase ∙ e in cc) in
      record { start = c.start; begins = c.begins; first = subst (λ f. Breaks c.start f) q c.first }

  pub sound_of : (s : PlainStrand) → ((f : Fault) → s.phase ≡ Broken f → ⊥) → IsRightBy setting s → IsSound setting s
  sound_of s n (inl w) = w
  sound_of s n (inr c) = absurd (n c.fault c.phase)

  -- ---- with its lowest layer alone

  pub alone_right : (s : PlainStrand) → HasFault s.phase → IsRightBy setting s → IsRightBy setting (lowest_alone s)
  alone_right s e h =
      let f = fault_there s.phase e in
      let c = cut_of s f.0 f.1 h in
      inr (record { fault = f.0; phase = f.1; start = c.start; begins = c.begins; first = c.first })

pub alone_kept : (setting : Setting) (start : Start) (failed : Bool) (now s s' : PlainStrand) → s ≡ now → HasFault now.phase → s' ≡ lowest_alone s → s'.layer.kinds ≡ s.layer.kinds → IsHeld setting start failed s → IsHeld setting start failed s'
alone_kept setting start failed now s s' same e is kinds h = record {
  kinds = kinds ∙ h.kinds;
  right = λ n k. subst (IsRightBy (recalling setting k)) (sym is) (alone_right (recalling setting k) s (subst (λ (s : PlainStrand). HasFault s.phase) (sym same) e) (h.right n k));
  begins = λ n. h.begins n ∙ ap (λ (s : PlainStrand). s.start) (sym is);
}
