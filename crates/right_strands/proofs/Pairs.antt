-- Two pieces that may be joined are a pair.
use Rattle.std.proofs.Common.{◌≡◌, ◌⊎◌, inl, inr, ◌&&◌, ℤ, true, false, [], refl, sym, ap, ◌∙◌, subst}
use Rattle.meaning.specs.SmallStep.{same_name}
use Rattle.strand_theory.proofs.Names.{both_are}
use Rattle.positions.specs.declared.phase.Phase.TheVariants.{Leaving, Broken}
use Rattle.positions.specs.declared.phase.Paused.TheVariants as paused
use Rattle.positions.specs.declared.start.Start.{Start}
use Rattle.positions.specs.Setting.{Setting}
use Rattle.positions.specs.Advance.{pause_of}
use Rattle.positions.specs.Simulation.{place_of}
use Rattle.positions.specs.Strands.{PlainStrand}
use Rattle.activations.specs.Waiting.{leaves_none}
use Rattle.right_strands.specs.Remembering.{Remembers, recalling}
use Rattle.right_strands.specs.Rightness.{IsRightBy, IsRightStrand}
use Rattle.strand_list.specs.declared.laid_state.LaidState.{LaidState}
use Rattle.strand_list.specs.declared.laid_state.LaidState.TheVariants as laid_state
use Rattle.right_strands.specs.Laid.{PlainPiece, IsPausedAs}
use Rattle.right_strands.specs.Pairs.{StopsBroken, IsStill, IsPair, IsPairFrom, is_over, is_waiting, frees, may_follow, may_pair}
use Rattle.right_strands.proofs.Points.{fault_is}
use Rattle.right_strands.proofs.Waiting.{waiting_decided}
use Rattle.right_strands.proofs.Joins.{stalled_alone}

-- ---- what two pieces that may be joined by their names know of them

both_of : (l r : PlainPiece) → may_pair l r ≡ true → l.state ≡ laid_state.Ended → (same_name (place_of r.strand.start r.strand.path) l.strand.path && frees r.state l.strand r.strand) ≡ true
both_of l r h e = sym (ap (λ q. may_follow q l r) e) ∙ h

named_by : (l r : PlainPiece) → may_pair l r ≡ true → l.state ≡ laid_state.Ended → same_name (place_of r.strand.start r.strand.path) l.strand.path ≡ true
named_by l r h e = (both_are (same_name (place_of r.strand.start r.strand.path) l.strand.path) (frees r.state l.strand r.strand) (both_of l r h e)).0

freed_by : (l r : PlainPiece) → may_pair l r ≡ true → l.state ≡ laid_state.Ended → r.state ≡ laid_state.Stalled → leaves_none l.strand r.strand ≡ true
freed_by l r h e f = sym (ap (λ q. frees q l.strand r.strand) f) ∙ (both_are (same_name (place_of r.strand.start r.strand.path) l.strand.path) (frees r.state l.strand r.strand) (both_of l r h e)).1

module _ (setting : Setting) where
  left_over : (r : LaidState) (s : PlainStrand) → is_over r ≡ true → IsPausedAs setting.codes r s → (pause_of setting.codes s ≡ paused.Returned) ⊎ StopsBroken s
  left_over laid_state.Ended s e h = inl h.at
  left_over laid_state.Faulted s e h = inr (fault_is setting.codes s h.at)
  left_over laid_state.Stalled s e h = absurd cc
  left_over laid_state.Finished s e h = absurd cc

  right_waits : (r : LaidState) (s : PlainStrand) → is_waiting r ≡ true → IsPausedAs setting.codes r s → (pause_of setting.codes s ≡ paused.AtSync) ⊎ StopsBroken s
  right_waits laid_state.Stalled s e h = inl h.at
  right_waits laid_state.Faulted s e h = inr (fault_is setting.codes s h.at)
  right_waits laid_state.Ended s e h = absurd cc
  right_waits laid_state.Finished s e h = absurd cc

  right_alone : (r : LaidState) (s : PlainStrand) → is_waiting r ≡ true → IsPausedAs setting.codes r s → IsRightBy setting s → s.lower ≡ []
  right_alone laid_state.Stalled s e h k = stalled_alone setting s h.at k
  right_alone laid_state.Faulted s e h k = h.layers
  right_alone laid_state.Ended s e h k = absurd cc
  right_alone laid_state.Finished s e h k = absurd cc

  -- a left strand that leaves has ended
  ends_when : (r : LaidState) (s : PlainStrand) (v : ℤ) → is_over r ≡ true → IsPausedAs setting.codes r s → s.phase ≡ Leaving v → r ≡ laid_state.Ended
  ends_when laid_state.Ended s v e h q = refl
  ends_when laid_state.Faulted s v e h q = let f = fault_is setting.codes s h.at in absurd (let c : Leaving v ≡ Broken f.0 = sym q ∙ f.1 in cc)
  ends_when laid_state.Stalled s v e h q = absurd cc
  ends_when laid_state.Finished s v e h q = absurd cc

  -- a right strand at a sync is stalled
  stalls_when : (r : LaidState) (s : PlainStrand) → is_waiting r ≡ true → IsPausedAs setting.codes r s → pause_of setting.codes s ≡ paused.AtSync → r ≡ laid_state.Stalled
  stalls_when laid_state.Stalled s e h q = refl
  stalls_when laid_state.Faulted s e h q = absurd (let c : paused.AtSync ≡ paused.Faulted = sym q ∙ h.at in cc)
  stalls_when laid_state.Ended s e h q = absurd cc
  stalls_when laid_state.Finished s e h q = absurd cc

  -- a piece: what its type keeps
  pub record Lies (p : PlainPiece) : Type 0 where
    pub right : IsRightBy setting p.strand
    pub paused_so : IsPausedAs setting.codes p.state p.strand
    pub kinds : p.strand.layer.kinds ≡ setting.kinds

  pair_there : (l r : PlainPiece) → Lies l → Lies r → is_over l.state ≡ true → is_waiting r.state ≡ true → may_pair l r ≡ true → IsPair setting l.strand r.strand
  pair_there l r hl hr over waits may = record {
    left_worths = l.strand.layer.worths;
    right_worths = r.strand.layer.worths;
    left = hl.right;
    right = hr.right;
    product = refl;
    left_kinds = hl.kinds;
    right_kinds = hr.kinds;
    one_layer = right_alone r.state r.strand waits hr.paused_so hr.right;
    over = left_over l.state l.strand over hl.paused_so;
    waits = right_waits r.state r.strand waits hr.paused_so;
    behind = λ v e. named_by l r may (ends_when l.state l.strand v over hl.paused_so e);
    free = λ v e q x y t u w i k. waiting_decided setting l.strand r.strand v e q x y t u w i k ∙ freed_by l r may (ends_when l.state l.strand v over hl.paused_so e) (stalls_when r.state r.strand waits hr.paused_so q);
  }

-- a piece: what its type keeps
pub record LiesFor (setting : Setting) (p : PlainPiece) : Type 0 where
  pub right : IsRightStrand setting p.strand
  pub paused_so : IsPausedAs setting.codes p.state p.strand
  pub kinds : p.strand.layer.kinds ≡ setting.kinds

lies_at : (setting : Setting) (k : Remembers setting) (p : PlainPiece) → LiesFor setting p → Lies (recalling setting k) p
lies_at setting k p h = record { right = h.right k; paused_so = h.paused_so; kinds = h.kinds }

pub pair_of : (setting : Setting) (l r : PlainPiece) (s t : PlainStrand) (start : Start) → s ≡ l.strand → t ≡ r.strand → start ≡ l.strand.start → LiesFor setting l → LiesFor setting r → is_over l.state ≡ true → is_waiting r.state ≡ true → may_pair l r ≡ true → IsPairFrom setting start s t
pair_of setting l r s t start a b c hl hr over waits may = record {
  pair = λ k. subst (λ s. IsPair (recalling setting k) s t) (sym a) (subst (IsPair (recalling setting k) l.strand) (sym b) (pair_there (recalling setting k) l r (lies_at setting k l hl) (lies_at setting k r hr) over waits may));
  begins = c ∙ ap (λ (s : PlainStrand). s.start) (sym a);
}
