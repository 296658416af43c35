-- What many steps in one go keep.
use Rattle.std.proofs.Common.{◌≡◌, List, All, sym, subst}
use Rattle.monoid_laws.specs.declared.Kind.{Kind}
use Rattle.record_theory.specs.Named.{HaveValues}
use Rattle.positions.specs.Setting.{Setting}
use Rattle.positions.specs.Layers.{PlainLayer}
use Rattle.positions.specs.Tallies.{PlainTally}
use Rattle.positions.specs.Strands.{PlainStrand}
use Rattle.small_steps.specs.Steps.{IsWhole}
use Rattle.answered_loops.proofs.Ways.{way_layered}
use Rattle.running_ahead.specs.Ahead.{IsAhead}

-- what the type of a strand keeps
pub ahead_whole : (setting : Setting) (s t : PlainStrand) → IsAhead setting s t → IsWhole s → IsWhole t
ahead_whole setting s t ahead h = record {
  layered = way_layered setting s t ahead.way h.layered;
  kinds = subst (λ ls. All (λ (l : PlainLayer). l.kinds ≡ t.layer.kinds) ls) (sym ahead.lower) (subst (λ (ks : List Kind). All (λ (l : PlainLayer). l.kinds ≡ ks) s.lower) (sym ahead.kinds) h.kinds);
  made = subst (λ (ks : List Kind). HaveValues ks t.tally.made) (sym ahead.kinds) (subst (λ (x : PlainTally). HaveValues s.layer.kinds x.made) (sym ahead.tally) h.made);
}
