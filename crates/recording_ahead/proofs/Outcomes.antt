-- What is claimed where there is a value; and what a refusal leaves, said of the strand before the iterations that were over by then.
use Rattle.std.proofs.Common.{◌≡◌, ◌∙◌, suc, ◌∷◌, length, Option, None, Some, ap}
use Rattle.std.specs.Option.{OnSome}
use Rattle.positions.specs.Layers.{PlainLayer}
use Rattle.positions.specs.Strands.{PlainStrand}
use Rattle.running_ahead.specs.Leaves.{IsRefusedLeaf}
use Rattle.recording_ahead.specs.AnsweredChains.{IsRefusedBy, IsRefusedTurn}

pub on_some : {T P : Type 0} (o : Option T) → P → OnSome o P
on_some None p = tt
on_some (Some x) p = p

-- from that strand on only the topmost layer and what is counted have changed, and the list of open layers hasn't
module _ (s l t : PlainStrand) (others : l ≡ record s { layer = l.layer; tally = l.tally }) (kinds : l.layer.kinds ≡ s.layer.kinds) (opened : l.tally.opened ≡ s.tally.opened) where
  turn_before : IsRefusedTurn l t → IsRefusedTurn s t
  turn_before refused = record {
    lower = refused.lower ∙ ap (λ (z : PlainStrand). z.lower) others;
    kinds = refused.kinds ∙ kinds;
    opened = refused.opened ∙ opened;
    phase = refused.phase ∙ ap (λ (z : PlainStrand). z.phase) others;
  }

  leaf_before : IsRefusedLeaf l t → IsRefusedLeaf s t
  leaf_before refused = record {
    below = refused.below;
    lower = refused.lower ∙ ap (λ (z : PlainStrand). refused.below ∷ z.lower) others;
    below_kinds = refused.below_kinds ∙ kinds;
    kinds = refused.kinds ∙ kinds;
    opened = refused.opened ∙ ap (λ xs. suc (length xs)) opened;
    phase = refused.phase ∙ ap (λ (z : PlainStrand). z.phase) others;
  }

  pub refused_before : (own : Option PlainLayer) → IsRefusedBy own l t → IsRefusedBy own s t
  refused_before None = leaf_before
  refused_before (Some o) = turn_before
