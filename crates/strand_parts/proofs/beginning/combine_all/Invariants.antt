use Rattle.std.proofs.Common.{◌≡◌, All, drop, map}
use Rattle.linked_program.specs.Initials.{plain_initial}
use Rattle.positions.specs.Layers.{begun}
use Rattle.strand_parts.specs.Begins.{IsInitial}
use Rattle.strand_parts.proofs.beginning.combine_all.Given as goal

abbrev pub invariant-loop-initial : goal.invariant-loop-initial
invariant-loop-initial g l = record {
  kinds : l.layer.kinds ≡ l.fn.kinds;
  fit : All (λ i. IsInitial l.fn.kinds (plain_initial i)) (drop l.initial-index l.initials);
  begun : begun l.fn.kinds (map plain_initial (drop l.initial-index l.initials)) l.layer ≡ begun l.fn.kinds (map plain_initial l.initials) l.fn.layer;
}
