use Rattle.std.proofs.Common.{◌≡◌, map, drop}
use Rattle.program_edits.specs.Putting.{is_in}
use Rattle.program_edits.proofs.putting.is_in.Given as goal

abbrev pub invariant-loop-other : goal.invariant-loop-other
invariant-loop-other l = is_in l.name (map (λ x. x.now) (drop l.other-index l.names)) ≡ is_in l.name (map (λ x. x.now) l.names)
