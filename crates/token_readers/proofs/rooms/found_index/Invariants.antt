use Rattle.std.proofs.Common.{◌≡◌, ◌+◌, drop}
use Rattle.std.specs.Option.{option_map}
use Rattle.source_tree.specs.Source.{texts}
use Rattle.source_tree.specs.Lowering.{found_index}
use Rattle.token_readers.proofs.rooms.found_index.Given as goal

abbrev pub invariant-loop-place : goal.invariant-loop-place
invariant-loop-place l = option_map (λ n. l.place + n) (found_index l.name (texts (drop l.place l.names))) ≡ found_index l.name (texts l.names)
