use Rattle.std.proofs.Common.{◌≡◌, [], drop}
use Rattle.instance_records.specs.Readings.{all_of}
use Rattle.instance_records.proofs.pairs.are_nothing.Given as goal

abbrev pub invariant-loop-part : goal.invariant-loop-part
invariant-loop-part l = all_of (drop l.part-index l.parts) ≡ [] → all_of l.parts ≡ []
