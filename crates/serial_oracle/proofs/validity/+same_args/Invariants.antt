use Rattle.std.proofs.Common.{length}
use Rattle.serial_oracle.proofs.validity.+same_args.Given as goal

abbrev pub decreases-same_args : goal.decreases-same_args
decreases-same_args l = length l.left.now
