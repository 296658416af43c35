use Rattle.std.proofs.Common.{◌≡◌, drop}
use Rattle.meaning.specs.Every.{every}
use Rattle.rerun_records.specs.Blocks.{is_home}
use Rattle.rerun_records.proofs.level.are_home.Given as goal

abbrev pub invariant-loop-place : goal.invariant-loop-place
invariant-loop-place l = every (is_home l.homes l.number) l.places ≡ every (is_home l.homes l.number) (drop l.place-index l.places)
