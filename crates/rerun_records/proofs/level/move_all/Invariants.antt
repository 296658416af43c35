use Rattle.std.proofs.Common.{◌≡◌, take, true, length}
use Rattle.meaning.specs.Every.{every}
use Rattle.rerun_records.specs.Blocks.{Remain, AreHoused, is_home}
use Rattle.rerun_records.proofs.level.move_all.Given as goal

abbrev pub invariant-loop-place : goal.invariant-loop-place
invariant-loop-place l = record {
  housed : AreHoused l.homes.items l.blocks.items;
  remain : Remain l.blocks.items l.fn.blocks.items;
  count : length l.blocks.items ≡ length l.fn.blocks.items;
  there : every (is_home l.homes.items l.number) (take l.place-index l.places) ≡ true;
}
