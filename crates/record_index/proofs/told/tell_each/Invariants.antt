use Rattle.std.proofs.Common.{◌≡◌, length, take}
use Rattle.linked_program.specs.Checked.{names_in, numbers_in}
use Rattle.record_index.proofs.told.tell_each.Given as goal

abbrev pub invariant-loop-number : goal.invariant-loop-number
invariant-loop-number l = record {
  same : names_in (numbers_in l.names) ≡ names_in (numbers_in l.fn.names);
  long : length l.names ≡ length l.fn.names;
  told : take l.number (numbers_in l.names) ≡ take l.number l.program.revisions;
}
