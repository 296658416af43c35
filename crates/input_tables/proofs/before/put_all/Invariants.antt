use Rattle.std.proofs.Common.{◌≡◌, take, vec_capacity}
use Rattle.input_tables.proofs.before.put_all.Given as goal

abbrev pub invariant-loop-number : goal.invariant-loop-number
invariant-loop-number l = record {
  put : l.list.items ≡ take l.number-index l.numbers;
  room : vec_capacity l.list ≡ vec_capacity l.fn.list;
}
