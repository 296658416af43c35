use Rattle.std.proofs.Common.{◌≡◌, All, length}
use Rattle.running_ahead.proofs.called_halves.copies.Given as goal

abbrev pub invariant-loop : goal.invariant-loop
invariant-loop l = record {
  many : length l.copies.items ≡ l.counter;
  copies : All (λ v. v.items ≡ l.top.slots) l.copies.items;
  nest : l.spares.nest ≡ l.fn.spares.nest;
}
