use Rattle.std.proofs.Common.{◌≡◌, take, length, vec_capacity}
use Rattle.place_chains.specs.Chains.{AreChained}
use Rattle.place_chains.proofs.links.link_all.Given as goal

abbrev pub invariant-loop-number : goal.invariant-loop-number
invariant-loop-number l = record {
  chained : AreChained (take l.number-index l.numbers) l.befores.items l.ends;
  count : length l.befores.items ≡ l.number-index;
  ends : length l.ends ≡ length l.fn.ends;
  room : vec_capacity l.befores ≡ vec_capacity l.fn.befores;
}
