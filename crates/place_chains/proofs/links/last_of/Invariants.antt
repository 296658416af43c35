use Rattle.std.proofs.Common.{◌≡◌, ◌≤◌, ◌<◌, ℕ, length, get_or}
use Rattle.place_chains.specs.Chains.{chain_of, IsInChain}
use Rattle.place_chains.proofs.links.last_of.Given as goal

abbrev pub invariant-loop-end : goal.invariant-loop-end
invariant-loop-end l = record {
  low : l.end ≤ l.fn.end;
  in_chain : IsInChain (length l.ends) l.numbers (chain_of (length l.ends) l.number) l.end;
  past : (i : ℕ) → l.end ≤ i → i < l.fn.end → get_or l.numbers i 0 ≡ l.number → ⊥;
}

abbrev pub decreases-loop-end : goal.decreases-loop-end
decreases-loop-end l = l.end
