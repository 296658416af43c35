-- The kits of a strand are those that its supply counts.
use Rattle.std.proofs.Common.{◌≡◌, ℕ, suc, ◌+◌, ◌≤◌, length, ap, arith}
use Rattle.positions.specs.Strands.{PlainStrand}
use Rattle.sync_fold.specs.Counts.{kits_of}
use Rattle.worker_seats.specs.Balances.{most}

-- a small step loses none of them
pub fed_on : (r s t : PlainStrand) (free left : ℕ) → kits_of r + free ≡ most → s.lower ≡ r.lower → (suc (length s.lower) + free ≤ most → length t.lower + left ≡ length s.lower + free) → kits_of t + left ≡ most
fed_on r s t free left all same steps =
    let long : length s.lower ≡ length r.lower = ap length same in
    let all : suc (length r.lower) + free ≡ most = all in
    let kits : length t.lower + left ≡ length s.lower + free = steps (omega arith) in
    omega arith
