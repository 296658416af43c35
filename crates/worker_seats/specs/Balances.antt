-- Where the kits of a run are.
use Rattle.std.specs.Prelude.{◌≡◌, ◌+◌, ℕ, suc, List, Option, Some, None}
use Rattle.positions.specs.Strands.{PlainStrand}
use Rattle.sync_fold.specs.Books.{PlainLaid}
use Rattle.sync_fold.specs.Counts.{kits_of, kits_laid, held_among}

-- more parts than there are strands, and more kits
abbrev pub most : ℕ
most = 18446744073709551615

-- how many kits are free, how many are with strands that workers hold, how many parts no such strand has, and how many kits were free when the run began
pub record PlainDepot : Type 0 where
  pub free : ℕ
  pub out : ℕ
  pub parts : ℕ
  pub begun : ℕ

-- each kit is free, or with a strand that a worker holds or that is laid down; and each such strand that a worker holds has a part
abbrev pub Balances : PlainDepot → List PlainLaid → Type 0
Balances d laid = (d.free + (d.out + kits_laid laid) ≡ d.begun) × (d.parts + held_among laid ≡ most)

-- a depot balances but for a kit that was taken for a strand
abbrev pub LacksOne : PlainDepot → List PlainLaid → Type 0
LacksOne d laid = (suc (d.free + (d.out + kits_laid laid)) ≡ d.begun) × (d.parts + held_among laid ≡ most)

-- and but for the part of that strand, which a worker holds already
abbrev pub LacksPart : PlainDepot → List PlainLaid → Type 0
LacksPart d laid = (suc (d.free + (d.out + kits_laid laid)) ≡ d.begun) × (d.parts + held_among laid ≡ suc most)

-- a depot balances but for a strand that a worker holds, whose kits aren't counted yet and which has no part
abbrev pub Lacks : PlainStrand → PlainDepot → List PlainLaid → Type 0
Lacks s d laid = (d.free + (d.out + (kits_of s + kits_laid laid)) ≡ d.begun) × (d.parts + held_among laid ≡ suc most)

-- a kit that lies beside the lock, or none
abbrev pub spare_count : {K : Type 0} → Option K → ℕ
spare_count None = 0
spare_count (Some k) = 1
