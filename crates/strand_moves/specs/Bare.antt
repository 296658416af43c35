-- Strands that hold nothing.
use Rattle.std.specs.Prelude.{◌≡◌, []}
use Rattle.positions.specs.Tallies.{no_tally}
use Rattle.positions.specs.Strands.{PlainStrand}

-- one layer, for which nothing was counted, and no arguments: whatever else lies there the next strand to begin there puts aside
pub record IsBare (s : PlainStrand) : Type 0 where
  pub lower : s.lower ≡ []
  pub arguments : s.arguments ≡ []
  pub tally : s.tally ≡ no_tally
