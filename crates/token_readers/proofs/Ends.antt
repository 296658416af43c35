-- The line of a fault.
use Rattle.std.proofs.Common.{◌≡◌, ℕ, zero, suc, ◌<◌, List, [], ◌∷◌, length, slice_index_or, drop, refl, arith}
use Rattle.token_scanner.specs.declared.token.Placed.{Placed}
use Rattle.token_scanner.specs.Words.{words}
use Rattle.token_readers.specs.Lines.{line_at}

pub line_there : (text : List ℕ) (ts : List Placed) (at : ℕ) (d : Placed) → at < length ts → (slice_index_or ts at d).line ≡ line_at text (drop at (words ts))
line_there text [] at d h = absurd (omega arith)
line_there text (t ∷ ts) zero d h = refl
line_there text (t ∷ ts) (suc at) d h = line_there text ts at d (omega arith)
