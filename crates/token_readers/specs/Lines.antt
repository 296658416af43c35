-- Lines of faults.
use Rattle.std.specs.Prelude.{ℕ, ◌+◌, List, [], ◌∷◌}
use Rattle.token_scanner.specs.Words.{Words}
use Rattle.token_scanner.specs.Scanning.{line_ends}

-- the line of the first of these tokens of a text, or that of its end
abbrev pub line_at : List ℕ → Words → ℕ
line_at text [] = line_ends text + 1
line_at text (t ∷ ts) = t.1
