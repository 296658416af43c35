-- What a writer has got of some bytes, and a reader given.
use Rattle.std.specs.Prelude.{◌≡◌, ◌==◌, ℕ, false, List, Option, IfSome, take}
use Rattle.std.specs.Io.KnownBytes.{Appends, Consumes}

-- known bytes grew by a beginning of these
abbrev pub HasBeginning : Option (List ℕ) → Option (List ℕ) → List ℕ → Type 0
HasBeginning old new bytes = (n : ℕ) × Appends old new (take n bytes)

-- known bytes grew by all answers to a known script
abbrev pub WritesAll : (List ℕ → List ℕ) → Option (List ℕ) → Option (List ℕ) → Option (List ℕ) → Type 0
WritesAll answers script old new = IfSome script (λ known. Appends old new (answers known))

-- known bytes grew by a beginning of the answers to a known script
abbrev pub WritesBeginning : (List ℕ → List ℕ) → Option (List ℕ) → Option (List ℕ) → Option (List ℕ) → Type 0
WritesBeginning answers script old new = IfSome script (λ known. HasBeginning old new (answers known))

-- a byte that is no end of a line
abbrev pub IsNoEnd : ℕ → Type 0
IsNoEnd b = (b == 10) ≡ false

-- some bytes of a reader were read, and known bytes grew by the answers to those
abbrev pub WritesRead : (List ℕ → List ℕ) → Option (List ℕ) → Option (List ℕ) → Option (List ℕ) → Option (List ℕ) → Type 0
WritesRead answers unread left old new = (read : List ℕ) × Consumes unread left read × Appends old new (answers read)
