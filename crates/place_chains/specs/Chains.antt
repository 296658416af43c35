-- Places under numbers, and the chains that they are found in.
use Rattle.std.specs.Prelude.{◌≡◌, ◌≤◌, ◌<◌, ◌+◌, ◌-◌, ◌*◌, ◌/◌, ◌%◌, ℕ, nat_lt, cond, List, length, slice_index}

-- the number of each place in order, and how many places there is room for
pub record PlainPlaces : Type 0 where
  pub numbers : List ℕ
  pub room : ℕ

-- of the first so many, those before the end alone have a y, and the one at the end if there is an end
pub record IsEnd (f : ℕ → ℕ) (numbers : List ℕ) (first y end : ℕ) : Type 0 where
  pub within : end ≤ first
  pub last : 0 < end → f (slice_index numbers (end - 1)) ≡ y
  pub none : (i : ℕ) → end ≤ i → i < first → f (slice_index numbers i) ≡ y → ⊥

abbrev pub itself : ℕ → ℕ
itself n = n

-- one more than the last place of a number among the first so many, or 0
abbrev pub IsEndOf : List ℕ → ℕ → ℕ → ℕ → Type 0
IsEndOf numbers first number end = IsEnd itself numbers first number end

-- which of so many chains a number's places are in; those of numbers that differ by their last digit of sixteen lie side by side
unfoldable pub chain_of : ℕ → ℕ → ℕ
chain_of chains number = cond (nat_lt chains 16) (number % chains) (number / 16 * (chains - 15) / 268435456 + number % 16)

-- each chain's end, and for each place the end of what is before it in its chain
pub record AreChained (numbers befores ends : List ℕ) : Type 0 where
  pub places : length befores ≡ length numbers
  pub ends_are : (c : ℕ) → c < length ends → IsEnd (chain_of (length ends)) numbers (length numbers) c (slice_index ends c)
  pub befores_are : (p : ℕ) → p < length numbers
      → IsEnd (chain_of (length ends)) numbers p (chain_of (length ends) (slice_index numbers p)) (slice_index befores p)

-- the end of a chain, or of what is before one of its places
pub record IsInChain (chains : ℕ) (numbers : List ℕ) (c end : ℕ) : Type 0 where
  pub within : end ≤ length numbers
  pub last : 0 < end → chain_of chains (slice_index numbers (end - 1)) ≡ c
