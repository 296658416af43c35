-- Which executed instances have a new record: each, as often as it was executed, but for as many as went unrecorded.
use Rattle.std.specs.Prelude.{◌≡◌, ℕ, List, ◌++◌, length, map, IsPermutation}
use Rattle.meaning.specs.Records.{Kept, Key}

-- a record's name and arguments
abbrev pub key_of : Kept → Key
key_of k = (k.of, k.args)

-- those records' keys, with so many others, are those keys, each as often
pub record AllRecordedBut (unrecorded : ℕ) (made : List Kept) (keys : List Key) : Type 0 where
  pub passed : List Key
  pub counted : length passed ≡ unrecorded
  pub each : IsPermutation (map key_of made ++ passed) keys
