-- Names of the tests' continuations.
use Rattle.std.specs.Prelude.{ℕ, List, replicate}

abbrev pub name : ℕ → List ℕ
name depth = replicate depth 0
