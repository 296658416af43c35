-- Values so far, and the rest of them.
use Rattle.std.proofs.Common.{List, ◌++◌, Result, Ok, Err}
use Rattle.meaning.specs.declared.FaultKind.{FaultKind}

-- what came before the answer
abbrev pub before : {A : Type 0} → List A → Result (List A) FaultKind → Result (List A) FaultKind
before vs (Ok ws) = Ok (vs ++ ws)
before vs (Err k) = Err k
