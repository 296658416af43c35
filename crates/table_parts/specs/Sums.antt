-- A row's values put on the totals of their columns, each wrapped to 64 bits, and taken off them.
use Rattle.std.specs.Prelude.{ℤ, ◌+ℤ◌, ◌-ℤ◌, List, [], ◌∷◌}
use Rattle.std.specs.Int.{w64, int_wrap}

abbrev pub added : List ℤ → List ℤ → List ℤ
added ss [] = ss
added [] (v ∷ vs) = []
added (s ∷ ss) (v ∷ vs) = int_wrap w64 (s +ℤ v) ∷ added ss vs

abbrev pub taken : List ℤ → List ℤ → List ℤ
taken ss [] = ss
taken [] (v ∷ vs) = []
taken (s ∷ ss) (v ∷ vs) = int_wrap w64 (s -ℤ v) ∷ taken ss vs
