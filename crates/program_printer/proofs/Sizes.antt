-- How many expressions are in one.
use Rattle.std.proofs.Common.{ℕ, ◌+◌}
use Rattle.meaning.specs.Tree.{Term, number, name, cell, has, limit, sum, negate, binary}

abbrev pub size : Term → ℕ
size (number n) = 1
size (name x) = 1
size (cell t e c) = size e + 1
size (has t e) = size e + 1
size (limit t) = 1
size (sum t c) = 1
size (negate e) = size e + 1
size (binary o a b) = size a + size b + 1
