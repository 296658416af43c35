use Rattle.std.proofs.Common.{◌≡◌, ◌+◌, drop}
use Rattle.meaning.specs.Tables.{index_of}
use Rattle.linked_program.specs.Checked.{names_in, numbers_in}
use Rattle.record_index.proofs.told.number_of.Given as goal

abbrev pub invariant-loop-number : goal.invariant-loop-number
invariant-loop-number l = index_of (names_in (numbers_in l.names)) l.name ≡ l.number + index_of (names_in (numbers_in (drop l.number l.names))) l.name
