use Rattle.std.proofs.Common.{◌≡◌}
use Rattle.std.specs.Io.KnownBytes.{Consumes}
use Rattle.program_endings.proofs.streams.read_all.Given as goal

-- what was taken is the script so far, and nothing is noted
abbrev pub invariant-loop : goal.invariant-loop
invariant-loop g l = record {
  taken : Consumes (g.R.Read.remaining l.fn.reader) (g.R.Read.remaining l.reader) l.script.items;
  unmarked : l.failures ≡ l.fn.failures;
}
