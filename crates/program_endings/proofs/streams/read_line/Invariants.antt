use Rattle.std.proofs.Common.{◌≡◌, All}
use Rattle.std.specs.Io.KnownBytes.{Consumes}
use Rattle.program_endings.specs.Written.{IsNoEnd}
use Rattle.program_endings.proofs.streams.read_line.Given as goal

-- what was taken is the line so far, which has no end, and nothing is noted
abbrev pub invariant-loop : goal.invariant-loop
invariant-loop g l = record {
  taken : Consumes (g.R.Read.remaining l.fn.reader) (g.R.Read.remaining l.reader) l.line.items;
  one : All IsNoEnd l.line.items;
  unmarked : l.failures ≡ l.fn.failures;
}
