use Rattle.std.proofs.Common.{◌≡◌}
use Rattle.std.specs.Io.KnownBytes.{Keeps}
use Rattle.program_endings.proofs.streams.flush.Given as goal

-- the writer has what it had, and nothing is noted
abbrev pub invariant-loop : goal.invariant-loop
invariant-loop g l = record {
  kept : Keeps (g.W.Write.contents l.fn.writer) (g.W.Write.contents l.writer);
  unmarked : l.failures ≡ l.fn.failures;
}
