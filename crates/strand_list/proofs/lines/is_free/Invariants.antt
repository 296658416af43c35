use Rattle.std.proofs.Common.{◌≡◌, drop}
use Rattle.meaning.specs.Strands.{is_free}
use Rattle.strand_list.specs.Pages.{shown}
use Rattle.strand_list.proofs.lines.is_free.Given as goal

abbrev pub invariant-loop-line : goal.invariant-loop-line
invariant-loop-line l = is_free (shown l.lines) l.worker ≡ is_free (shown (drop l.line-index l.lines)) l.worker
