use Rattle.std.proofs.Common.{◌≡◌, drop}
use Rattle.strand_list.specs.Pages.{shown}
use Rattle.threaded_driver.specs.Folds.{waits_behind, has_pair}
use Rattle.threaded_driver.proofs.desk.has_pair.Given as goal

abbrev pub invariant-loop-line : goal.invariant-loop-line
invariant-loop-line l = has_pair (shown l.lines) ≡ waits_behind l.is_behind_done (shown (drop l.line-index l.lines))
