use Rattle.run_theory.specs.UnflaggedRuns.{unflagged_run}
use Rattle.stepped_runs.proofs.Halves.{refused_kept}
use Rattle.stepped_runs.proofs.laws.refused_folds_keep_runs.Goals as goal

pub returns : goal.returns
returns c = record { kept = λ setting r s h x. refused_kept setting r s h (unflagged_run x) }
