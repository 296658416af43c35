use Rattle.stepped_runs.proofs.News.{run_counted, run_recorded}
use Rattle.stepped_runs.proofs.laws.runs_count_and_record.Goals as goal

pub returns : goal.returns
returns c = record { counted = run_counted; recorded = run_recorded }
