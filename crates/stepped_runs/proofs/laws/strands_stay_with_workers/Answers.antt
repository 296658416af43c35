use Rattle.stepped_runs.proofs.Workers.{steps_by, refused_by}
use Rattle.stepped_runs.proofs.laws.strands_stay_with_workers.Goals as goal

pub returns : goal.returns
returns c = record { first = λ codes kinds initials entry kits n some. (some, tt); step = λ setting n s t e a is h. steps_by n setting s t e a is h; refused = refused_by }
