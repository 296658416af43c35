use Rattle.stepped_runs.proofs.Ends.{same_answer, answers_elision}
use Rattle.stepped_runs.proofs.laws.ends_answer.Goals as goal

pub returns : goal.returns
returns c = record { same = same_answer; elision = answers_elision }
