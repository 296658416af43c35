use Rattle.std.proofs.Common.{◌∙◌, ap}
use Rattle.gathered_records.specs.Gathering.{moved_to}
use Rattle.gathered_records.proofs.Rows.{moved_twice}
use Rattle.gathered_records.proofs.gathering.go_on.Goals as goal

pub returns-in-Some-clause-row : goal.returns-in-Some-clause-row
returns-in-Some-clause-row c = λ z. ap (λ r. moved_to r z) c.go_to.ensures.there ∙ moved_twice c.args.row.now _ z
