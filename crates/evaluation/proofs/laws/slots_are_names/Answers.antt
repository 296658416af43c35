use Rattle.evaluation.proofs.Slots.{put_is, fresh_is}
use Rattle.evaluation.proofs.laws.slots_are_names.Goals as goal

pub returns : goal.returns
returns c = record { put = put_is; fresh = fresh_is }
