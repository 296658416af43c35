use Rattle.stepped_runs.proofs.Nexts.{none_sound, held_sound, put_sound, next_prepared}
use Rattle.stepped_runs.proofs.laws.next_runs_are_prepared.Goals as goal

pub returns : goal.returns
returns c = record { begins = none_sound; held = held_sound; put = put_sound; next = next_prepared }
