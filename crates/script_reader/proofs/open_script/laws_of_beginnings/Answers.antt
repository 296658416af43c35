use Rattle.script_reader.proofs.Beginnings.{left_behind, part_adds_none}
use Rattle.script_reader.proofs.open_script.laws_of_beginnings.Goals as goal

pub returns-clause-left : goal.returns-clause-left
returns-clause-left c = left_behind

pub returns-clause-part : goal.returns-clause-part
returns-clause-part c = part_adds_none
