use Rattle.std.proofs.Common.{◌≡◌, OnOk, rules}
use Rattle.positions.specs.Setting.{setting_with}
use Rattle.positions.specs.Moves.{stolen}
use Rattle.frames.proofs.Thefts.{stolen_or}
use Rattle.frames.proofs.Whole.{begun_or}
use Rattle.frames.proofs.strand.Strand.begin_stolen.Goals as goal

pub invariant_of-self : goal.invariant_of-self
invariant_of-self g c = begun_or c.args.program.now.codes c.args.kit c.args.task c.begin_stolen.new.machine c.begin_stolen.result c.begin_stolen.ensures.stolen c.begin_stolen.ensures.bare

pub returns-clause-definition : goal.returns-clause-definition
returns-clause-definition g c tables kept records =
    let p = c.args.program.now in
    stolen_or (setting_with p tables kept records) (record { codes = c.linked.ensures.codes; kinds = c.linked.ensures.kinds }) c.args.kit c.args.task c.begin_stolen.new.machine c.begin_stolen.result c.requires.kinds c.begin_stolen.ensures.stolen
