use Rattle.numbered_runs.proofs.Kits.{left_kits}
use Rattle.worker_seats.proofs.beginning.first_of.Goals as goal

pub returns-in-Ok-clause-kits : goal.returns-in-Ok-clause-kits
returns-in-Ok-clause-kits g c = left_kits g.J.Run.setting.kinds c.args.pool.kits c.take.new.self.kits c.in-Some.kit c.in-Some.ensures.one c.requires.kits
