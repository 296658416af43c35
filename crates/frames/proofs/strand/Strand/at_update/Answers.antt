use Rattle.std.proofs.Common.{sym, subst, ◌∙◌, ap}
use Rattle.positions.specs.Setting.{setting_with}
use Rattle.positions.specs.Moves.{at_update}
use Rattle.positions.specs.Simulation.{IsUpdateNext}
use Rattle.position_theory.proofs.Pauses.{update_next_is}
use Rattle.frames.proofs.strand.Strand.at_update.Goals as goal

pub returns-clause-next : goal.returns-clause-next
returns-clause-next g c tables kept records =
    let setting = setting_with c.args.program.now tables kept records in
    subst (λ b. IsUpdateNext setting c.args.self.now b) (sym (c.updates_next.ensures.update ∙ ap (at_update c.args.program.now.codes) c.self.view_is)) (update_next_is setting c.args.self.now)
