use Rattle.std.proofs.Common.{sym, ap, subst, ◌∙◌}
use Rattle.positions.specs.Setting.{setting_with}
use Rattle.positions.specs.Strands.{PlainStrand}
use Rattle.positions.specs.Moves.{first_strand}
use Rattle.positions.specs.Simulation.{IsFirst}
use Rattle.position_theory.proofs.Moves.{first_is}
use Rattle.frames.proofs.strand.Strand.first.Goals as goal

pub returns-in-Ok-clause-beginning : goal.returns-in-Ok-clause-beginning
returns-in-Ok-clause-beginning g c tables kept records =
    let p = c.args.program.now in
    let setting = setting_with p tables kept records in
    subst (λ (z : PlainStrand). IsFirst setting z) (sym (c.in-Ok.ensures.first ∙ ap (λ ks. first_strand p.codes ks p.initials p.main) c.requires.kinds))
    (first_is setting (record { codes = c.linked.ensures.codes; kinds = c.linked.ensures.kinds }) p.initials c.beginning.ensures.updates p.main c.linked.ensures.main)
