use Rattle.std.proofs.Common.{◌∙◌}
use Rattle.record_theory.specs.Numbers.{numbered_by}
use Rattle.record_theory.proofs.InStep.{number_is, number_agrees}
use Rattle.instance_records.proofs.record.Record.agrees.Goals as goal

pub returns : goal.returns
returns c = record {
  agree = c.is_fresh.ensures.fresh
      ∙ number_agrees c.args.tables.now.tables c.args.self.now.reads c.args.number (number_is c.args.tables.now.tables (numbered_by c.args.number c.args.self.now) c.requires.counted) c.if-number-eq4294967295.false;
}
