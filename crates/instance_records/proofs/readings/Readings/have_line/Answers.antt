use Rattle.std.proofs.Common.{ap, sym, subst, ◌∙◌}
use Rattle.instance_records.specs.Full.{HasCells}
use Rattle.instance_records.specs.Readings.{node_notes, notes_in}
use Rattle.instance_records.proofs.readings.Readings.have_line.Goals as goal

pub returns-in-Shared : goal.returns-in-Shared
returns-in-Shared c = record {
  have = λ e.
      subst (λ ns. HasCells ns c.args.change.now.0 c.args.change.now.1 c.args.first c.args.end) (ap node_notes c.deref.ensures ∙ sym (ap notes_in c.in-Shared.is) ∙ c.self.view_is)
      (c.has_line.ensures.has e);
}
