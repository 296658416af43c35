use Rattle.std.proofs.Common.{◌∙◌, ap, subst, sym}
use Rattle.meaning.specs.Every.{every}
use Rattle.record_theory.specs.Validity.{note_agrees}
use Rattle.rerun_reasons.proofs.Deep.{changes_none}
use Rattle.rerun_reasons.proofs.stale.changed.Goals as goal

pub returns-then-agree : goal.returns-then-agree
returns-then-agree c =
    let tables = c.args.setting.tables.now.tables in
    record { changed = sym (changes_none tables c.args.record.now.reads (sym (ap (every (note_agrees tables)) c.reads.ensures.reads) ∙ sym c.agree.ensures.agree ∙ c.if-agree.true)) }
