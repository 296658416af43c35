use Rattle.std.proofs.Common.{◌≡◌, ℕ, List, Option, Some, IfSome, refl, subst, inr}
use Rattle.std.proofs.lemmas.Result.{err_from_is_err_and}
use Rattle.std.specs.Io.KnownBytes.{Appends}
use Rattle.program_endings.specs.Written.{HasBeginning}
use Rattle.script_session.proofs.Answering.{first_written}
use Rattle.script_session.proofs.Coming.{first_read}
use Rattle.cli.proofs.Headline.{reported}
use Rattle.cli.proofs.Opening.{unmade_unopened, late_unopened, late_read}
use Rattle.cli.proofs.program.report_in.Goals as goal

of_some : (P : List ℕ → Type 0) (o : Option (List ℕ)) (x : List ℕ) → o ≡ Some x → IfSome o P → P x
of_some P o x e h = subst (λ o. IfSome o P) e h

pub returns-in-Ok-clause-answered : goal.returns-in-Ok-clause-answered
returns-in-Ok-clause-answered g c program tables script p t s =
    let session = c.args.session.now in
    let opened = c.requires.opened program tables p t in
    let old = g.W.Write.contents c.args.writer.now in
    let new = g.W.Write.contents c.answered.new.writer in
    let wrote = of_some _ (g.R.Read.remaining c.args.reader.now) script s c.in-Ok.ensures.answered in
    reported program tables script old new session.checked session.tables.tables opened.0 opened.1
    (first_written session c.requires.unedited (Appends old new) script wrote)

pub returns-in-Ok-clause-beginning : goal.returns-in-Ok-clause-beginning
returns-in-Ok-clause-beginning g c program tables script p t s =
    let session = c.args.session.now in
    let opened = c.requires.opened program tables p t in
    let wrote = of_some _ (g.R.Read.remaining c.args.reader.now) script s c.in-Ok.ensures.beginning in
    inr (
      session.checked,
      session.tables.tables,
      opened.1,
      first_written session c.requires.unedited (HasBeginning (g.W.Write.contents c.args.writer.now) (g.W.Write.contents c.answered.new.writer)) script wrote,
    )

pub returns-clause-beginning : goal.returns-clause-beginning
returns-clause-beginning g c program tables script p t s =
    let session = c.args.session.now in
    let opened = c.requires.opened program tables p t in
    let wrote = of_some _ (g.R.Read.remaining c.args.reader.now) script s c.in-Err.ensures.beginning in
    inr (
      session.checked,
      session.tables.tables,
      opened.1,
      first_written session c.requires.unedited (HasBeginning (g.W.Write.contents c.args.writer.now) (g.W.Write.contents c.answered.new.writer)) script wrote,
    )

pub returns-in_err-notes-clause-unopened : goal.returns-in_err-notes-clause-unopened
returns-in_err-notes-clause-unopened g c =
    let p = err_from_is_err_and c.from_residual.result c.from_residual.ensures.1 in
    let session = c.args.session.now in
    rw (p.1, p.2) (unmade_unopened (g.F.FileSource.held c.args.files.now) c.args.setting.now.options session.checked session.tables.tables _ c.in_err-notes.field-0.0 refl c.in_err-notes.ensures.unmade c.requires.opened)

pub returns-clause-unopened : goal.returns-clause-unopened
returns-clause-unopened g c =
    late_unopened (g.F.FileSource.held c.args.files.now) c.args.setting.now.options c.ended_by.result c.ended_by.ensures.named

pub returns-clause-unread : goal.returns-clause-unread
returns-clause-unread g c h = absurd (late_read _ c.ended_by.result c.ended_by.ensures.named h)

pub returns-clause-read : goal.returns-clause-read
returns-clause-read g c live is program tables p t =
    let session = c.args.session.now in
    let opened = c.requires.opened program tables p t in (
      session.checked,
      session.tables.tables,
      opened.1,
      first_read session c.requires.unedited _ _ _ _ (c.in-Err.ensures.read live (let e = c.ended_by.ensures.input.0 cc in cc)),
    )

pub returns-clause-input_stays : goal.returns-clause-input_stays
returns-clause-input_stays g c other =
    c.in-Err.ensures.input_stays (λ e. let r = c.ended_by.ensures.input.1 cc in other cc)
