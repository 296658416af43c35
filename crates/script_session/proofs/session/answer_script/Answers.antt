use Rattle.std.proofs.Common.{◌∙◌, [], ap, inr, map, refl, subst, append_assoc, arith}
use Rattle.std.proofs.lemmas.Result.{err_from_is_err_and}
use Rattle.script_reader.specs.Said.{said}
use Rattle.kept_session.specs.Sessions.{standing_of}
use Rattle.script_session.specs.Answers.{IsLeftByFirst, answers_from, left_by_commands}
use Rattle.program_endings.specs.Written.{HasBeginning}
use Rattle.script_session.proofs.Answering.{all_left_by, first_may_be_left, one_more_answer, one_more_left, runs_after-le}
use Rattle.script_session.proofs.Errors.{handed_on, on_err, written_not_read}
use Rattle.program_endings.proofs.Written.{Appends-more, Appends-nothing, beginning_of, beginning_after}
use Rattle.script_session.proofs.session.answer_script.Goals as goal

pub returns-in_err-written-clause-beginning : goal.returns-in_err-written-clause-beginning
returns-in_err-written-clause-beginning g c =
    let w = c.loop-command.invariant.written in
    let all = ap (map said) c.deref-command-items.ensures.value ∙ c.in-Ok.ensures in
    let next = one_more_answer (standing_of c.loop-command.session) _ c.loop-command.runs _ c.loop-command.command-index c.deref-command-items.result.now c.command-item.result w.0 _ c.loop-command-test.true c.command-item.is refl refl w.2 in
    subst (λ cs. HasBeginning (g.W.Write.contents c.args.writer.now) (g.W.Write.contents c.answer_written.new.writer) (answers_from (standing_of c.args.session.now) 0 cs)) all
    (beginning_after _ _ _ w.0 _ _ _ w.1 c.in_err-written.ensures.beginning next)

pub loop-command-init : goal.loop-command-init
loop-command-init g c = record { free = refl; few = omega arith; unmarked = refl; noted = refl; behind = refl; written = ([], Appends-nothing _, refl) }

pub loop-command-preserved : goal.loop-command-preserved
loop-command-preserved g c =
    let w = c.loop-command.invariant.written in
    let next = one_more_answer (standing_of c.loop-command.session) (standing_of c.keep_behind.new.session) c.loop-command.runs c.in_ok-written.written.0 c.loop-command.command-index c.deref-command-items.result.now c.command-item.result w.0 _ c.loop-command-test.true c.command-item.is
    (c.keep_behind.ensures.same ∙ c.in_ok-written.ensures.after) c.in_ok-written.ensures.runs w.2 in
    record {
      free = c.keep_behind.ensures.free ∙ c.in_ok-written.ensures.free ∙ c.loop-command.invariant.free;
      few = runs_after-le _ _ _ _ c.in_ok-written.ensures.runs c.loop-command.invariant.few;
      unmarked = c.in_ok-written.ensures.unmarked (λ e. cc) ∙ c.loop-command.invariant.unmarked;
      noted = c.in_ok-written.ensures.notes_stay (λ e. cc) ∙ c.loop-command.invariant.noted;
      behind = one_more_left (standing_of c.args.session.now) (standing_of c.loop-command.session) c.loop-command.command-index c.deref-command-items.result.now c.loop-command.invariant.behind
          (standing_of c.keep_behind.new.session) c.command-item.result c.loop-command-test.true c.command-item.is (c.keep_behind.ensures.same ∙ c.in_ok-written.ensures.after);
      written = (_, Appends-more _ _ _ w.0 _ w.1 c.in_ok-written.ensures.written, rw append_assoc next);
    }

-- where memory is refused for its records, the run's answer is written all the same
pub returns-then-is_err-clause-beginning : goal.returns-then-is_err-clause-beginning
returns-then-is_err-clause-beginning g c =
    let w = c.loop-command.invariant.written in
    let all = ap (map said) c.deref-command-items.ensures.value ∙ c.in-Ok.ensures in
    let next = one_more_answer (standing_of c.loop-command.session) (standing_of c.keep_behind.new.session) c.loop-command.runs c.in_ok-written.written.0 c.loop-command.command-index c.deref-command-items.result.now c.command-item.result w.0 _ c.loop-command-test.true c.command-item.is
    (c.keep_behind.ensures.same ∙ c.in_ok-written.ensures.after) c.in_ok-written.ensures.runs w.2 in
    subst (λ cs. HasBeginning (g.W.Write.contents c.args.writer.now) (g.W.Write.contents c.answer_written.new.writer) (answers_from (standing_of c.args.session.now) 0 cs)) all
    (beginning_of _ _ _ _ _ (Appends-more _ _ _ w.0 _ w.1 c.in_ok-written.ensures.written) (append_assoc w.0 _ _ ∙ next))

pub returns-clause-beginning : goal.returns-clause-beginning
returns-clause-beginning g c =
    let w = c.loop-command.invariant.written in
    let all = ap (map said) c.deref-command-items.ensures.value ∙ c.in-Ok.ensures in
    subst (λ cs. HasBeginning (g.W.Write.contents c.args.writer.now) (g.W.Write.contents c.loop-command.writer) (answers_from (standing_of c.args.session.now) 0 cs)) all
    (beginning_of _ _ w.0 _ _ w.1 w.2)

pub returns-in_err-written-clause-read : goal.returns-in_err-written-clause-read
returns-in_err-written-clause-read g c =
    let p = err_from_is_err_and c.from_residual.result c.from_residual.ensures.1 in
    handed_on c.from_residual.result c.in_err-written.field-0.0 p.0 p.1 p.2 (written_not_read c.in_err-written.field-0.0 c.in_err-written.ensures.refused)

pub returns-in_err-written-clause-notes_stay : goal.returns-in_err-written-clause-notes_stay
returns-in_err-written-clause-notes_stay g c h =
    let p = err_from_is_err_and c.from_residual.result c.from_residual.ensures.1 in
    let is = p.1 in
    let same = p.2 in
    c.in_err-written.ensures.notes_stay (λ e. h cc) ∙ c.loop-command.invariant.noted

pub returns-clause-after : goal.returns-clause-after
returns-clause-after g c =
    let all = ap (map said) c.deref-command-items.ensures.value ∙ c.in-Ok.ensures in
    all_left_by (standing_of c.args.session.now) (standing_of c.loop-command.session) c.loop-command.command-index c.deref-command-items.result.now c.loop-command.invariant.behind (omega (arith, c.loop-command-test.false))
    ∙ ap (left_by_commands (standing_of c.args.session.now)) all

pub returns-in_err-written-clause-stands : goal.returns-in_err-written-clause-stands
returns-in_err-written-clause-stands g c =
    let p = err_from_is_err_and c.from_residual.result c.from_residual.ensures.1 in
    let all = ap (map said) c.deref-command-items.ensures.value ∙ c.in-Ok.ensures in
    on_err c.from_residual.result _ p.0 p.1
    (subst (IsLeftByFirst (standing_of c.args.session.now) (standing_of c.answer_written.new.session)) all
    (first_may_be_left (standing_of c.args.session.now) (standing_of c.loop-command.session) c.loop-command.command-index c.deref-command-items.result.now c.loop-command.invariant.behind
    (standing_of c.answer_written.new.session) c.command-item.result c.loop-command-test.true c.command-item.is c.in_err-written.ensures.stands))

pub returns-then-is_err-clause-stands : goal.returns-then-is_err-clause-stands
returns-then-is_err-clause-stands g c =
    let all = ap (map said) c.deref-command-items.ensures.value ∙ c.in-Ok.ensures in
    subst (IsLeftByFirst (standing_of c.args.session.now) (standing_of c.keep_behind.new.session)) all
    (first_may_be_left (standing_of c.args.session.now) (standing_of c.loop-command.session) c.loop-command.command-index c.deref-command-items.result.now c.loop-command.invariant.behind
    (standing_of c.keep_behind.new.session) c.command-item.result c.loop-command-test.true c.command-item.is (inr (c.keep_behind.ensures.same ∙ c.in_ok-written.ensures.after)))
