use Rattle.std.proofs.Common.{◌+◌, ◌≤◌, [], Err, ◌∙◌, ap, arith, refl}
use Rattle.std.proofs.lemmas.Result.{err_from_is_err_and}
use Rattle.program_endings.specs.declared.session_error.SessionError.TheVariants.{Read, NoKit, Notes}
use Rattle.script_session.proofs.Coming.{Consumes-nothing, all_answered, all_left, begun, begun_line, begun_rest, first_line_read, left_by_lines, left_by_next, left_by_rest, next_line, no_byte, nothing_answered, read_failed, runs_behind-le, shown_ended, shown_last, shown_one, still_none}
use Rattle.script_session.proofs.Errors.{also_ok, no_such_error, on_err, on_err_too, ok_is_none, on_ok, same_error}
use Rattle.script_session.proofs.live.answer_lines.Goals as goal

pub loop-init : goal.loop-init
loop-init g c =
    let passed = ap (λ s. s.passed) c.new-script.ensures in
    record { room = omega (arith, passed); few = omega arith; free = refl; unmarked = refl; noted = refl; answered = nothing_answered _ _ _ _ c.new-script.ensures }

-- a read that failed

pub returns-in_err-ended-clause-read : goal.returns-in_err-ended-clause-read
returns-in_err-ended-clause-read g c is =
    let p = err_from_is_err_and c.from_residual.result c.from_residual.ensures.1 in
    read_failed _ _ _ _ _ _ _ _ c.loop.invariant.answered _ _ c.in_err-ended.ensures.one
    (c.in_err-ended.ensures.failed (ap Err (same_error c.from_residual.result c.in_err-ended.field-0.0 p.0 Read p.1 p.2 is)))

pub returns-in_err-ended-clause-beginning : goal.returns-in_err-ended-clause-beginning
returns-in_err-ended-clause-beginning g c = begun _ _ _ _ _ _ _ _ c.loop.invariant.answered

pub returns-in_err-ended-clause-input_stays : goal.returns-in_err-ended-clause-input_stays
returns-in_err-ended-clause-input_stays g c other =
    let p = err_from_is_err_and c.from_residual.result c.from_residual.ensures.1 in
    ap (λ f. f.input) (c.in_err-ended.ensures.unmarked (no_such_error c.from_residual.result c.in_err-ended.field-0.0 p.0 Read p.1 p.2 other _ refl) ∙ c.loop.invariant.unmarked)

pub returns-in_err-ended-clause-stands : goal.returns-in_err-ended-clause-stands
returns-in_err-ended-clause-stands g c =
    let p = err_from_is_err_and c.from_residual.result c.from_residual.ensures.1 in
    on_err c.from_residual.result _ p.0 p.1 (left_by_lines _ _ _ _ _ _ _ _ c.loop.invariant.answered _ refl)

-- a line that can't be answered

pub returns-in_err-answer_line-clause-stands : goal.returns-in_err-answer_line-clause-stands
returns-in_err-answer_line-clause-stands g c =
    let p = err_from_is_err_and c.from_residual-in_err-answer_line.result c.from_residual-in_err-answer_line.ensures.1 in
    on_err c.from_residual-in_err-answer_line.result _ p.0 p.1
    (left_by_next _ _ _ _ _ _ _ _ c.loop.invariant.answered _ _
    (first_line_read c.in_ok-ended.ended _ _ _ _ c.as_slice.ensures.value c.in_ok-ended.ensures.one c.in_ok-ended.ensures.ended c.in_ok-ended.ensures.last c.in_ok-ended.ensures.over)
    c.in_err-answer_line.ensures.stands)

pub returns-in_err-answer_line-clause-beginning : goal.returns-in_err-answer_line-clause-beginning
returns-in_err-answer_line-clause-beginning g c =
    begun_line _ _ _ _ _ _ _ _ c.loop.invariant.answered _ _
    (first_line_read c.in_ok-ended.ended _ _ _ _ c.as_slice.ensures.value c.in_ok-ended.ensures.one c.in_ok-ended.ensures.ended c.in_ok-ended.ensures.last c.in_ok-ended.ensures.over)
    c.in_err-answer_line.ensures.beginning

pub returns-in_err-answer_line-clause-no_kit : goal.returns-in_err-answer_line-clause-no_kit
returns-in_err-answer_line-clause-no_kit g c is =
    let p = err_from_is_err_and c.from_residual-in_err-answer_line.result c.from_residual-in_err-answer_line.ensures.1 in
    still_none _ _ c.loop.invariant.free (c.in_err-answer_line.ensures.no_kit (ap Err (same_error c.from_residual-in_err-answer_line.result c.in_err-answer_line.field-0.0 p.0 NoKit p.1 p.2 is)))

pub returns-in_err-answer_line-clause-notes_stay : goal.returns-in_err-answer_line-clause-notes_stay
returns-in_err-answer_line-clause-notes_stay g c other =
    let p = err_from_is_err_and c.from_residual-in_err-answer_line.result c.from_residual-in_err-answer_line.ensures.1 in
    c.in_err-answer_line.ensures.notes_stay (no_such_error c.from_residual-in_err-answer_line.result c.in_err-answer_line.field-0.0 p.0 Notes p.1 p.2 other _ refl) ∙ c.loop.invariant.noted

-- one more line

pub loop-preserved : goal.loop-preserved
loop-preserved g c =
    let passed = ap (λ s. s.passed) c.in_ok-answer_line.ensures.taken in
    record {
      room = omega (arith, passed, c.loop.invariant.room);
      few = runs_behind-le _ _ _ _ c.in_ok-answer_line.ensures.runs c.loop.invariant.few;
      free = c.in_ok-answer_line.ensures.free ∙ c.loop.invariant.free;
      unmarked = c.in_ok-answer_line.ensures.unmarked ∙ c.in_ok-ended.ensures.unmarked (ok_is_none _ _) ∙ c.loop.invariant.unmarked;
      noted = c.in_ok-answer_line.ensures.notes_stay (ok_is_none _ _) ∙ c.loop.invariant.noted;
      answered = next_line _ _ _ _ _ _ _ _ c.loop.invariant.answered _ _ _ _ _ _
          (shown_one _ _ c.as_slice.ensures.value c.in_ok-ended.ensures.one) (shown_ended _ _ _ _ c.as_slice.ensures.value (c.in_ok-ended.ensures.ended c.if-not-ended.false))
          c.in_ok-answer_line.ensures.written c.in_ok-answer_line.ensures.after c.in_ok-answer_line.ensures.runs c.in_ok-answer_line.ensures.taken;
    }

-- the last line

pub answer_rest-requires-clause-few : goal.answer_rest-requires-clause-few
answer_rest-requires-clause-few g c =
    let few : c.answer_line.new.so_far.runs ≤ c.loop.counter + 1 = runs_behind-le c.loop.so_far.runs c.loop.counter c.answer_line.new.so_far.runs _ c.in_ok-answer_line.ensures.runs c.loop.invariant.few in omega (arith, few, c.loop-test.true)

pub returns-then-not-ended-clause-answered : goal.returns-then-not-ended-clause-answered
returns-then-not-ended-clause-answered g c =
    on_ok c.answer_rest.result _ _
    (all_answered _ _ _ _ _ _ _ _ c.loop.invariant.answered _ _ _ _ _ _
    (shown_one _ _ c.as_slice.ensures.value c.in_ok-ended.ensures.one) (shown_last _ _ _ _ c.as_slice.ensures.value (c.in_ok-ended.ensures.last c.if-not-ended.true))
    (c.in_ok-ended.ensures.over c.if-not-ended.true)
    c.in_ok-answer_line.ensures.written c.in_ok-answer_line.ensures.after c.in_ok-answer_line.ensures.runs c.in_ok-answer_line.ensures.taken _)
    c.answer_rest.ensures.written

pub returns-then-not-ended-clause-after : goal.returns-then-not-ended-clause-after
returns-then-not-ended-clause-after g c =
    on_ok c.answer_rest.result _ _
    (all_left _ _ _ _ _ _ _ _ c.loop.invariant.answered _ _ _ _ _ _
    (shown_one _ _ c.as_slice.ensures.value c.in_ok-ended.ensures.one) (shown_last _ _ _ _ c.as_slice.ensures.value (c.in_ok-ended.ensures.last c.if-not-ended.true))
    (c.in_ok-ended.ensures.over c.if-not-ended.true)
    c.in_ok-answer_line.ensures.written c.in_ok-answer_line.ensures.after c.in_ok-answer_line.ensures.runs c.in_ok-answer_line.ensures.taken _)
    c.answer_rest.ensures.after

pub returns-then-not-ended-clause-free : goal.returns-then-not-ended-clause-free
returns-then-not-ended-clause-free g c =
    on_ok c.answer_rest.result _ _
    (λ e. e ∙ c.in_ok-answer_line.ensures.free ∙ c.loop.invariant.free)
    c.answer_rest.ensures.free

pub returns-then-not-ended-clause-stands : goal.returns-then-not-ended-clause-stands
returns-then-not-ended-clause-stands g c =
    on_err_too c.answer_rest.result _ _
    (left_by_rest _ _ _ _ _ _ _ _ c.loop.invariant.answered _ _ _ _ _ _
    (shown_one _ _ c.as_slice.ensures.value c.in_ok-ended.ensures.one) (shown_last _ _ _ _ c.as_slice.ensures.value (c.in_ok-ended.ensures.last c.if-not-ended.true))
    (c.in_ok-ended.ensures.over c.if-not-ended.true)
    c.in_ok-answer_line.ensures.written c.in_ok-answer_line.ensures.after c.in_ok-answer_line.ensures.runs c.in_ok-answer_line.ensures.taken _)
    c.answer_rest.ensures.stands

pub returns-then-not-ended-clause-over : goal.returns-then-not-ended-clause-over
returns-then-not-ended-clause-over g c = also_ok c.answer_rest.result _ (c.in_ok-ended.ensures.over c.if-not-ended.true)

pub returns-then-not-ended-clause-beginning : goal.returns-then-not-ended-clause-beginning
returns-then-not-ended-clause-beginning g c =
    begun_rest _ _ _ _ _ _ _ _ c.loop.invariant.answered _ _ _ _ _ _
    (shown_one _ _ c.as_slice.ensures.value c.in_ok-ended.ensures.one) (shown_last _ _ _ _ c.as_slice.ensures.value (c.in_ok-ended.ensures.last c.if-not-ended.true))
    (c.in_ok-ended.ensures.over c.if-not-ended.true)
    c.in_ok-answer_line.ensures.written c.in_ok-answer_line.ensures.after c.in_ok-answer_line.ensures.runs c.in_ok-answer_line.ensures.taken _ c.answer_rest.ensures.beginning

pub returns-then-not-ended-clause-no_kit : goal.returns-then-not-ended-clause-no_kit
returns-then-not-ended-clause-no_kit g c is = still_none _ _ (c.in_ok-answer_line.ensures.free ∙ c.loop.invariant.free) (c.answer_rest.ensures.no_kit is)

pub returns-then-not-ended-clause-unmarked : goal.returns-then-not-ended-clause-unmarked
returns-then-not-ended-clause-unmarked g c =
    on_ok c.answer_rest.result _ _
    (λ e. e ∙ c.in_ok-answer_line.ensures.unmarked ∙ c.in_ok-ended.ensures.unmarked (ok_is_none _ _) ∙ c.loop.invariant.unmarked)
    c.answer_rest.ensures.unmarked

pub returns-then-not-ended-clause-input_stays : goal.returns-then-not-ended-clause-input_stays
returns-then-not-ended-clause-input_stays g c other =
    c.answer_rest.ensures.input
    ∙ ap (λ f. f.input) (c.in_ok-answer_line.ensures.unmarked ∙ c.in_ok-ended.ensures.unmarked (ok_is_none _ _) ∙ c.loop.invariant.unmarked)

pub returns-then-not-ended-clause-output_stays : goal.returns-then-not-ended-clause-output_stays
returns-then-not-ended-clause-output_stays g c h =
    c.answer_rest.ensures.output_stays (ap (λ f. f.output) (c.in_ok-answer_line.ensures.unmarked ∙ c.in_ok-ended.ensures.unmarked (ok_is_none _ _) ∙ c.loop.invariant.unmarked) ∙ h)

pub returns-then-not-ended-clause-notes_stay : goal.returns-then-not-ended-clause-notes_stay
returns-then-not-ended-clause-notes_stay g c other =
    c.answer_rest.ensures.notes_stay other ∙ c.in_ok-answer_line.ensures.notes_stay (ok_is_none _ _) ∙ c.loop.invariant.noted

-- too many lines

pub returns-clause-read : goal.returns-clause-read
returns-clause-read g c is =
    read_failed _ _ _ _ _ _ _ _ c.loop.invariant.answered [] _ no_byte (Consumes-nothing _)

pub returns-clause-beginning : goal.returns-clause-beginning
returns-clause-beginning g c = begun _ _ _ _ _ _ _ _ c.loop.invariant.answered

pub returns-clause-stands : goal.returns-clause-stands
returns-clause-stands g c = left_by_lines _ _ _ _ _ _ _ _ c.loop.invariant.answered _ refl
