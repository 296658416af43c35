use Rattle.std.proofs.Common.{◌≡◌, ◌↔◌, [], IfOk, length, ap, subst, sym, ◌∙◌}
use Rattle.positions.specs.declared.answer.RunAnswer.TheVariants as answer
use Rattle.numbered_runs.specs.Named.{history}
use Rattle.numbered_runs.specs.Come.{HasCome, HasEnded}
use Rattle.numbered_runs.specs.Recorded.{HasRecordedBy}
use Rattle.kept_session.specs.Sessions.{AreNewFor, PlainSession, standing_of, stock_of}
use Rattle.kept_session.proofs.Keeping.{none_new}
use Rattle.session_runs.specs.Runs.{IsFromScratch}
use Rattle.worker_seats.specs.Histories.{HasHistory}
use Rattle.worker_seats.specs.declared.ended.Ended.{Ended}
use Rattle.threaded_driver.proofs.Settling.{came_of, end_whatever_kits, has_kit, if_ended, news_of_end, recorded_of_end, scratch_of_end}
use Rattle.threaded_driver.proofs.run.run_unsettled.Goals as goal

-- without a kit nothing was recorded
pub returns-then-has_no_kit-clause-news : goal.returns-then-has_no_kit-clause-news
returns-then-has_no_kit-clause-news g c =
    let s = c.args.session.now in
    subst (AreNewFor s.checked s.tables) (sym c.without_kit.ensures.none) (none_new s.checked s.tables)

pub returns-then-has_no_kit-clause-recorded : goal.returns-then-has_no_kit-clause-recorded
returns-then-has_no_kit-clause-recorded g c =
    let s = c.args.session.now in
    subst (λ a. HasRecordedBy s.checked s.tables s.records a c.without_kit.result.tally.made) (sym c.without_kit.ensures.answer) c.without_kit.ensures.none

pub returns-then-has_no_kit-clause-elision : goal.returns-then-has_no_kit-clause-elision
returns-then-has_no_kit-clause-elision g c = subst (λ a. IsFromScratch (standing_of c.args.session.now) a) (sym c.without_kit.ensures.answer) tt

pub returns-then-has_no_kit-clause-come : goal.returns-then-has_no_kit-clause-come
returns-then-has_no_kit-clause-come g c = subst HasCome (sym c.without_kit.ensures.answer) tt

pub returns-then-has_no_kit-clause-history : goal.returns-then-has_no_kit-clause-history
returns-then-has_no_kit-clause-history g c = subst (λ a. HasHistory a (history c.without_kit.result.steps.items)) (sym c.without_kit.ensures.answer) tt

pub returns-then-has_no_kit-clause-no_kit : goal.returns-then-has_no_kit-clause-no_kit
returns-then-has_no_kit-clause-no_kit g c = ((λ is. c.has_no_kit.ensures.none c.if-has_no_kit.true), (λ none. c.without_kit.ensures.answer))

pub returns-clause-elision : goal.returns-clause-elision
returns-clause-elision g c =
    let s = c.args.session.now in
    let t = c.run_taken-ran.new.session in
    if_ended c.run_taken-ran.result.0 t (λ (e : Ended). IsFromScratch (standing_of s) e.answer)
    (λ e end. scratch_of_end s e (end_whatever_kits s t (stock_of []) e c.run_taken-ran.ensures.taken end)) c.run_taken-ran.ensures.end

pub returns-clause-come : goal.returns-clause-come
returns-clause-come g c =
    if_ended c.run_taken-ran.result.0 c.run_taken-ran.new.session (λ (e : Ended). HasCome e.answer) (λ e end. came_of e.answer end.given) c.run_taken-ran.ensures.end

pub returns-clause-recorded : goal.returns-clause-recorded
returns-clause-recorded g c =
    let s = c.args.session.now in
    let t = c.run_taken-ran.new.session in
    if_ended c.run_taken-ran.result.0 t (λ (e : Ended). HasRecordedBy s.checked s.tables s.records e.answer e.tally.made)
    (λ e end. recorded_of_end s e (end_whatever_kits s t (stock_of []) e c.run_taken-ran.ensures.taken end)) c.run_taken-ran.ensures.end

pub returns-clause-news : goal.returns-clause-news
returns-clause-news g c =
    let s = c.args.session.now in
    let t = c.run_taken-ran.new.session in
    let pool = c.run_taken-ran.result.1 in
    let put = c.put_back.ensures.put ∙ ap (λ (x : PlainSession). record x { kits = pool }) c.run_taken-ran.ensures.taken in
    if_ended c.run_taken-ran.result.0 t (λ (e : Ended). AreNewFor c.put_back.new.self.checked c.put_back.new.self.tables e.tally.made)
    (λ e end. news_of_end s c.put_back.new.self pool e c.upheld.ensures.sound (end_whatever_kits s t (stock_of []) e c.run_taken-ran.ensures.taken end) put) c.run_taken-ran.ensures.end

pub returns-clause-no_kit : goal.returns-clause-no_kit
returns-clause-no_kit g c =
    let s = c.args.session.now in
    if_ended c.run_taken-ran.result.0 c.run_taken-ran.new.session (λ (e : Ended). (e.answer ≡ answer.NoKit) ↔ (s.kits.kits ≡ []))
    (λ e end. has_kit e.answer s.kits.kits end.given (c.has_no_kit.ensures.some c.if-has_no_kit.false)) c.run_taken-ran.ensures.end

pub returns-clause-history : goal.returns-clause-history
returns-clause-history g c =
    if_ended c.run_taken-ran.result.0 c.run_taken-ran.new.session (λ (e : Ended). HasHistory e.answer (history e.steps.items)) (λ e end. end.history_of) c.run_taken-ran.ensures.end

pub returns-clause-home : goal.returns-clause-home
returns-clause-home g c =
    let s = c.args.session.now in
    subst (λ (x : PlainSession). IfOk c.run_taken-ran.result.0 (λ (e : Ended). HasEnded e.answer → length x.kits.kits ≡ length s.kits.kits))
    (sym c.put_back.ensures.put) c.run_taken-ran.ensures.home
