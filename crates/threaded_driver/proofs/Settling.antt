-- What a run by threads leaves of a session.
use Rattle.std.proofs.Common.{◌≡◌, ◌↔◌, ◌<◌, List, [], Result, Ok, Err, IfOk, length, map, sym, ap, refl, subst, ◌∙◌, arith}
use Rattle.monoid_laws.specs.declared.Kind.{Kind}
use Rattle.view_pool.specs.Stock.{Stock}
use Rattle.meaning.specs.Elision as elision
use Rattle.meaning.specs.Elision.{from_scratch}
use Rattle.record_theory.specs.Record.{PlainRecord, as_made}
use Rattle.record_theory.specs.Commits.{put_records}
use Rattle.positions.specs.Setting.{Setting, setting_with}
use Rattle.positions.specs.declared.answer.RunAnswer.{RunAnswer}
use Rattle.positions.specs.declared.answer.RunAnswer.TheVariants as answer
use Rattle.right_strands.specs.Laid.{HasRecorded, IsElision, IsGiven}
use Rattle.numbered_runs.specs.Sound.{AreSoundFor}
use Rattle.numbered_runs.specs.Recorded.{HasRecordedBy}
use Rattle.numbered_runs.specs.Come.{HasCome}
use Rattle.kept_session.specs.Sessions.{AreNewFor, PlainSession, standing_of}
use Rattle.session_runs.specs.Runs.{IsFromScratch, LeavesRecords, IsQuietAfter}
use Rattle.session_runs.proofs.Outcomes.{news_of, quiet_after}
use Rattle.worker_seats.specs.Ends.{IsAlone}
use Rattle.worker_seats.specs.declared.ended.Ended.{Ended}
use Rattle.threaded_driver.specs.Ends.{IsEndFor}

-- the setting of a run of the session's program
abbrev setting_of : PlainSession → Setting
setting_of s = setting_with s.checked s.tables.tables [] s.records

-- only a finished run leaves records
pub recorded_by : (s : PlainSession) (given : RunAnswer) (made : List PlainRecord) → HasRecorded (setting_of s) given made → IsAlone given made
    → HasRecordedBy s.checked s.tables s.records given made
recorded_by s (answer.Finished v values n m k) made h alone = h
recorded_by s answer.Unfinished made h alone = alone
recorded_by s answer.NoMemory made h alone = alone
recorded_by s answer.NoKit made h alone = alone
recorded_by s (answer.Fault f) made h alone = alone

-- ---- whatever kits the session has

pub leaves_whatever_kits : (s t : PlainSession) (kits : Stock (List Kind)) (given : RunAnswer) (records : List PlainRecord)
    → t ≡ record s { kits = kits } → LeavesRecords t given records → LeavesRecords s given records
leaves_whatever_kits s t kits (answer.Finished v values n m k) records is h =
    subst (λ (x : PlainSession). LeavesRecords x (answer.Finished v values n m k) records) is h
leaves_whatever_kits s t kits (answer.Fault f) records is h = h ∙ ap (λ (x : PlainSession). map as_made x.records) is
leaves_whatever_kits s t kits answer.Unfinished records is h = h ∙ ap (λ (x : PlainSession). map as_made x.records) is
leaves_whatever_kits s t kits answer.NoMemory records is h = h ∙ ap (λ (x : PlainSession). map as_made x.records) is
leaves_whatever_kits s t kits answer.NoKit records is h = h ∙ ap (λ (x : PlainSession). map as_made x.records) is

pub quiet_whatever_kits : (s t : PlainSession) (kits : Stock (List Kind)) (given : RunAnswer) (made : List PlainRecord)
    → AreSoundFor s.checked s.records → HasRecordedBy s.checked s.tables s.records given made
    → t ≡ record s { kits = kits; records = t.records } → map as_made t.records ≡ put_records (map as_made s.records) made → IsQuietAfter given t
quiet_whatever_kits s t kits given made sound recorded is put =
    quiet_after s.checked s.tables s.records given made sound recorded t
    (ap (λ (x : PlainSession). x.checked) is) (ap (λ (x : PlainSession). x.tables) is) put

-- ---- what the end of a session's run says

from_elision : (s : PlainSession) (a : elision.Answer) (given : RunAnswer) → IsElision (setting_of s) a given
    → from_scratch (setting_of s).program.tree s.tables.tables ≡ a → IsFromScratch (standing_of s) given
from_elision s (elision.Finished v ws) (answer.Finished w got n m k) h e = e ∙ (ap (λ u. elision.Finished u ws) (sym h.0) ∙ ap (elision.Finished w) (sym h.1))
from_elision s (elision.Finished v ws) (answer.Fault f) h e = absurd h
from_elision s (elision.Faulted k) (answer.Finished w got n m i) h e = absurd h
from_elision s (elision.Faulted k) (answer.Fault f) h e = e ∙ ap elision.Faulted (sym h)
from_elision s a answer.Unfinished h e = tt
from_elision s a answer.NoMemory h e = tt
from_elision s a answer.NoKit h e = tt

pub scratch_of_end : (s : PlainSession) (e : Ended) → IsEndFor s e → IsFromScratch (standing_of s) e.answer
scratch_of_end s e end = from_elision s (from_scratch (setting_of s).program.tree s.tables.tables) e.answer end.elision refl

pub came_of : (given : RunAnswer) → IsGiven given → HasCome given
came_of (answer.Finished v values n m k) h = tt
came_of (answer.Fault f) h = tt
came_of answer.Unfinished h = absurd h
came_of answer.NoMemory h = tt
came_of answer.NoKit h = tt

pub recorded_of_end : (s : PlainSession) (e : Ended) → IsEndFor s e → HasRecordedBy s.checked s.tables s.records e.answer e.tally.made
recorded_of_end s e end = recorded_by s e.answer e.tally.made end.recorded end.alone

pub end_whatever_kits : (s t : PlainSession) (kits : Stock (List Kind)) (e : Ended) → t ≡ record s { kits = kits } → IsEndFor t e → IsEndFor s e
end_whatever_kits s t kits e is h = subst (λ (x : PlainSession). IsEndFor x e) is h

pub news_of_end : (s t : PlainSession) (kits : Stock (List Kind)) (e : Ended) → AreSoundFor s.checked s.records → IsEndFor s e
    → t ≡ record s { kits = kits } → AreNewFor t.checked t.tables e.tally.made
news_of_end s t kits e sound end is =
    subst (λ (x : PlainSession). AreNewFor x.checked x.tables e.tally.made) (sym is)
    (news_of s.checked s.tables s.records e.answer e.tally.made (recorded_of_end s e end) sound)

-- no run that had a kit is refused one
pub has_kit : (given : RunAnswer) (kits : List (List Kind)) → IsGiven given → 0 < length kits → (given ≡ answer.NoKit) ↔ (kits ≡ [])
has_kit given kits h some = ((λ is. absurd (subst IsGiven is h)), (λ none. let few : length kits ≡ 0 = ap length none in absurd (omega (arith, few, some))))

-- what holds of each such end holds where there is one
pub if_ended : {E : Type 0} (r : Result Ended E) (t : PlainSession) (Q : Ended → Type 0) → ((e : Ended) → IsEndFor t e → Q e) → IfOk r (IsEndFor t) → IfOk r Q
if_ended (Ok e) t Q f h = f e h
if_ended (Err m) t Q f h = tt
