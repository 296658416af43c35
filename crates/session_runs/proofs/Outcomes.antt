-- What a run that has ended leaves of a session: its records, and nothing to be executed.
use Rattle.std.proofs.Common.{◌≡◌, ℕ, List, [], ◌∷◌, map, refl, sym, ap, subst, ◌∙◌}
use Rattle.meaning.specs.Tables.{Tables}
use Rattle.meaning.specs.Records.{Revised, Kept, IsSound}
use Rattle.meaning.specs.Commits.{committed}
use Rattle.trail_theory.specs.Order.{Every}
use Rattle.trail_theory.specs.OpenLayers.{IsNewRecord}
use Rattle.trail_theory.proofs.Contributions.{commits_sound}
use Rattle.linked_program.specs.Checked.{PlainChecked, revised_of}
use Rattle.input_tables.specs.Edited.{Edited}
use Rattle.record_theory.specs.Record.{PlainRecord, as_made}
use Rattle.record_theory.specs.Named.{AreKept}
use Rattle.record_theory.specs.Commits.{put_records}
use Rattle.record_theory.proofs.Lookups.{put_all}
use Rattle.positions.specs.declared.answer.RunAnswer.{RunAnswer}
use Rattle.positions.specs.declared.answer.RunAnswer.TheVariants as answer
use Rattle.numbered_runs.specs.News.{HaveNews}
use Rattle.numbered_runs.specs.Sound.{AreSoundFor, setting_by}
use Rattle.numbered_runs.specs.Recorded.{HasRecordedBy, tally_of}
use Rattle.kept_session.specs.Sessions.{PlainSession, AreNewFor}
use Rattle.kept_session.proofs.Keeping.{none_new}
use Rattle.kept_session.proofs.News.{are_new}
use Rattle.kept_session.proofs.AsMade.{twice, stand_so}
use Rattle.session_runs.specs.Runs.{LeavesRecords, NeedsNothing, IsQuietAfter}

-- the records of the session after it
pub leaves_records : (s : PlainSession) (given : RunAnswer) (made records : List PlainRecord) → HasRecordedBy s.checked s.tables s.records given made → map as_made records ≡ put_records (map as_made s.records) made → LeavesRecords s given records
leaves_records s (answer.Finished v ws n m k) made records h e = (made, h, e)
leaves_records s answer.NoMemory made records h e = e ∙ ap (put_records (map as_made s.records)) h
leaves_records s answer.NoKit made records h e = e ∙ ap (put_records (map as_made s.records)) h
leaves_records s answer.Unfinished made records h e = e ∙ ap (put_records (map as_made s.records)) h
leaves_records s (answer.Fault f) made records h e = e ∙ ap (put_records (map as_made s.records)) h

news_sound : (program : Revised) (tables : Tables) (ks : List Kept) → Every (IsNewRecord program tables) ks → Every (IsSound program) ks
news_sound program tables [] h = tt
news_sound program tables (k ∷ ks) h = (h.0.sound, news_sound program tables ks h.1)

needs_nothing : (program : PlainChecked) (tables : Edited) (records made : List PlainRecord) (sound : AreSoundFor program records) (n m : ℕ) → HaveNews (setting_by program tables records sound) (tally_of n m 0 made)
    → (s : PlainSession) → s.checked ≡ program → s.tables ≡ tables → map as_made s.records ≡ put_records (map as_made records) made → NeedsNothing s
needs_nothing program tables records made sound n m news s p t r =
    let all : List Kept = committed sound.kept news.kept in
    let new : AreSoundFor program s.records = record {
      kept = all;
      stand = stand_so program all (map as_made s.records) s.records (sym (twice s.records))
          (subst (AreKept program all) (sym r)
          (put_all (revised_of program) program.tables program.kinds sound.kept news.kept (map as_made records) made (stand_so program sound.kept records (map as_made records) (twice records) sound.stand) news.stand));
      sound = commits_sound (revised_of program) sound.kept news.kept sound.sound (news_sound (revised_of program) tables.tables news.kept news.news);
    } in
    subst (λ (z : PlainSession). NeedsNothing z)
    (ap (λ (x : PlainChecked). record s { checked = x; tables = tables }) (sym p) ∙ ap (λ (x : Edited). record s { tables = x }) (sym t))
    (record { sound = new; nothing = news.complete refl })

pub quiet_after : (program : PlainChecked) (tables : Edited) (records : List PlainRecord) (given : RunAnswer) (made : List PlainRecord) → AreSoundFor program records → HasRecordedBy program tables records given made
    → (s : PlainSession) → s.checked ≡ program → s.tables ≡ tables → map as_made s.records ≡ put_records (map as_made records) made → IsQuietAfter given s
quiet_after program tables records (answer.Finished v ws n m k) made sound h s p t r =
    λ zero. needs_nothing program tables records made sound n m (subst (λ (u : ℕ). HaveNews (setting_by program tables records sound) (tally_of n m u made)) zero (h sound).1) s p t r
quiet_after program tables records answer.NoMemory made sound h s p t r = tt
quiet_after program tables records answer.NoKit made sound h s p t r = tt
quiet_after program tables records answer.Unfinished made sound h s p t r = tt
quiet_after program tables records (answer.Fault f) made sound h s p t r = tt

-- those that a run has made may be put among the others
module _ (program : PlainChecked) (tables : Edited) (records : List PlainRecord) where
  none_put : (made : List PlainRecord) → made ≡ [] → AreNewFor program tables made
  none_put made none = subst (AreNewFor program tables) (sym none) (none_new program tables)

  pub news_of : (given : RunAnswer) (made : List PlainRecord) → HasRecordedBy program tables records given made → AreSoundFor program records → AreNewFor program tables made
  news_of (answer.Finished v ws n m k) made has sound = let news = (has sound).1 in are_new program tables news.kept made news.stand news.news
  news_of answer.Unfinished made none sound = none_put made none
  news_of answer.NoMemory made none sound = none_put made none
  news_of answer.NoKit made none sound = none_put made none
  news_of (answer.Fault f) made none sound = none_put made none
