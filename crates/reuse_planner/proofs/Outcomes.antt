-- What a run by given steps leaves of a session: its records, and nothing to be executed.
use Rattle.std.proofs.Common.{◌≡◌, ℕ, List, [], map, sym, ap, subst, ◌∙◌}
use Rattle.monoid_laws.specs.declared.Kind.{Kind}
use Rattle.linked_program.specs.Checked.{PlainChecked}
use Rattle.input_tables.specs.Edited.{Edited}
use Rattle.record_theory.specs.Record.{PlainRecord, as_made}
use Rattle.record_theory.specs.Commits.{put_records}
use Rattle.positions.specs.declared.answer.RunAnswer.{RunAnswer}
use Rattle.positions.specs.declared.answer.RunAnswer.TheVariants as answer
use Rattle.numbered_runs.specs.declared.step.Step.{Step}
use Rattle.view_pool.specs.Stock.{Stock}
use Rattle.checked_defines.specs.Standings.{standing}
use Rattle.numbered_runs.specs.Sound.{AreSoundFor}
use Rattle.numbered_runs.specs.Recorded.{HasRecordedBy}
use Rattle.kept_session.specs.Sessions.{PlainSession, AreNewFor, standing_of, stock_of}
use Rattle.session_runs.specs.Runs.{IsFromScratch, LeavesRecords, IsQuietAfter}
use Rattle.session_runs.proofs.Outcomes.{news_of}
use Rattle.session_runs.proofs.Outcomes.{leaves_records, quiet_after}
use Rattle.reuse_planner.specs.Driven.{lender}
use Rattle.reuse_planner.specs.Runs.{IsLed}

-- ---- of what a run was lent, back to the session

led_lender : (s : PlainSession) (workers : ℕ) (steps : List Step) (n : ℕ) (given : RunAnswer) → IsLed (lender s.checked s.tables s.kits s.records) workers steps n given → IsLed s workers steps n given
led_lender s workers steps n answer.NoMemory h = h
led_lender s workers steps n answer.NoKit h = h
led_lender s workers steps n answer.Unfinished h = record { marks = h.marks; placed = h.placed; counted = h.counted; comes = h.comes }
led_lender s workers steps n (answer.Fault f) h = record { marks = h.marks; placed = h.placed; counted = h.counted; comes = h.comes }
led_lender s workers steps n (answer.Finished v ws i j k) h = record { marks = h.marks; placed = h.placed; counted = h.counted; comes = h.comes }

-- a session that lends its parts to a run, with a note of none done as inlines, and what was lent
module _ (s t : PlainSession) (same : t ≡ record s { kits = stock_of []; inlined = 0 }) (checked : PlainChecked) (tables : Edited) (records : List PlainRecord)
    (checked_is : checked ≡ t.checked) (tables_are : tables ≡ t.tables) (records_are : records ≡ t.records) where
  -- what is known of them is known of the session's
  lender_back : (P : PlainChecked → Edited → List PlainRecord → Type 0) → P checked tables records → P s.checked s.tables s.records
  lender_back P h =
      subst (λ (z : PlainSession). P z.checked z.tables z.records) same
      (subst (λ rs. P t.checked t.tables rs) records_are (subst (λ ts. P t.checked ts records) tables_are (subst (λ p. P p tables records) checked_is h)))

  pub elision_back : (given : RunAnswer) → IsFromScratch (standing checked tables) given → IsFromScratch (standing_of s) given
  elision_back given h = lender_back (λ p ts rs. IsFromScratch (standing p ts) given) h

  pub led_back : (pool : Stock (List Kind)) (workers : ℕ) (steps : List Step) (n m : ℕ) (given : RunAnswer) → pool ≡ s.kits → m ≡ n
      → IsLed (lender checked tables pool records) workers steps n given → IsLed s workers steps m given
  led_back pool workers steps n m given p e h =
      subst (λ (i : ℕ). IsLed s workers steps i given) (sym e) (led_lender s workers steps n given
      (subst (λ (q : Stock (List Kind)). IsLed (lender s.checked s.tables q s.records) workers steps n given) p
      (lender_back (λ c ts rs. IsLed (lender c ts pool rs) workers steps n given) h)))

  module _ (u : PlainSession) (n : ℕ) (noted : u ≡ record t { inlined = n }) (given : RunAnswer) (made : List PlainRecord) (has : HasRecordedBy checked tables records given made) where
    recorded_by : HasRecordedBy s.checked s.tables s.records given made
    recorded_by = lender_back (λ p ts rs. HasRecordedBy p ts rs given made) has

    noted_is : u ≡ record s { kits = stock_of []; inlined = n }
    noted_is = noted ∙ ap (λ (z : PlainSession). record z { inlined = n }) same

    put_back : (new : List PlainRecord) → map as_made new ≡ put_records (map as_made u.records) made → map as_made new ≡ put_records (map as_made s.records) made
    put_back new put = put ∙ ap (λ (z : PlainSession). put_records (map as_made z.records) made) noted_is

    -- the new records may be put among the others
    pub news_back : AreSoundFor s.checked s.records → AreNewFor u.checked u.tables made
    news_back sound = subst (λ (z : PlainSession). AreNewFor z.checked z.tables made) (sym noted_is) (news_of s.checked s.tables s.records given made recorded_by sound)

    pub recorded_back : (new : List PlainRecord) → map as_made new ≡ put_records (map as_made u.records) made → LeavesRecords s given new
    recorded_back new put = leaves_records s given made new recorded_by (put_back new put)

    pub quiet_back : AreSoundFor s.checked s.records → (v : PlainSession) (pool : Stock (List Kind)) → v ≡ record u { kits = pool; records = v.records }
        → map as_made v.records ≡ put_records (map as_made u.records) made → IsQuietAfter given v
    quiet_back sound v pool is put =
        let all : v ≡ record s { kits = pool; records = v.records; inlined = n } = is ∙ ap (λ (z : PlainSession). record z { kits = pool; records = v.records }) noted_is in
        quiet_after s.checked s.tables s.records given made sound recorded_by v (ap (λ (z : PlainSession). z.checked) all) (ap (λ (z : PlainSession). z.tables) all) (put_back v.records put)
