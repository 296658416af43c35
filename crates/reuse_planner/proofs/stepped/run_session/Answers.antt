use Rattle.std.proofs.Common.{◌≡◌, ◌≤◌, ℕ, [], length, map, sym, ap, subst, ◌∙◌}
use Rattle.record_theory.specs.Record.{as_made}
use Rattle.record_theory.specs.Commits.{put_records}
use Rattle.numbered_runs.specs.Sound.{AreSoundFor}
use Rattle.kept_session.specs.Sessions.{PlainSession, stock_of}
use Rattle.reuse_planner.proofs.Ending.{where_ok, where_err}
use Rattle.reuse_planner.proofs.Outcomes.{elision_back, led_back, news_back, recorded_back, quiet_back}
use Rattle.reuse_planner.proofs.stepped.run_session.Goals as goal

pub settle-requires-clause-new : goal.settle-requires-clause-new
settle-requires-clause-new g c κs within =
    let s = c.args.session.now in
    let t = c.take_pool-pool.new.self in
    let same : t ≡ record s { kits = stock_of []; inlined = 0 } = c.take_pool-pool.ensures.left ∙ ap (λ (z : PlainSession). record z { kits = stock_of [] }) c.note_inlined.ensures.noted in
    news_back s t same c.checked.result.now c.tables.result.now c.records.result.now c.checked.ensures.checked c.tables.ensures.tables c.records.ensures.records c.note_inlined-2.new.self c.run_on-ended.result.inlined c.note_inlined-2.ensures.noted
    c.run_on-ended.result.answer c.run_on-ended.result.made.items c.run_on-ended.ensures.recorded (subst (λ (z : PlainSession). AreSoundFor z.checked z.records) c.note_inlined.ensures.noted c.upheld.ensures.sound)

pub returns-clause-elision : goal.returns-clause-elision
returns-clause-elision g c =
    let s = c.args.session.now in
    let t = c.take_pool-pool.new.self in
    let same : t ≡ record s { kits = stock_of []; inlined = 0 } = c.take_pool-pool.ensures.left ∙ ap (λ (z : PlainSession). record z { kits = stock_of [] }) c.note_inlined.ensures.noted in
    elision_back s t same c.checked.result.now c.tables.result.now c.records.result.now c.checked.ensures.checked c.tables.ensures.tables c.records.ensures.records c.run_on-ended.result.answer c.run_on-ended.ensures.elision

pub returns-clause-led : goal.returns-clause-led
returns-clause-led g c =
    let s = c.args.session.now in
    let t = c.take_pool-pool.new.self in
    let same : t ≡ record s { kits = stock_of []; inlined = 0 } = c.take_pool-pool.ensures.left ∙ ap (λ (z : PlainSession). record z { kits = stock_of [] }) c.note_inlined.ensures.noted in
    let after : PlainSession = record c.note_inlined-2.new.self { kits = c.run_on-ended.result.pool; records = c.settle.new.self.records } in
    let settled : c.settle.new.self ≡ after = where_ok c.settle.result (c.settle.new.self ≡ after) (sym c.is_err.ensures.value ∙ c.if-is_err.false) c.settle.ensures.settled in
    led_back s t same c.checked.result.now c.tables.result.now c.records.result.now c.checked.ensures.checked c.tables.ensures.tables c.records.ensures.records c.take_pool-pool.result c.args.workers c.args.steps.now c.run_on-ended.result.inlined c.settle.new.self.inlined c.run_on-ended.result.answer
    (c.take_pool-pool.ensures.whole ∙ ap (λ (z : PlainSession). z.kits) c.note_inlined.ensures.noted)
    (ap (λ (z : PlainSession). z.inlined) settled ∙ ap (λ (z : PlainSession). z.inlined) c.note_inlined-2.ensures.noted) c.run_on-ended.ensures.led

pub returns-then-is_err-clause-led : goal.returns-then-is_err-clause-led
returns-then-is_err-clause-led g c =
    let after : PlainSession = record c.note_inlined-2.new.self { kits = c.run_on-ended.result.pool } in
    let kept : c.settle.new.self ≡ after = where_err c.settle.result (c.settle.new.self ≡ after) (sym c.is_err.ensures.value ∙ c.if-is_err.true) c.settle.ensures.refused in
    subst (λ (n : ℕ). n ≤ length c.args.steps.now) (sym (ap (λ (z : PlainSession). z.inlined) kept ∙ ap (λ (z : PlainSession). z.inlined) c.note_inlined-2.ensures.noted)) c.run_on-ended.ensures.within

pub returns-clause-recorded : goal.returns-clause-recorded
returns-clause-recorded g c =
    let s = c.args.session.now in
    let t = c.take_pool-pool.new.self in
    let same : t ≡ record s { kits = stock_of []; inlined = 0 } = c.take_pool-pool.ensures.left ∙ ap (λ (z : PlainSession). record z { kits = stock_of [] }) c.note_inlined.ensures.noted in
    let put : map as_made c.settle.new.self.records ≡ put_records (map as_made c.note_inlined-2.new.self.records) c.run_on-ended.result.made.items =
    where_ok c.settle.result (map as_made c.settle.new.self.records ≡ put_records (map as_made c.note_inlined-2.new.self.records) c.run_on-ended.result.made.items) (sym c.is_err.ensures.value ∙ c.if-is_err.false) c.settle.ensures.records in
    recorded_back s t same c.checked.result.now c.tables.result.now c.records.result.now c.checked.ensures.checked c.tables.ensures.tables c.records.ensures.records c.note_inlined-2.new.self c.run_on-ended.result.inlined c.note_inlined-2.ensures.noted
    c.run_on-ended.result.answer c.run_on-ended.result.made.items c.run_on-ended.ensures.recorded c.settle.new.self.records put

pub returns-clause-quiet : goal.returns-clause-quiet
returns-clause-quiet g c =
    let s = c.args.session.now in
    let t = c.take_pool-pool.new.self in
    let same : t ≡ record s { kits = stock_of []; inlined = 0 } = c.take_pool-pool.ensures.left ∙ ap (λ (z : PlainSession). record z { kits = stock_of [] }) c.note_inlined.ensures.noted in
    let put : map as_made c.settle.new.self.records ≡ put_records (map as_made c.note_inlined-2.new.self.records) c.run_on-ended.result.made.items =
    where_ok c.settle.result (map as_made c.settle.new.self.records ≡ put_records (map as_made c.note_inlined-2.new.self.records) c.run_on-ended.result.made.items) (sym c.is_err.ensures.value ∙ c.if-is_err.false) c.settle.ensures.records in
    let after : PlainSession = record c.note_inlined-2.new.self { kits = c.run_on-ended.result.pool; records = c.settle.new.self.records } in
    let settled : c.settle.new.self ≡ after = where_ok c.settle.result (c.settle.new.self ≡ after) (sym c.is_err.ensures.value ∙ c.if-is_err.false) c.settle.ensures.settled in
    quiet_back s t same c.checked.result.now c.tables.result.now c.records.result.now c.checked.ensures.checked c.tables.ensures.tables c.records.ensures.records c.note_inlined-2.new.self c.run_on-ended.result.inlined c.note_inlined-2.ensures.noted
    c.run_on-ended.result.answer c.run_on-ended.result.made.items c.run_on-ended.ensures.recorded (subst (λ (z : PlainSession). AreSoundFor z.checked z.records) c.note_inlined.ensures.noted c.upheld.ensures.sound) c.settle.new.self c.run_on-ended.result.pool settled put
