use Rattle.command_line.proofs.line.form.Goals as goal

pub returns : goal.returns
returns c =
    let stats = c.with-stats.ensures _ _ c.flag.ensures.rule c.form_of_values.ensures in
    let explain = c.with-explain.ensures _ _ c.flag-2.ensures.rule stats in
    let live = c.with-live.ensures _ _ c.flag-3.ensures.rule explain in
    c.with.ensures _ _ c.flag-4.ensures.rule live
