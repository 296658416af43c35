use Rattle.command_line.proofs.line.form_of_values.Goals as goal

pub returns : goal.returns
returns c =
    let program = c.with-program.ensures _ _ c.path.ensures.rule c.named.ensures in
    let tables = c.with-tables.ensures _ _ c.path-2.ensures.rule program in
    let workers = c.with-workers.ensures _ _ c.option.ensures.rule tables in
    let kits = c.with-kits.ensures _ _ c.option-2.ensures.rule workers in
    let trace = c.with-trace.ensures _ _ c.option-3.ensures.rule kits in
    c.with.ensures _ _ c.option-4.ensures.rule trace
