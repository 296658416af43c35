use Rattle.meaning.specs.TreeView.{tree, lines}
use Rattle.prepared_program.proofs.prepare.prepare.Goals as goal

pub returns-in-Err-clause-refused : goal.returns-in-Err-clause-refused
returns-in-Err-clause-refused c =
    c.text_refusal.ensures c.args.program.now c.args.tables.now c.in-Err.ensures.fault c.in-Err.ensures.only

pub returns-in-Err-from_toml-clause-refused : goal.returns-in-Err-from_toml-clause-refused
returns-in-Err-from_toml-clause-refused c =
    c.tables_refusal.ensures c.args.program.now c.args.tables.now (tree c.in-Ok.tree, lines c.in-Ok.tree, c.in-Ok.ensures.found) c.in-Err-from_toml.ensures.refused

pub returns-in-Err-check-clause-refused : goal.returns-in-Err-check-clause-refused
returns-in-Err-check-clause-refused c =
    c.check_refusal.ensures.refused c.args.program.now c.args.tables.now c.in-Ok-from_toml.tables.tables (tree c.in-Ok.tree) (lines c.in-Ok.tree)
    c.in-Ok-from_toml.ensures.read c.in-Ok.ensures.found c.in-Err-check.ensures.refused
