use Rattle.std.proofs.Common.{◌+◌, map, take}
use Rattle.std.proofs.lemmas.List.{take-map}
use Rattle.meaning.specs.TreeView.{decl, proc, block_lines}
use Rattle.linked_program.specs.Violations.{at}
use Rattle.linked_program.specs.Declarations.{procedure_rules, proc_violations}
use Rattle.single_rules.proofs.Noting.{noted_append}
use Rattle.linked_program.specs.TableNames.{columned}
use Rattle.spawn_checker.proofs.declarations.note_declaration.Goals as goal

pub returns-in-Reducer : goal.returns-in-Reducer
returns-in-Reducer c = rw (c.in-Reducer.is, take-map decl c.args.number c.args.declarations.now) c.note_reducer.ensures

pub returns-in-Procedure : goal.returns-in-Procedure
returns-in-Procedure c =
    let t = map decl c.args.declarations.now in
    let p = proc c.in-Procedure.procedure in
    let lines = block_lines c.in-Procedure.procedure.blocks.items in
    rw (
      c.in-Procedure.is,
      noted_append c.args.first (at (c.args.number + 1) c.in-Procedure.procedure.line (procedure_rules (take c.args.number t) p)) (proc_violations t (map columned c.args.tables.now) (c.args.number + 1) p lines),
      take-map decl c.args.number c.args.declarations.now,
      ← c.note_head-first.ensures,
    )
    c.note_body.ensures
