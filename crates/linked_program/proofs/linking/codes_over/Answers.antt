use Rattle.std.proofs.lemmas.List.{append-nil}
use Rattle.std.proofs.Common.{map, take}
use Rattle.meaning.specs.TreeView.{decl, proc}
use Rattle.linked_program.specs.TableNames.{columned}
use Rattle.linked_program.specs.Procedures.{procedures}
use Rattle.linked_program.proofs.Pushes.{take_one_more, code_push, procedures_push}
use Rattle.linked_program.proofs.linking.codes_over.Goals as goal
use Rattle.linked_program.proofs.linking.codes_over.Goals.{in-Procedure+in_ok-code+in_ok-push, in_default}

pub loop-declaration-preserved : goal.loop-declaration-preserved
loop-declaration-preserved c =
    let ds = c.args.declarations.now in
    let ts = map columned c.args.tables.now in
    let t = map decl ds in
    let i = c.loop-declaration.declaration-index in
    let x = c.declaration-item.result in
    let more = take_one_more ds i x c.loop-declaration-test.true c.declaration-item.is in
    let ps = procedures_push (take i ds) x in
    elim c.match-declaration.branch [
      | in-Procedure+in_ok-code+in_ok-push w ↦
          rw (more, ps, w.in-Procedure.is, w.made-is, w.in_ok-push.ensures.items)
          (code_push ts t c.loop-declaration.made.items (procedures (map decl (take i ds))) w.in_ok-code.field-0 (proc w.in-Procedure.procedure) c.loop-declaration.invariant w.in_ok-code.ensures)
      | in_default w ↦ rw (more, ps, w.in_default.is, w.made-is, append-nil) c.loop-declaration.invariant
    ]
