use Rattle.std.proofs.Common.{◌∙◌, map, take, ap}
use Rattle.meaning.specs.TreeView.{decl}
use Rattle.linked_program.specs.TableNames.{columned}
use Rattle.linked_program.specs.Linked.{linked_body}
use Rattle.linked_program.specs.declared.code.Operation.{Operation}
use Rattle.linked_program.specs.CodeView.{act, HasShort}
use Rattle.linked_program.proofs.Pushes.{take_one_more, statement_push}
use Rattle.linked_program.proofs.Shorts.{all_push}
use Rattle.linked_program.proofs.linking.instructions.Goals as goal

pub loop-statement-preserved : goal.loop-statement-preserved
loop-statement-preserved c =
    let ts = map columned c.args.tables.now in
    let t = map decl c.args.declarations.now in
    let ss = c.args.statements.now in
    let i = c.loop-statement.statement-index in
    let s = c.statement-item.result in
    let is = c.loop-statement.made.items in
    let x = c.in_ok-instruction.field-0 in
    record {
      acts = λ inner. rw (c.in_ok-push.ensures.items, take_one_more ss i s c.loop-statement-test.true c.statement-item.is)
          (statement_push ts t inner (λ n. linked_body ts t (inner n)) is (take i ss) x s (c.loop-statement.invariant.acts inner) c.in_ok-instruction.ensures.number
          (ap (λ (op : Operation). act (λ n. linked_body ts t (inner n)) op) c.in_ok-instruction.ensures.operation ∙ c.in_ok-operation.ensures inner));
      short = rw (c.in_ok-push.ensures.items) (all_push (HasShort c.args.kinds.now) is x c.loop-statement.invariant.short c.in_ok-instruction.ensures.short);
    }
