use Rattle.std.proofs.Common.{◌+◌, drop, ap, sym, ◌∙◌, refl}
use Rattle.meaning.specs.declared.tree.Action.TheVariants.{If}
use Rattle.meaning.specs.TreeView.{block, deed, statements}
use Rattle.linked_program.specs.Scope.{moment, after_deed, after_body, second}
use Rattle.linked_program.specs.Rules.{deed_rules}
use Rattle.linked_program.specs.Bodies.{line_of, body_violations, branch_violations, step_violations}
use Rattle.linked_program.specs.Violations.{noted, at}
use Rattle.single_rules.specs.Settings.{plain}
use Rattle.single_rules.proofs.Lists.{item_here}
use Rattle.single_rules.proofs.Noting.{noted_append}
use Rattle.spawn_checker.proofs.walk.+walk.Goals as goal

pub note_branches-returns-clause-noted : goal.note_branches-returns-clause-noted
note_branches-returns-clause-noted t c =
    let s = plain c.args.setting.now in
    let a = block c.args.blocks.now c.args.levels c.args.branches.one in
    let b = block c.args.blocks.now c.args.levels c.args.branches.two in
    let depth = c.args.now.depth + 1 in
    c.note_branch-found-2.ensures.noted
    ∙ rw (c.return_to.ensures.returned, c.synced-before.ensures.synced, c.note_branch-found.ensures.after, c.note_branch-found.ensures.noted)
    (sym (noted_append c.args.first (body_violations s depth 1 c.args.scope.now a) (body_violations s depth 1 (second c.args.now c.args.scope.now a) b)))

pub note_statement-returns-in-If-clause-noted : goal.note_statement-returns-in-If-clause-noted
note_statement-returns-in-If-clause-noted t c =
    let s = plain c.args.setting.now in
    let blocks = block c.args.blocks.now c.args.levels in
    let d = deed blocks c.args.statement.now.action in
    c.note_branches.ensures.noted
    ∙ rw (c.note_here-first_here.ensures.noted, c.note_here-first_here.ensures.after, c.in-If.is)
    (sym (noted_append c.args.first
    (at s.declaration (line_of s.lines c.args.statement.now.number) (deed_rules s c.args.now c.args.scope.now (deed blocks (If c.in-If.field-0 c.in-If.one c.in-If.two))))
    (branch_violations s c.args.now c.args.scope.now (blocks c.in-If.one) (blocks c.in-If.two))))

pub note_statements-loop-i-preserved : goal.note_statements-loop-i-preserved
note_statements-loop-i-preserved t c =
    let s = plain c.args.setting.now in
    let blocks = block c.args.blocks.now c.args.levels in
    let i = c.loop-i.i in
    let x = c.index-statements-i.result in
    let depth = c.args.depth in
    let here = item_here c.args.statements.now i x c.loop-i-test.true c.index-statements-i.is in
    let rest = statements blocks (drop (i + 1) c.args.statements.now) in
    let after = after_deed (moment depth (i + 1)) c.loop-i.scope (deed blocks x.action) in
    record {
      noted =
          c.loop-i.invariant.noted
          ∙ ap (λ xs. noted c.loop-i.found (body_violations s depth (i + 1) c.loop-i.scope (statements blocks xs))) here
          ∙ noted_append c.loop-i.found (step_violations s (moment depth (i + 1)) c.loop-i.scope x.number (deed blocks x.action)) (body_violations s depth (i + 1 + 1) after rest)
          ∙ rw (c.note_statement-found.ensures.noted, c.note_statement-found.ensures.after) refl;
      after =
          c.loop-i.invariant.after
          ∙ ap (λ xs. after_body depth (i + 1) c.loop-i.scope (statements blocks xs)) here
          ∙ rw c.note_statement-found.ensures.after refl;
    }
