use Rattle.std.proofs.Common.{◌≡◌, ◌+◌, ◌*◌, drop}
use Rattle.meaning.specs.TreeView.{block, statements}
use Rattle.linked_program.specs.Scope.{after_body}
use Rattle.linked_program.specs.Bodies.{body_violations}
use Rattle.linked_program.specs.Violations.{noted}
use Rattle.single_rules.specs.Settings.{plain}
use Rattle.spawn_checker.proofs.walk.+walk.Given as goal

abbrev pub decreases-note_block : goal.decreases-note_block
decreases-note_block l = 5 * l.levels

abbrev pub decreases-note_branch : goal.decreases-note_branch
decreases-note_branch l = 5 * l.levels + 1

abbrev pub decreases-note_branches : goal.decreases-note_branches
decreases-note_branches l = 5 * l.levels + 2

abbrev pub decreases-note_statement : goal.decreases-note_statement
decreases-note_statement l = 5 * l.levels + 3

abbrev pub decreases-note_statements : goal.decreases-note_statements
decreases-note_statements l = 5 * l.levels + 4

abbrev pub invariant-note_statements-loop-i : goal.invariant-note_statements-loop-i
invariant-note_statements-loop-i l = record {
  noted : noted l.initial.found (body_violations (plain l.setting) l.depth 1 l.initial.scope (statements (block l.blocks l.levels) l.statements))
      ≡ noted l.found (body_violations (plain l.setting) l.depth (l.i + 1) l.scope (statements (block l.blocks l.levels) (drop l.i l.statements)));
  after : after_body l.depth 1 l.initial.scope (statements (block l.blocks l.levels) l.statements)
      ≡ after_body l.depth (l.i + 1) l.scope (statements (block l.blocks l.levels) (drop l.i l.statements));
}
