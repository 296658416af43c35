use Rattle.std.proofs.Common.{◌≡◌, ◌-◌, length, arith, rules, ◌∙◌}
use Rattle.std.specs.Vec.{vec_len}
use Rattle.meaning.specs.TreeView.{block}
use Rattle.tree_equality.proofs.Apart.{apart_statements, empty_right, empty_left}
use Rattle.tree_equality.proofs.actions.+same.Goals as goal

pub same_block-returns-in-Some-block_at : goal.same_block-returns-in-Some-block_at
same_block-returns-in-Some-block_at t c =
    let v = c.in-Some-block_at.second.now.statements in
    let e : vec_len v ≡ length v.items = search rules in
    let theirs = block c.args.theirs.now (c.args.their_levels - 1) in
    record { same = rw (c.in-None.ensures.found, c.in-Some-block_at.ensures.found) (c.is_empty.ensures ∙ empty_right theirs v.items (vec_len v) e) }

pub same_block-returns-in-None-block_at-2 : goal.same_block-returns-in-None-block_at-2
same_block-returns-in-None-block_at-2 t c =
    let v = c.in-Some.first.now.statements in
    let e : vec_len v ≡ length v.items = search rules in
    let ours = block c.args.ours.now (c.args.our_levels - 1) in
    record { same = rw (c.in-Some.ensures.found, c.in-None-block_at-2.ensures.found) (c.is_empty-in-None-block_at-2.ensures ∙ empty_left ours v.items (vec_len v) e) }

pub same_statements-returns-then-left-right : goal.same_statements-returns-then-left-right
same_statements-returns-then-left-right t c =
    record { same = apart_statements (block c.args.ours.now c.args.our_levels) (block c.args.theirs.now c.args.their_levels) c.args.left.now c.args.right.now (λ e. absurd (omega (arith, c.if-left-right.true, e))) }
