use Rattle.std.proofs.Common.{◌≡◌, ap, sym, ◌∙◌, drop, true, false}
use Rattle.strand_list.specs.Pages.{shown, are_neighbours}
use Rattle.strand_lines.specs.Lines.{begins_with}
use Rattle.strand_list.proofs.Lists.{next_here, next_later, rest_of, add_one}
use Rattle.strand_list.proofs.lines.are_neighbours.Goals as goal

pub loop-k-preserved : goal.loop-k-preserved
loop-k-preserved c =
    let no : begins_with c.args.left.now c.args.right.now (shown (drop c.loop-k.k c.args.lines.now)) ≡ false =
    ap (λ xs. begins_with c.args.left.now c.args.right.now (shown xs)) (sym (rest_of c.args.lines.now c.loop-k.k c.loop-k-test.true)) ∙ sym c.begins_with.ensures.next ∙ c.if-begins_with.false in
    c.loop-k.invariant ∙ next_later c.args.left.now c.args.right.now c.args.lines.now c.loop-k.k c.loop-k-test.true no
    ∙ ap (λ n. are_neighbours c.args.left.now c.args.right.now (shown (drop n c.args.lines.now))) (sym (add_one c.loop-k.k))

pub returns-then-begins_with : goal.returns-then-begins_with
returns-then-begins_with c =
    let yes : begins_with c.args.left.now c.args.right.now (shown (drop c.loop-k.k c.args.lines.now)) ≡ true =
    ap (λ xs. begins_with c.args.left.now c.args.right.now (shown xs)) (sym (rest_of c.args.lines.now c.loop-k.k c.loop-k-test.true)) ∙ sym c.begins_with.ensures.next ∙ c.if-begins_with.true in
    record { next = sym (c.loop-k.invariant ∙ next_here c.args.left.now c.args.right.now (shown (drop c.loop-k.k c.args.lines.now)) yes) }
