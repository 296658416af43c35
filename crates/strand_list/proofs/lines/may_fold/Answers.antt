use Rattle.std.proofs.Common.{◌≡◌, ap, sym, ◌∙◌, drop, true, false}
use Rattle.meaning.specs.Strands.{may_fold}
use Rattle.strand_list.specs.Pages.{shown, begins_pair}
use Rattle.strand_list.proofs.Lists.{folds_here, folds_later, rest_of, add_one}
use Rattle.strand_list.proofs.lines.may_fold.Goals as goal

pub loop-k-preserved : goal.loop-k-preserved
loop-k-preserved c =
    let no : begins_pair c.args.left.now c.args.right.now (shown (drop c.loop-k.k c.args.lines.now)) ≡ false =
    ap (λ xs. begins_pair c.args.left.now c.args.right.now (shown xs)) (sym (rest_of c.args.lines.now c.loop-k.k c.loop-k-test.true)) ∙ sym c.begins_pair.ensures.pair ∙ c.if-begins_pair.false in
    c.loop-k.invariant ∙ folds_later c.args.left.now c.args.right.now c.args.lines.now c.loop-k.k c.loop-k-test.true no
    ∙ ap (λ n. may_fold (shown (drop n c.args.lines.now)) c.args.left.now c.args.right.now) (sym (add_one c.loop-k.k))

pub returns-then-begins_pair : goal.returns-then-begins_pair
returns-then-begins_pair c =
    let yes : begins_pair c.args.left.now c.args.right.now (shown (drop c.loop-k.k c.args.lines.now)) ≡ true =
    ap (λ xs. begins_pair c.args.left.now c.args.right.now (shown xs)) (sym (rest_of c.args.lines.now c.loop-k.k c.loop-k-test.true)) ∙ sym c.begins_pair.ensures.pair ∙ c.if-begins_pair.true in
    record { may = sym (c.loop-k.invariant ∙ folds_here c.args.left.now c.args.right.now (shown (drop c.loop-k.k c.args.lines.now)) yes) }
