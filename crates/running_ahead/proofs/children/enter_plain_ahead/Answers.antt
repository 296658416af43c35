use Rattle.std.proofs.Common.{rules, ◌≡◌, ◌∙◌, true, false, map, subst, sym}
use Rattle.linked_program.specs.CodeView.{expression, slots_of}
use Rattle.evaluation.specs.Values.{entry_at}
use Rattle.positions.specs.declared.work.Work.TheVariants.{Block}
use Rattle.positions.specs.Strands.{PlainStrand}
use Rattle.positions.specs.Advance.{evaluated}
use Rattle.activations.specs.Given.{lent}
use Rattle.small_steps.specs.Steps.{nested_plain}
use Rattle.running_ahead.specs.Ahead.{IsAhead, GoesAhead}
use Rattle.running_ahead.proofs.Paths.{ahead_here}
use Rattle.running_ahead.proofs.children.enter_plain_ahead.Goals as goal

pub returns-then-is_found_at_once-clause-ahead : goal.returns-then-is_found_at_once-clause-ahead
returns-then-is_found_at_once-clause-ahead g c =
    let yes : c.is_found_at_once.result ≡ true = search rules in
    c.is_found_at_once.ensures.came yes c.args.statement

pub returns-in-Nowhere-clause-ahead : goal.returns-in-Nowhere-clause-ahead
returns-in-Nowhere-clause-ahead g c e =
    let S = lent c.args.setting in
    let no : c.is_found_at_once.result ≡ false = search rules in
    subst (λ (z : PlainStrand). IsAhead S c.args.machine.now z) (sym (c.in-Nowhere.ensures.came ∙ c.is_found_at_once.ensures.unchanged no)) (ahead_here S c.args.machine.now)

pub returns-in-Back-clause-ahead : goal.returns-in-Back-clause-ahead
returns-in-Back-clause-ahead g c =
    let S = lent c.args.setting in
    let callee = c.args.callee in
    let n = c.args.statement in
    let no : c.is_found_at_once.result ≡ false = search rules in
    subst (λ (z : PlainStrand). GoesAhead S (evaluated n (entry_at S.tables z.top.slots (slots_of S.codes callee.procedure) (map expression callee.arguments.now)) (nested_plain n callee.way callee.into (Block callee.next) callee.procedure)) z c.child_ahead.new.machine)
    (c.is_found_at_once.ensures.unchanged no) (c.in-Back.ensures.came n)

pub returns-in-Stays-clause-ahead : goal.returns-in-Stays-clause-ahead
returns-in-Stays-clause-ahead g c =
    let S = lent c.args.setting in
    let callee = c.args.callee in
    let n = c.args.statement in
    let no : c.is_found_at_once.result ≡ false = search rules in
    subst (λ (z : PlainStrand). GoesAhead S (evaluated n (entry_at S.tables z.top.slots (slots_of S.codes callee.procedure) (map expression callee.arguments.now)) (nested_plain n callee.way callee.into (Block callee.next) callee.procedure)) z c.child_ahead.new.machine)
    (c.is_found_at_once.ensures.unchanged no) (c.in-Stays.ensures.came n)
