use Rattle.std.proofs.Common.{rules, ◌≡◌, nat_eq, true, false}
use Rattle.activations.proofs.SameNames.{child_then, child_else}
use Rattle.activations.proofs.names.is_child.Goals as goal

pub returns-then-child-last : goal.returns-then-child-last
returns-then-child-last c =
    let same : nat_eq c.args.child c.in-Some.last.now ≡ true = search rules in
    record { child = child_then c.args.name.now c.args.parent.now c.in-Some.front.now c.args.child c.in-Some.last.now c.is_same.result c.in-Some.ensures.cases.0 same c.is_same.ensures.same }

pub returns-else-child-last : goal.returns-else-child-last
returns-else-child-last c =
    let other : nat_eq c.args.child c.in-Some.last.now ≡ false = search rules in
    record { child = child_else c.args.name.now c.args.parent.now c.in-Some.front.now c.args.child c.in-Some.last.now c.in-Some.ensures.cases.0 other }
