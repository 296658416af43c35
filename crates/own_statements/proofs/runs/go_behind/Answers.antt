use Rattle.std.proofs.Common.{rules, ◌≡◌, length}
use Rattle.positions.specs.declared.work.Work.TheVariants.{Over}
use Rattle.own_statements.proofs.Paths.{over_outside}
use Rattle.own_statements.proofs.runs.go_behind.Goals as goal

pub returns-then-is_over : goal.returns-then-is_over
returns-then-is_over c =
    let none : length c.args.top.now.outer ≡ 0 = search rules in
    let over : c.args.top.now.work ≡ Over = search rules in
    record { outside = over_outside c.args.top.now none over }
