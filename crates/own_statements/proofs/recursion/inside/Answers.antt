use Rattle.std.proofs.Common.{rules, ◌≡◌, Some}
use Rattle.positions.specs.Activations.{first_of}
use Rattle.positions.specs.Code.{instruction_inside}
use Rattle.own_statements.proofs.OwnCalls.{begins_with}
use Rattle.own_statements.proofs.recursion.inside.Goals as goal

pub returns-in-Some : goal.returns-in-Some
returns-in-Some c =
    let found : Some c.in-Some.first.now ≡ instruction_inside c.args.program.now.codes c.args.procedure 1 (first_of c.args.block) = search rules in
    record { inside = λ ts. begins_with c.args.program.now.codes ts c.args.procedure c.args.block c.args.slots.now c.in-Some.first.now c.returned.result found (c.returned.ensures.returned ts) }
