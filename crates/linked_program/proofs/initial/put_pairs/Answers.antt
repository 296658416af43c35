use Rattle.std.proofs.Common.{◌++◌, map, arith}
use Rattle.meaning.specs.Statements.{in_pairs}
use Rattle.linked_program.specs.Initials.{plain_initial, initials_by}
use Rattle.linked_program.proofs.Begun.{pair_put, pairs_over}
use Rattle.linked_program.proofs.initial.put_pairs.Goals as goal

pub loop-pair-preserved : goal.loop-pair-preserved
loop-pair-preserved c =
    let all = map plain_initial c.args.made.now.items ++ initials_by c.args.reducer (in_pairs c.args.numbers.now) in
    pair_put c.args.reducer c.args.numbers.now c.loop-pair.pair (map plain_initial c.loop-pair.made.items) (map plain_initial c.put_group.new.made.items) all c.loop-pair-test.true c.loop-pair.invariant c.in_ok-put_group.ensures

pub returns : goal.returns
returns c =
    let all = map plain_initial c.args.made.now.items ++ initials_by c.args.reducer (in_pairs c.args.numbers.now) in
    pairs_over c.args.reducer c.args.numbers.now c.loop-pair.pair (map plain_initial c.loop-pair.made.items) all (omega (arith, c.loop-pair-test.false)) c.loop-pair.invariant
