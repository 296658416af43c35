use Rattle.std.proofs.Common.{rules, ◌<◌, arith}
use Rattle.layers.proofs.Owners.{below_owner, none_owned}
use Rattle.layers.proofs.tally.Tally.owns_from.Goals as goal

pub returns-in-Some : goal.returns-in-Some
returns-in-Some c = record {
  none = λ held n long.
      let short : c.in-Some.owner < c.args.depth = search rules in
      below_owner c.args.self.now.opened c.in-Some.owner n c.in-Some.ensures.owner (omega (arith, short, long));
}

pub returns-in-None : goal.returns-in-None
returns-in-None c = record { none = λ held n long. none_owned c.args.self.now.opened n c.in-None.ensures.owner }
