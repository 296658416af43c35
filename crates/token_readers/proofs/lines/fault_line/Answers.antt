use Rattle.std.proofs.Common.{◌≡◌, ◌-◌, length}
use Rattle.token_readers.proofs.Ends.{line_there}
use Rattle.token_readers.proofs.lines.fault_line.Goals as goal

pub returns-then-at-tokens : goal.returns-then-at-tokens
returns-then-at-tokens c = let e : c.place_of-at.result ≡ length c.args.tokens.now - c.args.left = c.place_of-at.ensures in rw (← e) (line_there c.args.text.now c.args.tokens.now c.place_of-at.result _ c.if-at-tokens.true)
