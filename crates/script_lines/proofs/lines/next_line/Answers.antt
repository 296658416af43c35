use Rattle.std.proofs.Common.{arith}
use Rattle.script_lines.proofs.Places.{begins_within, last_line, a_line, a_line_end}
use Rattle.script_lines.proofs.lines.next_line.Goals as goal

pub returns-then-line-script-clause-rest : goal.returns-then-line-script-clause-rest
returns-then-line-script-clause-rest c =
    last_line c.args.script.now c.args.line.begin c.args.line.end (begins_within c.args.script.now c.args.line c.requires) c.requires.ends c.if-line-script.true

pub returns-clause-rest : goal.returns-clause-rest
returns-clause-rest c =
    rw c.line_at.ensures.begin
    (a_line c.args.script.now c.args.line.begin c.args.line.end (begins_within c.args.script.now c.args.line c.requires) c.requires.ends (omega (arith, c.requires.within, c.if-line-script.false)))

pub returns-clause-text : goal.returns-clause-text
returns-clause-text c =
    rw c.line_at.ensures.begin
    (a_line_end c.args.script.now c.args.line.begin c.args.line.end (begins_within c.args.script.now c.args.line c.requires) c.requires.ends (omega (arith, c.requires.within, c.if-line-script.false)))
