use Rattle.script_lines.proofs.Places.{before_length}
use Rattle.script_lines.proofs.lines.line_at.Goals as goal

pub returns-clause-line : goal.returns-clause-line
returns-clause-line c = record {
  ends = c.end_of.ensures;
  within = before_length c.args.script.now c.args.begin _ c.requires.within c.end_of.ensures;
  counted = c.requires.counted;
}
