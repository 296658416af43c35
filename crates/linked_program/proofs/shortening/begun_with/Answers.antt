use Rattle.linked_program.specs.Linked.{slot}
use Rattle.linked_program.proofs.shortening.begun_with.Goals as goal

pub returns : goal.returns
returns c = record { chain = c.longer.ensures.longer (slot c.args.slot) c.alone.ensures.chain }
