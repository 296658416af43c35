use Rattle.std.proofs.Common.{subst}
use Rattle.positions.specs.Strands.{PlainStrand}
use Rattle.frames.specs.Answers.{IsAnswerOf}
use Rattle.frames.proofs.Endings.{answer_is}
use Rattle.frames.proofs.strand.Strand.end_with_tally.Goals as goal

pub returns-clause-definition : goal.returns-clause-definition
returns-clause-definition g c setting =
    subst (λ (s : PlainStrand). IsAnswerOf setting s c.end.result.0) c.self.view_is (answer_is setting c.self.inside.machine c.end.result.0 c.end.ensures.answer)
