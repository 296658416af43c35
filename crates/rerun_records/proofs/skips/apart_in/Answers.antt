use Rattle.std.proofs.Common.{arith}
use Rattle.rerun_records.proofs.skips.apart_in.Goals as goal

pub returns-then-cursor-eq0-clause-apart : goal.returns-then-cursor-eq0-clause-apart
returns-then-cursor-eq0-clause-apart c = λ records done h p r from upto there. absurd (omega (arith, from, upto))
