use Rattle.std.proofs.Common.{rules, refl, w64, SFits}
use Rattle.thread_tests.proofs.tests.sessions.fitting.is_plain.Goals as goal

pub returns-in-Int : goal.returns-in-Int
returns-in-Int c = let f : SFits w64 c.in-Int.number = search rules in λ e. rw (c.in-Add.is, c.in-Int.is) (refl, f)

pub returns-in-Arg : goal.returns-in-Arg
returns-in-Arg c = λ e. rw (c.in-Argmax.is, c.in-Arg.is) (refl, c.is_plain_pair.ensures e)
