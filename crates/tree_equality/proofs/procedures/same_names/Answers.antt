use Rattle.std.proofs.Common.{arith}
use Rattle.tree_equality.proofs.Apart.{apart_names}
use Rattle.tree_equality.proofs.procedures.same_names.Goals as goal

pub returns-then-left-right : goal.returns-then-left-right
returns-then-left-right c = apart_names c.args.left.now c.args.right.now (λ e. absurd (omega (arith, c.if-left-right.true, e)))
