use Rattle.std.proofs.Common.{Bool, take}
use Rattle.meaning.specs.Tables.{Tables}
use Rattle.linked_program.specs.CodeView.{chained}
use Rattle.linked_program.specs.Linked.{Linked}
use Rattle.evaluation.specs.Values.{value_at}
use Rattle.own_statements.specs.Fills.{Reads}
use Rattle.own_statements.proofs.chains.linked.Given as goal

abbrev pub invariant-loop-link : goal.invariant-loop-link
invariant-loop-link l = (keeps : Bool) (all : Tables) (e : Linked) → Reads keeps (value_at all l.slots e) l.start
    → Reads keeps (value_at all l.slots (chained e (take l.link-index l.links))) l.value
