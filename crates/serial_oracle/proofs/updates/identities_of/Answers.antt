use Rattle.serial_oracle.proofs.OneKindMore.{one_identity}
use Rattle.serial_oracle.proofs.updates.identities_of.Goals as goal

pub loop-kind-preserved : goal.loop-kind-preserved
loop-kind-preserved c =
    one_identity c.args.kinds.now c.loop-kind.kind-index c.kind-item.result c.loop-kind.values.items c.push.new.self.items c.identity.result
    c.loop-kind-test.true c.kind-item.is c.in_ok-push.ensures.items c.identity.ensures c.loop-kind.invariant
