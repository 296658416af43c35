use Rattle.std.proofs.Common.{◌∙◌, sym}
use Rattle.monoid_laws.proofs.SameKinds.{same_kind}
use Rattle.report_session.proofs.kits.view.Goals as goal

pub returns-then-eq : goal.returns-then-eq
returns-then-eq g c = let same = same_kind c.kind.result c.args.kind (sym c.eq.ensures ∙ c.if-eq.true) in sym c.kind.ensures ∙ same
