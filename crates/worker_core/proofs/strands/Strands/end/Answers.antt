use Rattle.std.proofs.Common.{All, [], subst, sym}
use Rattle.std.proofs.lemmas.List.Elements.{All-head}
use Rattle.record_theory.specs.Named.{HaveValues}
use Rattle.worker_core.specs.Moves.{IsFit}
use Rattle.worker_core.specs.Strands.{AreFit}
use Rattle.worker_core.proofs.strands.Strands.end.Goals as goal

pub returns-then-failed-clause-kinds : goal.returns-then-failed-clause-kinds
returns-then-failed-clause-kinds g c kinds fit =
    let inside = subst (AreFit kinds) (sym c.self.view_is) fit in
    c.send_home.ensures.kinds kinds inside.pieces inside.kits

pub returns-in-Ok-clause-values : goal.returns-in-Ok-clause-values
returns-in-Ok-clause-values g c kinds fit =
    let inside = subst (AreFit kinds) (sym c.self.view_is) fit in
    let one : IsFit kinds c.in-Ok.piece = All-head (IsFit kinds) c.in-Ok.piece [] (subst (All (IsFit kinds)) c.in-Ok.ensures.one inside.pieces) in
    subst (λ ks. HaveValues ks c.end-answer.result.1.items) one c.end-answer.ensures.values

pub returns-in-Ok-clause-kinds : goal.returns-in-Ok-clause-kinds
returns-in-Ok-clause-kinds g c kinds fit =
    let inside = subst (AreFit kinds) (sym c.self.view_is) fit in
    let one : IsFit kinds c.in-Ok.piece = All-head (IsFit kinds) c.in-Ok.piece [] (subst (All (IsFit kinds)) c.in-Ok.ensures.one inside.pieces) in
    c.end-answer.ensures.kinds kinds one inside.kits

pub returns-clause-kinds : goal.returns-clause-kinds
returns-clause-kinds g c kinds fit =
    let inside = subst (AreFit kinds) (sym c.self.view_is) fit in
    c.send_home-in-Err.ensures.kinds kinds (subst (All (IsFit kinds)) (sym c.in-Err.ensures.handed_back) inside.pieces) inside.kits
