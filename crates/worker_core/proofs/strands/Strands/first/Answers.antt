use Rattle.std.proofs.Common.{◌≡◌, All, [], ◌∷◌, ◌++◌, map, sym, ap, subst, ◌∙◌}
use Rattle.numbered_runs.specs.Named.{book_step}
use Rattle.stepped_runs.specs.Pieces.{PlainPiece}
use Rattle.worker_core.specs.Moves.{IsFit}
use Rattle.numbered_runs.proofs.Kits.{taken_kit, left_kits}
use Rattle.worker_core.proofs.Begun.{first_begun, kits_begun}
use Rattle.worker_core.proofs.Shares.{one_fit}
use Rattle.worker_core.proofs.strands.Strands.first.Goals as goal

pub returns-in-Ok-clause-fit : goal.returns-in-Ok-clause-fit
returns-in-Ok-clause-fit g c =
    let kit : c.in-Some.kit ≡ c.args.program.now.kinds = taken_kit c.args.program.now.kinds c.args.pool.kits c.take.new.self.kits c.in-Some.kit c.in-Some.ensures.one c.requires.kits in
    let fit : IsFit c.args.program.now.kinds c.held.result =
    ap (λ (p : PlainPiece). p.strand.layer.kinds) c.held.ensures.held ∙ c.in-Ok.ensures.kinds ∙ kit in
    let one : c.push_reserved.new.self.items ≡ c.held.result ∷ [] =
    c.push_reserved.ensures.items ∙ ap (λ ps. ps ++ c.held.result ∷ []) (c.reserve.ensures.items ∙ c.new-pieces.ensures.items) in
    record {
      pieces = subst (All (IsFit c.args.program.now.kinds)) (sym one) (one_fit c.args.program.now.kinds c.held.result fit);
      kits = left_kits c.args.program.now.kinds c.args.pool.kits c.take.new.self.kits c.in-Some.kit c.in-Some.ensures.one c.requires.kits;
    }

pub returns-in-Ok-clause-first : goal.returns-in-Ok-clause-first
returns-in-Ok-clause-first g c =
    let kit : c.in-Some.kit ≡ c.args.program.now.kinds = taken_kit c.args.program.now.kinds c.args.pool.kits c.take.new.self.kits c.in-Some.kit c.in-Some.ensures.one c.requires.kits in
    let one : c.push_reserved.new.self.items ≡ c.held.result ∷ [] =
    c.push_reserved.ensures.items ∙ ap (λ ps. ps ++ c.held.result ∷ []) (c.reserve.ensures.items ∙ c.new-pieces.ensures.items) in
    first_begun c.args.program.now.codes c.args.program.now.kinds c.args.program.now.initials c.args.program.now.main c.args.pool.kits c.take.new.self.kits c.in-Some.kit c.in-Some.ensures.one kit
    c.push_reserved.new.self.items c.held.result c.in-Ok.strand one c.held.ensures.held c.in-Ok.ensures.first (map book_step c.new.result.items) (ap (λ hs. map book_step hs) c.new.ensures.items)

pub returns-in-Ok-clause-kits : goal.returns-in-Ok-clause-kits
returns-in-Ok-clause-kits g c =
    let kit : c.in-Some.kit ≡ c.args.program.now.kinds = taken_kit c.args.program.now.kinds c.args.pool.kits c.take.new.self.kits c.in-Some.kit c.in-Some.ensures.one c.requires.kits in
    let one : c.push_reserved.new.self.items ≡ c.held.result ∷ [] =
    c.push_reserved.ensures.items ∙ ap (λ ps. ps ++ c.held.result ∷ []) (c.reserve.ensures.items ∙ c.new-pieces.ensures.items) in
    kits_begun c.args.program.now.codes c.args.program.now.kinds c.args.program.now.initials c.args.program.now.main c.args.pool.kits c.take.new.self.kits c.in-Some.kit c.in-Some.ensures.one kit
    c.push_reserved.new.self.items c.held.result c.in-Ok.strand one c.held.ensures.held c.in-Ok.ensures.first
