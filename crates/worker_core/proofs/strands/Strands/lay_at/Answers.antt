use Rattle.std.proofs.Common.{arith, ◌≡◌, ◌≤◌, ◌<◌, ◌+◌, length, slice_set, sym, ap, subst, ◌∙◌}
use Rattle.worker_core.specs.Strands.{PlainStrands, kits_in, layers_of, layers_in, freed}
use Rattle.worker_core.proofs.Kits.{piece_layers, set_layers}
use Rattle.worker_core.proofs.Layings.{laid_layers}
use Rattle.worker_core.proofs.strands.Strands.lay_at.Goals as goal

pub lay-requires-clause-room : goal.lay-requires-clause-room
lay-requires-clause-room g c κs within =
    let less : c.args.number < length c.self.inside.pieces.items = subst (λ (s : PlainStrands). c.args.number < length s.pieces) (sym c.self.view_is) c.requires.number in
    let few : layers_of c.index_mut.result.now ≤ layers_in c.self.inside.pieces.items = piece_layers c.self.inside.pieces.items c.args.number c.index_mut.result.now less c.index_mut.ensures.value in
    omega (arith, few, c.self.invariant)

pub invariant_of-self-2 : goal.invariant_of-self-2
invariant_of-self-2 g c =
    let less : c.args.number < length c.self.inside.pieces.items = subst (λ (s : PlainStrands). c.args.number < length s.pieces) (sym c.self.view_is) c.requires.number in
    let sums : layers_in (slice_set c.self.inside.pieces.items c.args.number c.lay.new.self) + layers_of c.index_mut.result.now ≡ layers_in c.self.inside.pieces.items + layers_of c.lay.new.self =
    set_layers c.self.inside.pieces.items c.args.number c.index_mut.result.now less c.index_mut.ensures.value c.lay.new.self in
    let then : layers_of c.lay.new.self + freed c.args.state c.index_mut.result.now ≡ layers_of c.index_mut.result.now = ap (λ p. layers_of p + freed c.args.state c.index_mut.result.now) c.lay.ensures.laid ∙ laid_layers c.args.state c.index_mut.result.now in
    omega (arith, sums, then, c.lay.ensures.home, c.lay.ensures.total, c.self.invariant)

pub returns-clause-kits : goal.returns-clause-kits
returns-clause-kits g c =
    let less : c.args.number < length c.self.inside.pieces.items = subst (λ (s : PlainStrands). c.args.number < length s.pieces) (sym c.self.view_is) c.requires.number in
    let sums : layers_in (slice_set c.self.inside.pieces.items c.args.number c.lay.new.self) + layers_of c.index_mut.result.now ≡ layers_in c.self.inside.pieces.items + layers_of c.lay.new.self =
    set_layers c.self.inside.pieces.items c.args.number c.index_mut.result.now less c.index_mut.ensures.value c.lay.new.self in
    let then : layers_of c.lay.new.self + freed c.args.state c.index_mut.result.now ≡ layers_of c.index_mut.result.now = ap (λ p. layers_of p + freed c.args.state c.index_mut.result.now) c.lay.ensures.laid ∙ laid_layers c.args.state c.index_mut.result.now in
    let same : length c.lay.new.pool.kits + layers_in (slice_set c.self.inside.pieces.items c.args.number c.lay.new.self) ≡ length c.self.inside.pool.kits + layers_in c.self.inside.pieces.items =
    omega (arith, sums, then, c.lay.ensures.home) in
    same ∙ ap kits_in c.self.view_is
