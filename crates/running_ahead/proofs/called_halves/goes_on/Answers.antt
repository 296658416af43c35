use Rattle.std.proofs.Common.{◌≡◌, ◌∙◌, ◌+◌, ◌<◌, ◌≤◌, ◌∷◌, ℕ, suc, List, length, reverse, vec_len, vec_capacity, ap, subst, arith, add-one}
use Rattle.positions.specs.declared.work.Loop.{Loop}
use Rattle.positions.specs.declared.work.Work.TheVariants.{Turns}
use Rattle.positions.specs.Activations.{PlainActivation, at}
use Rattle.activations.specs.Turned.{turned_by}
use Rattle.running_ahead.specs.declared.came.Chained.{Chained}
use Rattle.running_ahead.specs.Chains.{AreTurns, IsWithin, IsFewer, ChainsTo, under}
use Rattle.own_statements.specs.Paths.{stacked, topped}
use Rattle.positions.specs.Strands.{PlainStrand}
use Rattle.positions.specs.declared.phase.Phase.TheVariants.{Running}
use Rattle.activations.specs.declared.nest.Nest.{Nest}
use Rattle.running_ahead.proofs.HalvesAtOnce.{half_whole, half_before, half_within}
use Rattle.running_ahead.proofs.called_halves.goes_on.Goals as goal

pub turn_to-requires-clause-children : goal.turn_to-requires-clause-children
turn_to-requires-clause-children c =
    let a : c.descend-last.new.top.children ≤ c.args.top.now.children = c.descend-last.ensures.children in
    let d : c.descend-last.result.done < c.descend-last.result.part.share.count = c.descend-last.ensures.some in
    let f : c.descend-last.result.part.share.count ≤ c.args.ready.part.share.count = c.descend-last.ensures.fewer in
    let few : c.args.ready.part.share.count ≤ 256 = c.requires.few in
    let room : c.args.top.now.children + 1024 < 18446744073709551616 = c.requires.children in
    omega (arith, a, d, f, few, room)

pub turn_to-requires-in-Within-clause-children : goal.turn_to-requires-in-Within-clause-children
turn_to-requires-in-Within-clause-children c =
    let a : c.descend-last-in-Within.new.top.children ≤ c.args.top.now.children = c.descend-last-in-Within.ensures.children in
    let d : c.descend-last-in-Within.result.done < c.descend-last-in-Within.result.part.share.count = c.descend-last-in-Within.ensures.some in
    let f : c.descend-last-in-Within.result.part.share.count ≤ c.args.ready.part.share.count = c.descend-last-in-Within.ensures.fewer in
    let few : c.args.ready.part.share.count ≤ 256 = c.requires.few in
    let room : c.args.top.now.children + 1024 < 18446744073709551616 = c.requires.children in
    omega (arith, a, d, f, few, room)

pub returns-in-Whole : goal.returns-in-Whole
returns-in-Whole c =
    let p = c.args.ready.part in
    let a : PlainActivation = c.args.top.now in
    record {
      came = λ setting u v grain halved chained.
          half_whole setting p.site p.halvings p.share a c.requires.there u c.args.path.now.items (reverse c.args.below.now.items) (length c.args.ready.copies.items) p.grain c.requires.levels c.end_half.new.top v
          grain c.requires.reached halved (subst (λ (x : Chained). ChainsTo setting p.site a p.share.first p.share.count x u (c.args.spares.now.nest.child ∷ c.args.spares.now.nest.above.items) v) c.in-Whole.is chained) c.end_half.ensures.ended;
    }

pub returns-in-Before : goal.returns-in-Before
returns-in-Before c =
    let p = c.args.ready.part in
    let a : PlainActivation = c.args.top.now in
    let last = c.descend-last.result in
    let b : PlainActivation = c.descend-last.new.top in
    record {
      came = λ setting u v grain halved chained.
          let turns : AreTurns setting p.site a.procedure a.slots a.left p.share.first u c.in-Before.done v = subst (λ (x : Chained). ChainsTo setting p.site a p.share.first p.share.count x u (c.args.spares.now.nest.child ∷ c.args.spares.now.nest.above.items) v) c.in-Before.is chained in
          half_before setting p.site p.halvings p.share a c.requires.there u c.args.path.now.items (reverse c.args.below.now.items) (length c.args.ready.copies.items) p.grain c.requires.levels
          c.descend-last.new.path.items (reverse c.descend-last.new.below.items) c.in-Before.done last.part.halvings last.part.share b last.done c.descend-last.ensures.some c.descend-last.ensures.procedure grain c.descend-last.ensures.few
          c.turn_to.new.top v (λ s clear path below. c.descend-last.ensures.reaches setting s u v grain clear path below turns)
          (c.turn_to.ensures.turned ∙ ap (λ (l : Loop). turned_by last.done l last.part.share (at (Turns l last.part.share) b)) c.descend-last.ensures.site);
    }

pub put_on_top-requires-clause-path_room : goal.put_on_top-requires-clause-path_room
put_on_top-requires-clause-path_room c =
    let few : c.in-Within.more ≤ length c.args.spares.now.nest.above.items = (subst (λ (x : Chained). IsFewer c.args.ready.part.share.count (length c.args.spares.now.nest.above.items) x) c.in-Within.is c.requires.fewer).1 in
    let room : vec_len c.args.path.now + length c.args.ready.copies.items + length c.args.spares.now.nest.above.items < vec_capacity c.args.path.now = c.requires.path_room in
    let longer : vec_len c.descend-last-in-Within.new.path ≤ vec_len c.args.path.now + length c.args.ready.copies.items = c.descend-last-in-Within.ensures.path_len in
    let same : vec_capacity c.descend-last-in-Within.new.path ≡ vec_capacity c.args.path.now = c.descend-last-in-Within.ensures.path_capacity in
    omega (arith, few, room, longer, same)

pub put_on_top-requires-clause-below_room : goal.put_on_top-requires-clause-below_room
put_on_top-requires-clause-below_room c =
    let few : c.in-Within.more ≤ length c.args.spares.now.nest.above.items = (subst (λ (x : Chained). IsFewer c.args.ready.part.share.count (length c.args.spares.now.nest.above.items) x) c.in-Within.is c.requires.fewer).1 in
    let room : vec_len c.args.below.now + length c.args.ready.copies.items + length c.args.spares.now.nest.above.items < vec_capacity c.args.below.now = c.requires.below_room in
    let longer : vec_len c.descend-last-in-Within.new.below ≤ vec_len c.args.below.now + length c.args.ready.copies.items = c.descend-last-in-Within.ensures.below_len in
    let same : vec_capacity c.descend-last-in-Within.new.below ≡ vec_capacity c.args.below.now = c.descend-last-in-Within.ensures.below_capacity in
    omega (arith, few, room, longer, same)

pub returns-in-Within : goal.returns-in-Within
returns-in-Within c =
    let p = c.args.ready.part in
    let a : PlainActivation = c.args.top.now in
    let last = c.descend-last-in-Within.result in
    let b : PlainActivation = c.descend-last-in-Within.new.top in
    let xs : List PlainActivation = c.args.spares.now.nest.child ∷ c.args.spares.now.nest.above.items in
    let loop : PlainActivation = c.turn_to-in-Within.new.top in
    let below : List PlainActivation = c.descend-last-in-Within.new.below.items in
    record {
      came = λ setting u v grain halved chained.
          let inside : IsWithin setting p.site a.procedure a.slots a.left p.share.first c.in-Within.done c.in-Within.more u xs v = subst (λ (x : Chained). ChainsTo setting p.site a p.share.first p.share.count x u xs v) c.in-Within.is chained in
          let ends : (s : PlainStrand) → s.path ≡ c.descend-last-in-Within.new.path.items → s.below ≡ reverse below
          → stacked (suc c.in-Within.more) loop xs v s ≡ topped Running c.put_on_top.new.top v (under c.put_on_top.new.path.items (reverse c.put_on_top.new.below.items) s) =
          λ s e f. subst (λ (n : Nest). stacked (suc c.in-Within.more) loop (n.child ∷ n.above.items) v s ≡ topped Running c.put_on_top.new.top v (under c.put_on_top.new.path.items (reverse c.put_on_top.new.below.items) s)) c.descend-last-in-Within.ensures.nest (c.put_on_top.ensures.stacked v s e f) in
          half_within setting p.site p.halvings p.share a c.requires.there u c.args.path.now.items (reverse c.args.below.now.items) (length c.args.ready.copies.items) p.grain c.requires.levels
          c.descend-last-in-Within.new.path.items (reverse below) c.in-Within.done last.part.halvings last.part.share b last.done c.descend-last-in-Within.ensures.some c.descend-last-in-Within.ensures.procedure grain c.descend-last-in-Within.ensures.few
          loop c.in-Within.more xs v c.put_on_top.new.top c.put_on_top.new.path.items (reverse c.put_on_top.new.below.items) inside (λ s clear path below_same. c.descend-last-in-Within.ensures.reaches setting s u inside.before grain clear path below_same inside.turns)
          (c.turn_to-in-Within.ensures.turned ∙ ap (λ (l : Loop). turned_by (last.done + 1) l last.part.share (at (Turns l last.part.share) b)) c.descend-last-in-Within.ensures.site
          ∙ ap (λ (n : ℕ). turned_by n p.site last.part.share (at (Turns p.site last.part.share) b)) (add-one last.done))
          ends;
    }
