use Rattle.std.proofs.Common.{rules, ◌≡◌, All, sym, ap, subst, ◌∙◌}
use Rattle.monoid_laws.specs.Kinds.{IsMonoid}
use Rattle.positions.specs.Strands.{PlainStrand}
use Rattle.right_strands.specs.Remembering.{recalling}
use Rattle.right_strands.specs.Pairs.{IsPairFrom}
use Rattle.right_strands.proofs.Boxes.{held_there, joined_or_failed}
use Rattle.right_strands.proofs.Joins.{pair_done, half_or}
use Rattle.right_strands.proofs.strand.RightStrand.join.Goals as goal

pub join_there-requires-clause-done : goal.join_there-requires-clause-done
join_there-requires-clause-done g c κs within =
    let l : c.deref_mut.result.now.strand ≡ c.args.self.now.strand = search rules in
    let left : IsPairFrom g.J.Run.setting c.args.start c.deref_mut.result.now.strand c.args.right.now.strand = subst (λ (s : PlainStrand). IsPairFrom g.J.Run.setting c.args.start s c.args.right.now.strand) (sym l) c.requires.pair in
    pair_done (recalling g.J.Run.setting c.upheld.ensures.sound) c.deref_mut.result.now.strand c.args.right.now.strand (left.pair c.upheld.ensures.sound)

pub join_there-requires-clause-one_layer : goal.join_there-requires-clause-one_layer
join_there-requires-clause-one_layer g c κs within =
    let r : c.deref_mut-2.result.now.strand ≡ c.args.right.now.strand = search rules in
    ap (λ (s : PlainStrand). s.lower) r ∙ (c.requires.pair.pair c.upheld.ensures.sound).one_layer

pub join_there-requires-clause-kinds : goal.join_there-requires-clause-kinds
join_there-requires-clause-kinds g c κs within =
    let l : c.deref_mut.result.now.strand ≡ c.self.inside.body.value.strand = search rules in
    let r : c.deref_mut-2.result.now.strand ≡ c.right.inside.body.value.strand = search rules in
    ap (λ (s : PlainStrand). s.layer.kinds) l ∙ c.self.invariant.kinds ∙ sym (ap (λ (s : PlainStrand). s.layer.kinds) r ∙ c.right.invariant.kinds)

pub join_there-requires-clause-monoids : goal.join_there-requires-clause-monoids
join_there-requires-clause-monoids g c κs within =
    let l : c.deref_mut.result.now.strand ≡ c.self.inside.body.value.strand = search rules in
    subst (All IsMonoid) (sym (ap (λ (s : PlainStrand). s.layer.kinds) l ∙ c.self.invariant.kinds)) c.upheld.ensures.monoids

pub invariant_of-self : goal.invariant_of-self
invariant_of-self g c =
    let d = c.deref_mut.result.now in
    let e = c.deref_mut-2.result.now in
    let new = c.join_there.new.self in
    let l : d.strand ≡ c.args.self.now.strand = search rules in
    let r : e.strand ≡ c.args.right.now.strand = search rules in
    let left : IsPairFrom g.J.Run.setting c.args.start d.strand c.args.right.now.strand = subst (λ (s : PlainStrand). IsPairFrom g.J.Run.setting c.args.start s c.args.right.now.strand) (sym l) c.requires.pair in
    let pair : IsPairFrom g.J.Run.setting c.args.start d.strand e.strand = subst (λ (s : PlainStrand). IsPairFrom g.J.Run.setting c.args.start d.strand s) (sym r) left in
    let start : d.start ≡ c.self.inside.body.value.start = search rules in
    let failed : d.failed ≡ c.self.inside.body.value.failed = search rules in
    let strand : d.strand ≡ c.self.inside.body.value.strand = search rules in
    let held = held_there g.J.Run.setting c.self.inside.body.value.start d.start c.self.inside.body.value.failed d.failed c.self.inside.body.value.strand d.strand start failed strand c.self.invariant in
    joined_or_failed g.J.Run.setting d.strand e.strand new.strand c.args.start d.start new.start d.failed new.failed c.join_there.result c.upheld.ensures.sound c.upheld.ensures.ready c.upheld.ensures.numbered
    c.join_there.ensures.joined c.join_there.ensures.begins c.join_there.ensures.going c.join_there.ensures.failed c.join_there.ensures.left_kept pair held

pub returns-clause-one_layer : goal.returns-clause-one_layer
returns-clause-one_layer g c = (c.requires.pair.pair c.upheld.ensures.sound).one_layer

pub returns-clause-pair : goal.returns-clause-pair
returns-clause-pair g c =
    let d = c.deref_mut.result.now in
    let e = c.deref_mut-2.result.now in
    let l : d.strand ≡ c.args.self.now.strand = search rules in
    let r : e.strand ≡ c.args.right.now.strand = search rules in
    let left : IsPairFrom g.J.Run.setting c.args.start d.strand c.args.right.now.strand = subst (λ (s : PlainStrand). IsPairFrom g.J.Run.setting c.args.start s c.args.right.now.strand) (sym l) c.requires.pair in
    let pair : IsPairFrom g.J.Run.setting c.args.start d.strand e.strand = subst (λ (s : PlainStrand). IsPairFrom g.J.Run.setting c.args.start d.strand s) (sym r) left in
    half_or g.J.Run.setting d.strand e.strand c.join_there.new.self.strand c.join_there.new.over.strand c.args.start c.join_there.result c.join_there.ensures.left_kept c.join_there.ensures.right_kept c.join_there.ensures.product pair
