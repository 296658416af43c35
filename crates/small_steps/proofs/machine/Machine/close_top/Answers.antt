use Rattle.std.proofs.Common.{rules, ◌≡◌, ◌+◌, ◌-◌, ◌<◌, All, reverse, length, set, sym, subst, ap, ◌∙◌, refl, to_z, of_z, to_z-of_z, w64}
use Rattle.monoid_laws.specs.Kinds.{IsMonoid}
use Rattle.record_theory.specs.Named.{HaveValues}
use Rattle.positions.specs.declared.phase.Phase.TheVariants.{Leaving}
use Rattle.positions.specs.Layers.{PlainLayer}
use Rattle.positions.specs.Strands.{PlainStrand}
use Rattle.positions.specs.Advance.{closed}
use Rattle.activations.specs.Given.{lent}
use Rattle.layers.proofs.Lowest.{all_reverse}
use Rattle.small_steps.specs.Steps.{IsValued}
use Rattle.small_steps.proofs.Tops.{closed_in_place, err_given, refused_in_place}
use Rattle.small_steps.proofs.machine.Machine.close_top.Goals as goal

pub close-requires-clause-same_kinds : goal.close-requires-clause-same_kinds
close-requires-clause-same_kinds g c κs within =
    let ks = c.args.setting.program.now.kinds in
    let all : All (λ (l : PlainLayer). l.kinds ≡ ks) c.self.inside.lower.items =
    all_reverse (λ (l : PlainLayer). l.kinds ≡ ks) c.self.inside.lower.items
    (subst (λ (s : PlainStrand). All (λ (l : PlainLayer). l.kinds ≡ ks) s.lower) (sym c.self.view_is) c.requires.kinds) in
    let within : c.len-count.result - 1 < length c.self.inside.lower.items = search rules in
    ap (λ (l : PlainLayer). l.kinds) c.index_mut-outer.ensures.value ∙ all (c.len-count.result - 1) c.index_mut-outer.result.now within
    ∙ sym (subst (λ (s : PlainStrand). s.layer.kinds ≡ ks) (sym c.self.view_is) c.requires.kinds_are)

pub close-requires-clause-monoids : goal.close-requires-clause-monoids
close-requires-clause-monoids g c κs within =
    subst (λ ks. All IsMonoid ks)
    (sym (subst (λ (s : PlainStrand). s.layer.kinds ≡ c.args.setting.program.now.kinds) (sym c.self.view_is) c.requires.kinds_are) ∙ sym (close-requires-clause-same_kinds g c κs within))
    c.requires.monoids

pub returns-in_err-close-clause-refused : goal.returns-in_err-close-clause-refused
returns-in_err-close-clause-refused g c =
    let s : PlainStrand = record { start = c.self.inside.start; layer = c.self.inside.layer; lower = reverse c.self.inside.lower.items; path = c.self.inside.path.items; top = c.self.inside.top; below = reverse c.self.inside.below.items; phase = c.self.inside.phase; arguments = c.self.inside.arguments.items; tally = c.self.inside.tally } in
    let last : c.len-count.result - 1 + 1 ≡ length c.self.inside.lower.items = search rules in
    let valued = refused_in_place s c.self.inside.lower.items (c.len-count.result - 1) c.index_mut-outer.result.now c.close.new.below c.close.new.top c.close.new.self refl last c.index_mut-outer.ensures.value
    c.in_err-close.ensures.top_kept c.in_err-close.ensures.below_kept c.in_err-close.ensures.unchanged in
    err_given _ (subst (λ (z : PlainStrand). IsValued z (record s { layer = c.close.new.top; lower = reverse (set c.self.inside.lower.items (c.len-count.result - 1) c.close.new.below); tally = c.close.new.self })) c.self.view_is valued)
    c.from_residual.result

pub returns-clause-closed : goal.returns-clause-closed
returns-clause-closed g c =
    let s : PlainStrand = record { start = c.self.inside.start; layer = c.self.inside.layer; lower = reverse c.self.inside.lower.items; path = c.self.inside.path.items; top = c.self.inside.top; below = reverse c.self.inside.below.items; phase = c.self.inside.phase; arguments = c.self.inside.arguments.items; tally = c.self.inside.tally } in
    let new : PlainStrand = record s { layer = c.replace-upper.new.dest; lower = reverse c.pop.new.self.items; phase = Leaving (to_z w64 (of_z w64 c.args.value)); tally = c.close.new.self } in
    let last : c.len-count.result - 1 + 1 ≡ length c.self.inside.lower.items = search rules in
    subst (λ (z : PlainStrand). new ≡ closed (lent c.args.setting) c.args.value z) c.self.view_is
    (closed_in_place (lent c.args.setting) s c.self.inside.lower.items c.pop.new.self.items (c.len-count.result - 1) c.index_mut-outer.result.now c.close.new.below c.in-Some.outer c.replace-upper.new.dest c.close.new.self c.args.value
    (to_z w64 (of_z w64 c.args.value)) refl last c.index_mut-outer.ensures.value c.in-Some.ensures.items c.replace-upper.ensures.after c.in_ok-close.ensures.covered c.in_ok-close.ensures.closed (to_z-of_z c.ranges.value))

pub returns-clause-made : goal.returns-clause-made
returns-clause-made g c =
    subst (λ (s : PlainStrand). HaveValues s.layer.kinds s.tally.made → HaveValues s.layer.kinds c.close.new.self.made) c.self.view_is c.close.ensures.values
