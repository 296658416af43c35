use Rattle.std.proofs.Common.{rules, ◌≡◌, ◌∙◌, ◌-◌, ◌<◌, ◌≤◌, ◌/◌, suc, List, reverse, sym, ap, subst, arith}
use Rattle.evaluation.specs.declared.slot.Slot.{Slot}
use Rattle.positions.specs.Activations.{PlainActivation, made}
use Rattle.positions.specs.Advance.{left_of}
use Rattle.positions.specs.declared.work.Work.TheVariants.{Halves}
use Rattle.running_ahead.specs.Chains.{Reaches, reach}
use Rattle.running_ahead.specs.RecordedHalves.{Arrives}
use Rattle.running_ahead.specs.declared.descent.Part.{Part}
use Rattle.running_ahead.proofs.Stacked.{reach_more, reached_here, first_level, second_level}
use Rattle.running_ahead.proofs.PartsRecorded.{arrived_here, first_recorded, second_recorded}
use Rattle.running_ahead.proofs.descent.level.Goals as goal

pub returns-then-whole-clause-reach : goal.returns-then-whole-clause-reach
returns-then-whole-clause-reach c =
    let p = c.args.begun.part in
    let few : p.share.count ≤ p.grain = search rules in
    λ r fits. let more : p.grain ≤ reach r p.grain = reach_more r p.grain in omega (arith, few, more)

pub returns-then-whole-clause-reaches : goal.returns-then-whole-clause-reaches
returns-then-whole-clause-reaches c =
    let p = c.args.begun.part in
    λ setting s u v r grain fits clear path below turns.
    reached_here setting p.site r p.halvings p.share c.args.top.now s u v c.args.begun.done c.args.path.now.items (reverse c.args.below.now.items) clear path below turns

pub returns-then-begun-first-clause-reaches : goal.returns-then-begun-first-clause-reaches
returns-then-begun-first-clause-reaches c =
    let p = c.args.begun.part in
    let a : PlainActivation = c.args.top.now in
    let n = c.args.begun.done in
    let some : 0 < p.halvings = c.requires.halved in
    let deep : p.halvings ≡ suc (p.halvings - 1) = omega (arith, some) in
    let halved : p.grain < p.share.count = search rules in
    λ setting s u v r grain fits clear path below turns.
    subst (λ (q : Part). Reaches setting p.site r s p.halvings p.share a u v c.into_first.new.path.items (reverse c.into_first.new.below.items) n q.halvings q.share c.into_first.new.top n) (sym c.into_first.ensures.half)
    (first_level setting p.site r (p.halvings - 1) p.halvings p.grain p.share a s u v n c.args.path.now.items c.into_first.new.path.items c.args.below.now.items c.into_first.new.below.items c.into_first.new.top
    deep grain fits halved clear path below turns c.into_first.ensures.path c.into_first.ensures.below (c.into_first.ensures.top ∙ ap (λ (xs : List Slot). made a.procedure xs (Halves p.site (p.halvings - 1) (left_of p.share)) a.left) c.requires.slots))

pub returns-clause-reaches : goal.returns-clause-reaches
returns-clause-reaches c =
    let p = c.args.begun.part in
    let a : PlainActivation = c.args.top.now in
    let n = c.args.begun.done in
    let some : 0 < p.halvings = c.requires.halved in
    let deep : p.halvings ≡ suc (p.halvings - 1) = omega (arith, some) in
    let halved : p.grain < p.share.count = search rules in
    let over : p.share.count / 2 ≤ n = search rules in
    λ setting s u v r grain fits clear path below turns.
    subst (λ (q : Part). Reaches setting p.site r s p.halvings p.share a u v c.into_second.new.path.items (reverse c.into_second.new.below.items) n q.halvings q.share c.into_second.new.top (n - p.share.count / 2)) (sym c.into_second.ensures.half)
    (second_level setting p.site r (p.halvings - 1) p.halvings p.grain p.share a s u v n c.args.path.now.items c.into_second.new.path.items c.args.below.now.items c.into_second.new.below.items c.into_second.new.top
    deep grain fits halved clear path below turns over c.into_second.ensures.path c.into_second.ensures.below c.into_second.ensures.top)

pub returns-then-whole-clause-arrives : goal.returns-then-whole-clause-arrives
returns-then-whole-clause-arrives c =
    let p = c.args.begun.part in
    λ setting s x y r grain fits clear path below those.
    arrived_here setting p.site r p.halvings p.share c.args.top.now s x y c.args.begun.done c.args.path.now.items (reverse c.args.below.now.items) clear path below those

pub returns-then-begun-first-clause-arrives : goal.returns-then-begun-first-clause-arrives
returns-then-begun-first-clause-arrives c =
    let p = c.args.begun.part in
    let a : PlainActivation = c.args.top.now in
    let n = c.args.begun.done in
    let some : 0 < p.halvings = c.requires.halved in
    let deep : p.halvings ≡ suc (p.halvings - 1) = omega (arith, some) in
    let halved : p.grain < p.share.count = search rules in
    λ setting s x y r grain fits clear path below those.
    subst (λ (q : Part). Arrives setting p.site r s p.halvings p.share a x y c.into_first.new.path.items (reverse c.into_first.new.below.items) n q.halvings q.share c.into_first.new.top n) (sym c.into_first.ensures.half)
    (first_recorded setting p.site r (p.halvings - 1) p.halvings p.grain p.share a s x y n c.args.path.now.items c.into_first.new.path.items c.args.below.now.items c.into_first.new.below.items c.into_first.new.top
    deep grain fits halved clear path below those c.into_first.ensures.path c.into_first.ensures.below (c.into_first.ensures.top ∙ ap (λ (xs : List Slot). made a.procedure xs (Halves p.site (p.halvings - 1) (left_of p.share)) a.left) c.requires.slots))

pub returns-clause-arrives : goal.returns-clause-arrives
returns-clause-arrives c =
    let p = c.args.begun.part in
    let a : PlainActivation = c.args.top.now in
    let n = c.args.begun.done in
    let some : 0 < p.halvings = c.requires.halved in
    let deep : p.halvings ≡ suc (p.halvings - 1) = omega (arith, some) in
    let halved : p.grain < p.share.count = search rules in
    let over : p.share.count / 2 ≤ n = search rules in
    λ setting s x y r grain fits clear path below those.
    subst (λ (q : Part). Arrives setting p.site r s p.halvings p.share a x y c.into_second.new.path.items (reverse c.into_second.new.below.items) n q.halvings q.share c.into_second.new.top (n - p.share.count / 2)) (sym c.into_second.ensures.half)
    (second_recorded setting p.site r (p.halvings - 1) p.halvings p.grain p.share a s x y n c.args.path.now.items c.into_second.new.path.items c.args.below.now.items c.into_second.new.below.items c.into_second.new.top
    deep grain fits halved clear path below those over c.into_second.ensures.path c.into_second.ensures.below c.into_second.ensures.top)
