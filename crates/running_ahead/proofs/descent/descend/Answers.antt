use Rattle.std.proofs.Common.{◌≡◌, ◌∙◌, ◌+◌, ◌<◌, ◌≤◌, ◌∷◌, All, ℕ, suc, length, reverse, vec_len, vec_capacity, refl, sym, ap, subst, arith}
use Rattle.std.specs.Vec.Iter.{into_iter_items}
use Rattle.std.proofs.lemmas.List.Elements.{All-head, All-tail}
use Rattle.positions.specs.declared.work.Loop.{Loop}
use Rattle.positions.specs.Code.{loop_at}
use Rattle.running_ahead.specs.Chains.{Reaches, reach, under}
use Rattle.running_ahead.specs.RecordedHalves.{Arrives}
use Rattle.running_ahead.proofs.Stacked.{reached_here, level_joined}
use Rattle.running_ahead.proofs.PartsRecorded.{arrived_here, arrivals_more}
use Rattle.running_ahead.proofs.descent.descend.Goals as goal

pub loop-slots-init : goal.loop-slots-init
loop-slots-init c =
    let p = c.args.ready.part in
    let xs = into_iter_items c.into_iter-slots-iterator.result in
    let all = c.args.ready.copies.items in
    let gives : xs ≡ all = c.into_iter-slots-iterator.ensures.into_iter_gives.0 in
    let long : length xs ≡ length all = ap (λ zs. length zs) gives in
    record {
      fits = c.requires.fits;
      grain = refl;
      site = refl;
      some = c.requires.some;
      fewer = omega arith;
      halved = subst (λ (n : ℕ). n ≤ p.halvings) (sym long) c.requires.halved;
      reached = subst (λ (n : ℕ). p.share.count ≤ reach n p.grain) (sym long) c.requires.reached;
      copies = subst (λ zs. All (λ v. v.items ≡ c.args.top.now.slots) zs) (sym gives) c.requires.copies;
      children = omega arith;
      nest = refl;
      path_capacity = refl;
      below_capacity = refl;
      path_len = omega (arith, long);
      below_len = omega (arith, long);
      procedure = refl;
      path_room = subst (λ (n : ℕ). vec_len c.args.path.now + n < vec_capacity c.args.path.now) (sym long) c.requires.path_room;
      below_room = subst (λ (n : ℕ). vec_len c.args.below.now + n < vec_capacity c.args.below.now) (sym long) c.requires.below_room;
      reaches = λ setting s u v grain clear path below turns.
          subst (λ (n : ℕ). Reaches setting p.site n s p.halvings p.share c.args.top.now u v c.args.path.now.items (reverse c.args.below.now.items) c.args.done p.halvings p.share c.args.top.now c.args.done) (sym long)
          (reached_here setting p.site (length all) p.halvings p.share c.args.top.now s u v c.args.done c.args.path.now.items (reverse c.args.below.now.items) clear path below turns);
      arrives = λ setting s x y grain clear path below those.
          subst (λ (n : ℕ). Arrives setting p.site n s p.halvings p.share c.args.top.now x y c.args.path.now.items (reverse c.args.below.now.items) c.args.done p.halvings p.share c.args.top.now c.args.done) (sym long)
          (arrived_here setting p.site (length all) p.halvings p.share c.args.top.now s x y c.args.done c.args.path.now.items (reverse c.args.below.now.items) clear path below those);
    }

pub level-begun-requires-clause-slots : goal.level-begun-requires-clause-slots
level-begun-requires-clause-slots c =
    let rest = into_iter_items c.next.new.self in
    let steps : into_iter_items c.loop-slots.slots-iterator ≡ c.in-Some.slots ∷ rest = c.in-Some.ensures.steps.0 in
    All-head (λ v. v.items ≡ c.loop-slots.top.slots) c.in-Some.slots rest (subst (λ zs. All (λ v. v.items ≡ c.loop-slots.top.slots) zs) steps c.loop-slots.invariant.copies)

pub loop-slots-preserved : goal.loop-slots-preserved
loop-slots-preserved c =
    let site = c.args.ready.part.site in
    let g = c.args.ready.part.grain in
    let p = c.loop-slots.begun.part in
    let q = c.level-begun.result.part in
    let inv = c.loop-slots.invariant in
    let rest = into_iter_items c.next.new.self in
    let steps : into_iter_items c.loop-slots.slots-iterator ≡ c.in-Some.slots ∷ rest = c.in-Some.ensures.steps.0 in
    let long : length (into_iter_items c.loop-slots.slots-iterator) ≡ suc (length rest) = ap (λ zs. length zs) steps in
    let deep : suc (length rest) ≤ p.halvings = subst (λ (n : ℕ). n ≤ p.halvings) long inv.halved in
    let less : p.halvings ≤ q.halvings + 1 = c.level-begun.ensures.halvings in
    let few : q.share.count ≤ p.share.count = c.level-begun.ensures.fewer in
    let few_before : p.share.count ≤ c.args.ready.part.share.count = inv.fewer in
    let fits : p.share.count ≤ reach (suc (length rest)) p.grain = subst (λ (x : ℕ). p.share.count ≤ reach (suc (length rest)) x) (sym inv.grain) (subst (λ (n : ℕ). p.share.count ≤ reach n g) long inv.reached) in
    let children : c.level-begun.new.top.children ≤ c.loop-slots.top.children = c.level-begun.ensures.children in
    let children_before : c.loop-slots.top.children ≤ c.args.top.now.children = inv.children in
    let path_room : vec_len c.loop-slots.path + suc (length rest) < vec_capacity c.loop-slots.path = subst (λ (n : ℕ). vec_len c.loop-slots.path + n < vec_capacity c.loop-slots.path) long inv.path_room in
    let below_room : vec_len c.loop-slots.below + suc (length rest) < vec_capacity c.loop-slots.below = subst (λ (n : ℕ). vec_len c.loop-slots.below + n < vec_capacity c.loop-slots.below) long inv.below_room in
    let inv_path_len : vec_len c.loop-slots.path + length (into_iter_items c.loop-slots.slots-iterator) ≤ vec_len c.args.path.now + length c.args.ready.copies.items = inv.path_len in
    let inv_below_len : vec_len c.loop-slots.below + length (into_iter_items c.loop-slots.slots-iterator) ≤ vec_len c.args.below.now + length c.args.ready.copies.items = inv.below_len in
    let path_len : vec_len c.level-begun.new.path ≤ vec_len c.loop-slots.path + 1 = c.level-begun.ensures.path_len in
    let below_len : vec_len c.level-begun.new.below ≤ vec_len c.loop-slots.below + 1 = c.level-begun.ensures.below_len in
    let path_capacity : vec_capacity c.level-begun.new.path ≡ vec_capacity c.loop-slots.path = c.level-begun.ensures.path_capacity in
    let below_capacity : vec_capacity c.level-begun.new.below ≡ vec_capacity c.loop-slots.below = c.level-begun.ensures.below_capacity in
    record {
      fits = c.level-begun.ensures.fits;
      grain = c.level-begun.ensures.grain ∙ inv.grain;
      site = c.level-begun.ensures.site ∙ inv.site;
      some = c.level-begun.ensures.some;
      fewer = omega (arith, few, few_before);
      halved = omega (arith, deep, less);
      reached = subst (λ (x : ℕ). q.share.count ≤ reach (length rest) x) inv.grain (c.level-begun.ensures.reach (length rest) fits);
      copies = subst (λ xs. All (λ v. v.items ≡ xs) rest) (sym c.level-begun.ensures.slots)
          (All-tail (λ v. v.items ≡ c.loop-slots.top.slots) c.in-Some.slots rest (subst (λ zs. All (λ v. v.items ≡ c.loop-slots.top.slots) zs) steps inv.copies));
      children = omega (arith, children, children_before);
      nest = c.level-begun.ensures.nest ∙ inv.nest;
      path_capacity = path_capacity ∙ inv.path_capacity;
      below_capacity = below_capacity ∙ inv.below_capacity;
      path_len = omega (arith, path_len, long, inv_path_len);
      below_len = omega (arith, below_len, long, inv_below_len);
      procedure = c.level-begun.ensures.procedure ∙ inv.procedure;
      path_room = omega (arith, path_room, path_len, path_capacity);
      below_room = omega (arith, below_room, below_len, below_capacity);
      reaches = λ setting s u v grain clear path below turns.
          level_joined setting site p.site inv.site (length rest) (length (into_iter_items c.loop-slots.slots-iterator)) long s c.args.ready.part.halvings c.args.ready.part.share c.args.top.now u v
          c.loop-slots.path.items (reverse c.loop-slots.below.items) c.args.done p.halvings p.share c.loop-slots.top c.loop-slots.begun.done
          c.level-begun.new.path.items (reverse c.level-begun.new.below.items) q.halvings q.share c.level-begun.new.top c.level-begun.result.done
          (inv.reaches setting s u v grain clear path below turns)
          (λ w clear_now turns_now. c.level-begun.ensures.reaches setting (under c.loop-slots.path.items (reverse c.loop-slots.below.items) s) w v (length rest)
          (inv.grain ∙ grain ∙ ap (λ (l : Loop). (loop_at setting.codes c.args.top.now.procedure l).grain) (sym inv.site) ∙ ap (λ (f : ℕ). (loop_at setting.codes f p.site).grain) (sym inv.procedure))
          fits clear_now refl refl turns_now);
      arrives = λ setting s x y grain clear path below those.
          arrivals_more setting site p.site inv.site (length rest) (length (into_iter_items c.loop-slots.slots-iterator)) long s c.args.ready.part.halvings c.args.ready.part.share c.args.top.now x y
          c.loop-slots.path.items (reverse c.loop-slots.below.items) c.args.done p.halvings p.share c.loop-slots.top c.loop-slots.begun.done
          c.level-begun.new.path.items (reverse c.level-begun.new.below.items) q.halvings q.share c.level-begun.new.top c.level-begun.result.done
          (inv.arrives setting s x y grain clear path below those)
          (λ w clear_now those_now. c.level-begun.ensures.arrives setting (under c.loop-slots.path.items (reverse c.loop-slots.below.items) s) w y (length rest)
          (inv.grain ∙ grain ∙ ap (λ (l : Loop). (loop_at setting.codes c.args.top.now.procedure l).grain) (sym inv.site) ∙ ap (λ (f : ℕ). (loop_at setting.codes f p.site).grain) (sym inv.procedure))
          fits clear_now refl refl those_now);
    }
