use Rattle.std.proofs.Common.{rules, ◌≡◌, ◌∙◌, ◌++◌, ◌∷◌, [], ◌<◌, ◌≤◌, ◌+◌, ◌-◌, ℕ, List, Some, drop, length, min, reverse, slice_get, refl, sym, ap, arith}
use Rattle.std.proofs.lemmas.List.{reverse-append}
use Rattle.positions.specs.Activations.{PlainActivation}
use Rattle.activations.specs.declared.nest.Nest.{Nest}
use Rattle.own_statements.specs.Paths.{stacked}
use Rattle.running_ahead.specs.Chains.{under}
use Rattle.running_ahead.proofs.Putting.{drop_same, stacked_done, stacked_next, stacked_under, there_same}
use Rattle.running_ahead.proofs.children.put_all.Goals as goal

pub loop-place-init : goal.loop-place-init
loop-place-init c =
    let all : c.args.more - 0 ≡ c.args.more = omega arith in
    let xs : List PlainActivation = c.args.spares.now.nest.above.items in
    record {
      most = search rules;
      path_len = omega arith;
      below_len = omega arith;
      path_capacity = refl;
      below_capacity = refl;
      long = refl;
      rest = refl;
      stacked = λ m s e f.
          stacked_under c.args.more c.args.top.now xs m s c.args.path.now.items (reverse c.args.below.now.items) e f
          ∙ ap (λ (k : ℕ). stacked k c.args.top.now xs m (under c.args.path.now.items (reverse c.args.below.now.items) s)) (sym all);
    }

pub take_at-next-requires : goal.take_at-next-requires
take_at-next-requires c =
    let long : length c.blank-blank.new.self.nest.above.items ≡ length c.args.spares.now.nest.above.items = ap (λ (n : Nest). length n.above.items) c.blank-blank.ensures.nest ∙ c.loop-place.invariant.long in
    let some : c.loop-place.place < c.min-most.result = search rules in
    let most : c.min-most.result ≡ min c.args.more (length c.args.spares.now.nest.above.items) = c.loop-place.invariant.most in
    record { within = omega (arith, long, some, most) }

pub loop-place-preserved : goal.loop-place-preserved
loop-place-preserved c =
    let place = c.loop-place.place in
    let some : place < c.min-most.result = search rules in
    let most : c.min-most.result ≡ min c.args.more (length c.args.spares.now.nest.above.items) = c.loop-place.invariant.most in
    let less : place < c.args.more = omega (arith, some, most) in
    let xs : List PlainActivation = c.args.spares.now.nest.above.items in
    let ys : List PlainActivation = c.blank-blank.new.self.nest.above.items in
    let b : PlainActivation = c.loop-place.top in
    let before : List PlainActivation = c.loop-place.below.items in
    let x : PlainActivation = c.put_over.new.top in
    let rest : drop place ys ≡ drop place xs = ap (λ (n : Nest). drop place n.above.items) c.blank-blank.ensures.nest ∙ c.loop-place.invariant.rest in
    let now : slice_get ys place ≡ Some x = c.take_at-next.ensures.there ∙ ap Some (sym c.put_over.ensures.top) in
    let there : slice_get xs place ≡ Some x = there_same xs ys place x rest now in
    let path : c.put_over.new.path.items ≡ c.loop-place.path.items ++ b.children ∷ [] = c.put_over.ensures.path in
    let below : reverse c.put_over.new.below.items ≡ b ∷ reverse before = ap (λ (zs : List PlainActivation). reverse zs) c.put_over.ensures.below ∙ reverse-append before (b ∷ []) in
    record {
      most = c.loop-place.invariant.most;
      path_len = search rules;
      below_len = search rules;
      path_capacity = c.put_over.ensures.path_capacity ∙ c.loop-place.invariant.path_capacity;
      below_capacity = c.put_over.ensures.below_capacity ∙ c.loop-place.invariant.below_capacity;
      long = c.take_at-next.ensures.long ∙ ap (λ (n : Nest). length n.above.items) c.blank-blank.ensures.nest ∙ c.loop-place.invariant.long;
      rest = ap (λ (zs : List PlainActivation). drop (place + 1) zs) c.take_at-next.ensures.left ∙ drop_same xs ys place _ rest;
      stacked = λ m s e f.
          c.loop-place.invariant.stacked m s e f ∙ stacked_next c.args.more place b x xs m c.loop-place.path.items (reverse before) s less there
          ∙ ap (λ (p : List ℕ). stacked (c.args.more - (place + 1)) x (drop (place + 1) xs) m (under p (b ∷ reverse before) s)) (sym path)
          ∙ ap (λ (u : List PlainActivation). stacked (c.args.more - (place + 1)) x (drop (place + 1) xs) m (under c.put_over.new.path.items u s)) (sym below);
    }

pub returns : goal.returns
returns c =
    let xs : List PlainActivation = c.args.spares.now.nest.above.items in
    let past : c.min-most.result ≤ c.loop-place.place = search rules in
    let most : c.min-most.result ≡ min c.args.more (length xs) = c.loop-place.invariant.most in
    let all : min c.args.more (length xs) ≤ c.loop-place.place = omega (arith, past, most) in
    record {
      stacked = λ m s e f. c.loop-place.invariant.stacked m s e f ∙ stacked_done c.args.more c.loop-place.place c.loop-place.top xs m (under c.loop-place.path.items (reverse c.loop-place.below.items) s) all;
    }
