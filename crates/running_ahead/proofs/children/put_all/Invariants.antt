use Rattle.std.proofs.Common.{◌≡◌, ◌+◌, ◌-◌, drop, length, min, reverse, vec_len, vec_capacity}
use Rattle.positions.specs.Layers.{PlainLayer}
use Rattle.positions.specs.Strands.{PlainStrand}
use Rattle.own_statements.specs.Paths.{stacked}
use Rattle.running_ahead.specs.Chains.{under}
use Rattle.running_ahead.proofs.children.put_all.Given as goal

abbrev pub invariant-loop-place : goal.invariant-loop-place
invariant-loop-place l = record {
  most : l.most ≡ min l.more (length l.fn.spares.nest.above.items);
  path_len : vec_len l.path ≡ vec_len l.fn.path + l.place;
  below_len : vec_len l.below ≡ vec_len l.fn.below + l.place;
  path_capacity : vec_capacity l.path ≡ vec_capacity l.fn.path;
  below_capacity : vec_capacity l.below ≡ vec_capacity l.fn.below;
  long : length l.spares.nest.above.items ≡ length l.fn.spares.nest.above.items;
  rest : drop l.place l.spares.nest.above.items ≡ drop l.place l.fn.spares.nest.above.items;
  stacked : (m : PlainLayer) (s : PlainStrand) → s.path ≡ l.fn.path.items → s.below ≡ reverse l.fn.below.items
      → stacked l.more l.fn.top l.fn.spares.nest.above.items m s
      ≡ stacked (l.more - l.place) l.top (drop l.place l.fn.spares.nest.above.items) m (under l.path.items (reverse l.below.items) s);
}
