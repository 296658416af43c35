use Rattle.std.proofs.Common.{◌≡◌, ◌+◌, ◌<◌, ◌≤◌, All, length, reverse, vec_len, vec_capacity}
use Rattle.std.specs.Vec.Iter.{into_iter_items}
use Rattle.positions.specs.Activations.{ShareFits}
use Rattle.positions.specs.Code.{loop_at}
use Rattle.positions.specs.Layers.{PlainLayer}
use Rattle.positions.specs.Setting.{Setting}
use Rattle.positions.specs.Strands.{PlainStrand}
use Rattle.running_ahead.specs.Chains.{AreTurns, IsClear, Reaches, reach}
use Rattle.running_ahead.specs.Leaves.{AreRecorded, Gathered, gathering}
use Rattle.running_ahead.specs.RecordedHalves.{Arrives}
use Rattle.running_ahead.proofs.descent.descend.Given as goal

abbrev pub invariant-loop-slots : goal.invariant-loop-slots
invariant-loop-slots l = record {
  fits : ShareFits l.begun.part.site l.begun.part.share;
  grain : l.begun.part.grain ≡ l.fn.ready.part.grain;
  site : l.begun.part.site ≡ l.fn.ready.part.site;
  some : l.begun.done < l.begun.part.share.count;
  fewer : l.begun.part.share.count ≤ l.fn.ready.part.share.count;
  halved : length (into_iter_items l.slots-iterator) ≤ l.begun.part.halvings;
  reached : l.begun.part.share.count ≤ reach (length (into_iter_items l.slots-iterator)) l.fn.ready.part.grain;
  copies : All (λ v. v.items ≡ l.top.slots) (into_iter_items l.slots-iterator);
  children : l.top.children ≤ l.fn.top.children;
  nest : l.spares.nest ≡ l.fn.spares.nest;
  path_capacity : vec_capacity l.path ≡ vec_capacity l.fn.path;
  below_capacity : vec_capacity l.below ≡ vec_capacity l.fn.below;
  path_len : vec_len l.path + length (into_iter_items l.slots-iterator) ≤ vec_len l.fn.path + length l.fn.ready.copies.items;
  below_len : vec_len l.below + length (into_iter_items l.slots-iterator) ≤ vec_len l.fn.below + length l.fn.ready.copies.items;
  procedure : l.top.procedure ≡ l.fn.top.procedure;
  path_room : vec_len l.path + length (into_iter_items l.slots-iterator) < vec_capacity l.path;
  below_room : vec_len l.below + length (into_iter_items l.slots-iterator) < vec_capacity l.below;
  reaches : (setting : Setting) (s : PlainStrand) (u v : PlainLayer) → l.fn.ready.part.grain ≡ (loop_at setting.codes l.fn.top.procedure l.fn.ready.part.site).grain
      → IsClear s → s.path ≡ l.fn.path.items → s.below ≡ reverse l.fn.below.items
      → AreTurns setting l.fn.ready.part.site l.fn.top.procedure l.fn.top.slots l.fn.top.left l.fn.ready.part.share.first u l.fn.done v
      → Reaches setting l.fn.ready.part.site (length (into_iter_items l.slots-iterator)) s l.fn.ready.part.halvings l.fn.ready.part.share l.fn.top u v l.path.items (reverse l.below.items) l.fn.done l.begun.part.halvings l.begun.part.share l.top l.begun.done;
  arrives : (setting : Setting) (s : PlainStrand) (x y : Gathered) → l.fn.ready.part.grain ≡ (loop_at setting.codes l.fn.top.procedure l.fn.ready.part.site).grain
      → IsClear (gathering x s) → s.path ≡ l.fn.path.items → s.below ≡ reverse l.fn.below.items
      → AreRecorded setting l.fn.ready.part.site l.fn.top.procedure l.fn.top.slots l.fn.top.left l.fn.ready.part.share.first x l.fn.done y
      → Arrives setting l.fn.ready.part.site (length (into_iter_items l.slots-iterator)) s l.fn.ready.part.halvings l.fn.ready.part.share l.fn.top x y l.path.items (reverse l.below.items) l.fn.done l.begun.part.halvings l.begun.part.share l.top l.begun.done;
}
