use Rattle.std.proofs.Common.{◌≡◌, ◌+◌, ◌<◌, ◌≤◌, ◌++◌, ◌∷◌, [], vec_len, vec_capacity, length, ℕ}
use Rattle.std.specs.Vec.Iter.{into_iter_items}
use Rattle.list_pieces.specs.Pieces.{all_in}
use Rattle.list_pieces.proofs.pieces.put_together.Given as goal

abbrev pub invariant-loop-list : goal.invariant-loop-list
invariant-loop-list g l = record {
  all : l.all.items ++ all_in (into_iter_items l.list-iterator) ≡ l.fn.first.items ++ all_in l.fn.lists.items;
  room : length l.all.items + length (all_in (into_iter_items l.list-iterator)) + length l.fn.last.items ≤ vec_capacity l.all;
  last : l.last ≡ l.fn.last;
}
