use Rattle.std.proofs.Common.{◌≡◌, ◌<◌, false, List, length, drop, sym, ap, ◌∙◌, subst}
use Rattle.sync_fold.specs.Books.{PlainBook, PlainLaid, may_touch, touch}
use Rattle.strand_list.specs.Chronicles.{told}
use Rattle.sync_fold.proofs.Keeping.{long_of, touch_missing, touch_apart, touch_here, book_of}
use Rattle.sync_fold.proofs.book.Book.may_touch.Goals as goal

pub returns-in-None : goal.returns-in-None
returns-in-None g c = record {
  may = subst (λ (b : PlainBook). false ≡ touch b c.args.left.now c.args.right.now) c.self.view_is
      (sym (touch_missing (book_of (told c.self.inside.chronicle) c.self.inside.laid.items) c.args.left.now c.args.right.now c.in-None.ensures));
}

pub returns-else-are_neighbours : goal.returns-else-are_neighbours
returns-else-are_neighbours g c = record {
  may = c.if-are_neighbours.false ∙ subst (λ (b : PlainBook). false ≡ touch b c.args.left.now c.args.right.now) c.self.view_is
      (sym (touch_apart (book_of (told c.self.inside.chronicle) c.self.inside.laid.items) c.args.left.now c.args.right.now c.are_neighbours.result c.are_neighbours.ensures.next c.if-are_neighbours.false));
}

pub returns-then-are_neighbours : goal.returns-then-are_neighbours
returns-then-are_neighbours g c = record {
  may = subst (λ (b : PlainBook). c.may_touch_at.result ≡ touch b c.args.left.now c.args.right.now) c.self.view_is
      (touch_here (book_of (told c.self.inside.chronicle) c.self.inside.laid.items) c.args.left.now c.args.right.now c.in-Some.k c.are_neighbours.result c.may_touch_at.result c.in-Some.ensures.0 c.are_neighbours.ensures.next c.if-are_neighbours.true
      (c.may_touch_at.ensures.may ∙ ap (λ (ds : List PlainLaid). may_touch (drop c.in-Some.k ds)) c.deref.ensures.value));
}

pub may_touch_at-requires-clause-within : goal.may_touch_at-requires-clause-within
may_touch_at-requires-clause-within g c κs h =
    subst (λ (ds : List PlainLaid). c.in-Some.k < length ds) (sym c.deref.ensures.value) (subst (λ n. c.in-Some.k < n) (sym (long_of (told c.self.inside.chronicle) c.self.inside.laid.items c.self.invariant)) c.in-Some.ensures.1)
