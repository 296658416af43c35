use Rattle.std.proofs.Common.{◌≡◌, ◌^◌, ◌<◌, ◌≤◌, length, subst, rules, arith}
use Rattle.sync_fold.specs.Books.{PlainBook}
use Rattle.sync_fold.specs.Counts.{held_among}
use Rattle.sync_fold.proofs.Counting.{held_within, none_at_end}
use Rattle.sync_fold.proofs.book.Book.counted.Goals as goal

pub returns : goal.returns
returns g c =
    let items = c.self.inside.laid.items in
    let long : c.len.result ≡ length items = search rules in
    let within : held_among items ≤ length items = held_within items in
    let bound : c.len.result < 18446744073709551616 = c.len.type_inv in
    record {
      few = subst (λ (b : PlainBook). held_among b.laid < 2 ^ 64) c.self.view_is (omega arith);
      none = none_at_end c.args.self.now.laid;
    }
