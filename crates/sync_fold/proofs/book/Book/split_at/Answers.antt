use Rattle.std.proofs.Common.{◌≡◌, ◌+◌, ◌<◌, List, length, refl, ap, sym, ◌∙◌, subst, rules}
use Rattle.std.specs.List.{insert}
use Rattle.meaning.specs.Strands.{Split}
use Rattle.strand_list.specs.Pages.{position}
use Rattle.strand_list.specs.Chronicled.{PlainChronicle, Took, IsRefusedBy, split_refusal}
use Rattle.sync_fold.specs.Books.{PlainBook, PlainLaid}
use Rattle.sync_fold.specs.Counts.{HoldsMore}
use Rattle.sync_fold.proofs.Counting.{split_counts}
use Rattle.strand_list.specs.Chronicles.{told}
use Rattle.sync_fold.specs.declared.laid.Laid.TheVariants.{Nothing}
use Rattle.sync_fold.proofs.Keeping.{apart_of, long_of, same_keeps, split_keeps, put_long, put_taken, book_of}
use Rattle.sync_fold.proofs.book.Book.split_at.Goals as goal

pub split-requires : goal.split-requires
split-requires g c = record { apart = apart_of (told c.self.inside.chronicle) c.self.inside.laid.items c.self.invariant }

pub put_behind-requires : goal.put_behind-requires
put_behind-requires g c = record {
  within = subst (λ n. c.args.k < n) (sym (long_of (told c.self.inside.chronicle) c.self.inside.laid.items c.self.invariant)) (subst (λ (b : PlainBook). c.args.k < length b.chronicle.page.lines) (sym c.self.view_is) c.requires.within);
}

pub take_behind-requires : goal.take_behind-requires
take_behind-requires g c =
    let within : c.args.k < length c.self.inside.laid.items = subst (λ n. c.args.k < n) (sym (long_of (told c.self.inside.chronicle) c.self.inside.laid.items c.self.invariant)) (subst (λ (b : PlainBook). c.args.k < length b.chronicle.page.lines) (sym c.self.view_is) c.requires.within) in
    let put : c.put_behind.new.laid.items ≡ insert c.self.inside.laid.items (c.args.k + 1) Nothing = search rules in
    record { within = put_long c.args.k c.self.inside.laid.items c.put_behind.new.laid.items Nothing within put }

pub invariant_of-self-in-Ok : goal.invariant_of-self-in-Ok
invariant_of-self-in-Ok g c =
    let put : c.put_behind.new.laid.items ≡ insert c.self.inside.laid.items (c.args.k + 1) Nothing = search rules in
    let here = subst (λ (b : PlainBook). c.args.k ≡ position c.args.victim.items b.chronicle.page.lines) (sym c.self.view_is) c.requires.here in
    let within = subst (λ (b : PlainBook). c.args.k < length b.chronicle.page.lines) (sym c.self.view_is) c.requires.within in
    split_keeps (told c.self.inside.chronicle) (told c.split.new.self) c.self.inside.laid.items c.put_behind.new.laid.items c.args.victim.items c.args.new.now c.args.thief c.args.k c.self.invariant c.in-Ok.ensures.taken here within put

pub invariant_of-self-in-Err : goal.invariant_of-self-in-Err
invariant_of-self-in-Err g c =
    let within : c.args.k < length c.self.inside.laid.items = subst (λ n. c.args.k < n) (sym (long_of (told c.self.inside.chronicle) c.self.inside.laid.items c.self.invariant)) (subst (λ (b : PlainBook). c.args.k < length b.chronicle.page.lines) (sym c.self.view_is) c.requires.within) in
    let put : c.put_behind.new.laid.items ≡ insert c.self.inside.laid.items (c.args.k + 1) Nothing = search rules in
    same_keeps (told c.self.inside.chronicle) (told c.split.new.self) c.self.inside.laid.items c.take_behind.new.laid.items c.self.invariant c.in-Err.ensures.same
    (put_taken c.args.k c.self.inside.laid.items c.put_behind.new.laid.items c.take_behind.new.laid.items Nothing within put c.take_behind.ensures.taken)

pub invariant_of-self : goal.invariant_of-self
invariant_of-self g c =
    let same : c.put_behind.new.laid.items ≡ c.self.inside.laid.items = search rules in
    same_keeps (told c.self.inside.chronicle) (told c.self.inside.chronicle) c.self.inside.laid.items c.put_behind.new.laid.items c.self.invariant refl same

pub returns-in-Err : goal.returns-in-Err
returns-in-Err g c =
    let within : c.args.k < length c.self.inside.laid.items = subst (λ n. c.args.k < n) (sym (long_of (told c.self.inside.chronicle) c.self.inside.laid.items c.self.invariant)) (subst (λ (b : PlainBook). c.args.k < length b.chronicle.page.lines) (sym c.self.view_is) c.requires.within) in
    let put : c.put_behind.new.laid.items ≡ insert c.self.inside.laid.items (c.args.k + 1) Nothing = search rules in
    let same : c.take_behind.new.laid.items ≡ c.self.inside.laid.items =
    put_taken c.args.k c.self.inside.laid.items c.put_behind.new.laid.items c.take_behind.new.laid.items Nothing within put c.take_behind.ensures.taken in
    record {
      taken = tt;
      counted = tt;
      refused = subst (λ (b : PlainBook). IsRefusedBy (split_refusal b.chronicle.page c.args.victim.items c.args.new.now c.args.thief) c.in-Err.error) c.self.view_is c.in-Err.ensures.refused;
      same = ap (λ (x : PlainChronicle). book_of x c.take_behind.new.laid.items) c.in-Err.ensures.same ∙ ap (λ (ds : List PlainLaid). book_of (told c.self.inside.chronicle) ds) same ∙ c.self.view_is;
    }

pub returns-in-Ok : goal.returns-in-Ok
returns-in-Ok g c =
    let put : c.put_behind.new.laid.items ≡ insert c.self.inside.laid.items (c.args.k + 1) Nothing = search rules in
    record {
      taken = subst (λ (b : PlainBook). Took b.chronicle (Split c.args.victim.items c.args.new.now c.args.thief) (told c.split.new.self)) c.self.view_is c.in-Ok.ensures.taken;
      counted = subst (λ (b : PlainBook). HoldsMore b.laid c.put_behind.new.laid.items) c.self.view_is (split_counts (c.args.k + 1) c.self.inside.laid.items c.put_behind.new.laid.items put);
      refused = tt;
      same = tt;
    }

pub returns-then-is_err : goal.returns-then-is_err
returns-then-is_err g c =
    let same : c.put_behind.new.laid.items ≡ c.self.inside.laid.items = search rules in
    record {
      taken = tt;
      counted = tt;
      refused = tt;
      same = ap (λ (ds : List PlainLaid). book_of (told c.self.inside.chronicle) ds) same ∙ c.self.view_is;
    }
