use Rattle.std.proofs.Common.{◌≡◌, ◌<◌, length, refl, subst}
use Rattle.meaning.specs.Outcome.{Place}
use Rattle.strand_list.specs.Pages.{position}
use Rattle.strand_list.specs.Chronicled.{IsRefusedBy, split_refusal}
use Rattle.sync_fold.specs.Books.{PlainBook}
use Rattle.strand_list.specs.declared.error.BookError.TheVariants as error
use Rattle.sync_fold.proofs.Keeping.{split_missing}
use Rattle.sync_fold.proofs.book.Book.try_split.Goals as goal

pub returns-in-None : goal.returns-in-None
returns-in-None g c =
    let none = subst (λ (p : Place). position p c.self.inside.chronicle.page.lines ≡ length c.self.inside.chronicle.page.lines) c.deref.ensures.value c.in-None.ensures in
    record {
      taken = tt;
      counted = tt;
      refused = subst (λ (b : PlainBook). IsRefusedBy (split_refusal b.chronicle.page c.args.victim.items c.args.new.now c.args.thief) error.NoStrand) c.self.view_is
          (split_missing c.self.inside.chronicle.page c.args.victim.items c.args.new.now c.args.thief none);
      same = refl;
    }

pub split_at-requires-clause-here : goal.split_at-requires-clause-here
split_at-requires-clause-here g c κs h =
    subst (λ (b : PlainBook). c.in-Some.k ≡ position c.args.victim.items b.chronicle.page.lines) c.self.view_is
    (subst (λ (p : Place). c.in-Some.k ≡ position p c.self.inside.chronicle.page.lines) c.deref.ensures.value c.in-Some.ensures.0)

pub split_at-requires-clause-within : goal.split_at-requires-clause-within
split_at-requires-clause-within g c κs h = subst (λ (b : PlainBook). c.in-Some.k < length b.chronicle.page.lines) c.self.view_is c.in-Some.ensures.1
