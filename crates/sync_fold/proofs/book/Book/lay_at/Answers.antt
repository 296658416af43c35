use Rattle.std.proofs.Common.{◌≡◌, ◌<◌, length, refl, ap, sym, ◌∙◌, subst}
use Rattle.meaning.specs.Outcome.{Place}
use Rattle.strand_list.specs.Laying.{laying_step}
use Rattle.strand_list.specs.Pages.{position}
use Rattle.strand_list.specs.Chronicled.{PlainChronicle, Took, IsRefusedBy, laying_refusal}
use Rattle.sync_fold.specs.Books.{PlainBook}
use Rattle.sync_fold.specs.Counts.{LaysDown}
use Rattle.sync_fold.proofs.Counting.{lay_counts}
use Rattle.strand_list.specs.Chronicles.{told}
use Rattle.strand_list.specs.declared.error.BookError.TheVariants as error
use Rattle.sync_fold.proofs.Keeping.{apart_of, long_of, same_keeps, lay_keeps, lay_missing, book_of}
use Rattle.sync_fold.proofs.book.Book.lay_at.Goals as goal

pub lay-requires : goal.lay-requires
lay-requires g c = record { apart = apart_of (told c.self.inside.chronicle) c.self.inside.laid.items c.self.invariant }

pub keep-requires : goal.keep-requires
keep-requires g c = record { within = subst (λ n. c.in-Some.k < n) (sym (long_of (told c.self.inside.chronicle) c.self.inside.laid.items c.self.invariant)) c.in-Some.ensures.1 }

pub invariant_of-self : goal.invariant_of-self
invariant_of-self g c =
    lay_keeps (told c.self.inside.chronicle) (told c.lay.new.self) c.self.inside.laid.items c.keep.new.laid.items c.state.result c.args.place.items c.args.piece c.in-Some.k c.self.invariant c.in-Ok.ensures.taken
    c.state.ensures.state c.requires.place (subst (λ (p : Place). c.in-Some.k ≡ position p c.self.inside.chronicle.page.lines) c.deref.ensures.value c.in-Some.ensures.0) c.in-Some.ensures.1 c.keep.ensures.kept

pub invariant_of-self-in-Err : goal.invariant_of-self-in-Err
invariant_of-self-in-Err g c = same_keeps (told c.self.inside.chronicle) (told c.lay.new.self) c.self.inside.laid.items c.self.inside.laid.items c.self.invariant c.in-Err.ensures.same refl

pub returns-in-Err : goal.returns-in-Err
returns-in-Err g c = record {
  taken = tt;
  counted = tt;
  refused = subst (λ (b : PlainBook). IsRefusedBy (laying_refusal b.chronicle.page c.args.piece.state c.args.place.items) c.in-Err.error) c.self.view_is
      (subst (λ r. IsRefusedBy (laying_refusal c.self.inside.chronicle.page r c.args.place.items) c.in-Err.error) c.state.ensures.state c.in-Err.ensures.refused);
  same = ap (λ (x : PlainChronicle). book_of x c.self.inside.laid.items) c.in-Err.ensures.same ∙ c.self.view_is;
  back = refl;
}

pub returns-in-Ok : goal.returns-in-Ok
returns-in-Ok g c = record {
  taken = subst (λ (b : PlainBook). Took b.chronicle (laying_step c.args.piece.state c.args.place.items) (told c.lay.new.self)) c.self.view_is
      (subst (λ r. Took (told c.self.inside.chronicle) (laying_step r c.args.place.items) (told c.lay.new.self)) c.state.ensures.state c.in-Ok.ensures.taken);
  counted = subst (λ (b : PlainBook). LaysDown c.args.piece.strand b.laid c.keep.new.laid.items) c.self.view_is
      (lay_counts (told c.self.inside.chronicle) (told c.lay.new.self) c.self.inside.laid.items c.keep.new.laid.items c.state.result c.args.place.items c.args.piece c.in-Some.k c.self.invariant c.in-Ok.ensures.taken
      (subst (λ (p : Place). c.in-Some.k ≡ position p c.self.inside.chronicle.page.lines) c.deref.ensures.value c.in-Some.ensures.0) c.keep.ensures.kept);
  refused = tt;
  same = tt;
  back = tt;
}

pub returns-in-None : goal.returns-in-None
returns-in-None g c = record {
  taken = tt;
  counted = tt;
  refused = subst (λ (b : PlainBook). IsRefusedBy (laying_refusal b.chronicle.page c.args.piece.state c.args.place.items) error.NoStrand) c.self.view_is (lay_missing c.self.inside.chronicle.page c.args.piece.state c.args.place.items
      (subst (λ (p : Place). position p c.self.inside.chronicle.page.lines ≡ length c.self.inside.chronicle.page.lines) c.deref.ensures.value c.in-None.ensures));
  same = refl;
  back = refl;
}
