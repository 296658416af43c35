use Rattle.std.proofs.Common.{◌≡◌, List, length, None, refl, ap, sym, ◌∙◌, subst}
use Rattle.std.proofs.lemmas.List.{length-map}
use Rattle.meaning.specs.Strands.{Line}
use Rattle.numbered_runs.specs.Named.{line}
use Rattle.sync_fold.specs.Books.{PlainBook, PlainLaid, PlacesAt, fold_among, first_fold}
use Rattle.strand_list.specs.Chronicles.{told}
use Rattle.strand_list.specs.Pages.{shown}
use Rattle.sync_fold.proofs.Keeping.{long_of}
use Rattle.sync_fold.proofs.book.Book.fold_any.Goals as goal

pub first_fold-requires-clause-long : goal.first_fold-requires-clause-long
first_fold-requires-clause-long g c κs h =
    ap (λ (ds : List PlainLaid). length ds) c.deref.ensures.value ∙ long_of (told c.self.inside.chronicle) c.self.inside.laid.items c.self.invariant ∙ ap (λ (ls : List Line). length ls) (sym c.strands.ensures.lines) ∙ length-map c.strands.result.now line

pub fold_from-requires-clause-first : goal.fold_from-requires-clause-first
fold_from-requires-clause-first g c κs h =
    subst (λ (b : PlainBook). PlacesAt c.in-Some.k b.chronicle.page.lines (first_fold b)) c.self.view_is
    (subst (λ (ls : List Line). PlacesAt c.in-Some.k ls (fold_among ls c.self.inside.laid.items)) c.strands.ensures.lines
    (subst (λ (ds : List PlainLaid). PlacesAt c.in-Some.k (shown c.strands.result.now) (fold_among (shown c.strands.result.now) ds)) c.deref.ensures.value c.in-Some.ensures))

pub returns-in-Some : goal.returns-in-Some
returns-in-Some g c = record {
  folded = c.fold_from.ensures.folded;
  joined = c.fold_from.ensures.joined;
  kept = c.fold_from.ensures.kept;
  going = c.fold_from.ensures.going;
  kit = c.fold_from.ensures.kit;
  counted = c.fold_from.ensures.counted;
  none = tt;
  near = c.fold_from.ensures.near;
  same = c.fold_from.ensures.same;
}

pub returns-in-None : goal.returns-in-None
returns-in-None g c = record {
  folded = (
    subst (λ (b : PlainBook). first_fold b ≡ None) c.self.view_is
        (subst (λ (ls : List Line). fold_among ls c.self.inside.laid.items ≡ None) c.strands.ensures.lines (subst (λ (ds : List PlainLaid). fold_among (shown c.strands.result.now) ds ≡ None) c.deref.ensures.value c.in-None.ensures)),
    refl,
  );
  joined = tt;
  kept = tt;
  going = tt;
  kit = tt;
  counted = tt;
  none = refl;
  near = tt;
  same = tt;
}
