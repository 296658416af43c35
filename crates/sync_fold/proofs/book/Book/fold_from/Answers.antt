use Rattle.std.proofs.Common.{inl, suc, get_or, Some, refl, sym, ap, ◌∙◌, subst}
use Rattle.strand_list.specs.Chronicled.{IsRefusedBy}
use Rattle.sync_fold.specs.Books.{KeepsStrands, PlainBook, first_fold, fold_refusal}
use Rattle.sync_fold.specs.Refusals.{is_apart}
use Rattle.sync_fold.proofs.Refusals.{first_near, first_touches}
use Rattle.strand_list.specs.Pages.{shown}
use Rattle.sync_fold.proofs.Places.{any_line, first_is, places_within}
use Rattle.sync_fold.proofs.Keeping.{first_become, first_stay}
use Rattle.sync_fold.proofs.book.Book.fold_from.Goals as goal

pub places_at-requires : goal.places_at-requires
places_at-requires g c = record {
  within = places_within c.args.k c.strands.result.now c.args.self.now.chronicle.page.lines (first_fold c.args.self.now) c.requires.first (c.strands.ensures.lines ∙ ap (λ (b : PlainBook). b.chronicle.page.lines) c.self.view_is);
}

pub fold_found-requires-clause-touch : goal.fold_found-requires-clause-touch
fold_found-requires-clause-touch g c κs h =
    let b = c.args.self.now in
    let first = first_is c.args.k b.chronicle.page.lines (shown c.strands.result.now) (first_fold b) (Some (c.in-Ok.left.items, c.in-Ok.right.items)) c.requires.first c.in-Ok.ensures.places
    (c.strands.ensures.lines ∙ ap (λ (b : PlainBook). b.chronicle.page.lines) c.self.view_is) in
    first_touches b c.in-Ok.left.items c.in-Ok.right.items c.upheld.ensures.book first

pub returns-in-Ok : goal.returns-in-Ok
returns-in-Ok g c =
    let b = c.args.self.now in
    let first = first_is c.args.k b.chronicle.page.lines (shown c.strands.result.now) (first_fold b) (Some (c.in-Ok.left.items, c.in-Ok.right.items)) c.requires.first c.in-Ok.ensures.places
    (c.strands.ensures.lines ∙ ap (λ (b : PlainBook). b.chronicle.page.lines) c.self.view_is) in
    let refused = c.fold_found.ensures.refused in
    record {
      folded = record {
        left = c.in-Ok.left.items;
        right = c.in-Ok.right.items;
        first = first;
        refused = refused;
        taken = c.fold_found.ensures.taken;
      };
      joined = first_become b c.in-Ok.left.items c.in-Ok.right.items c.in-Ok.left.items first refl c.fold_found.result (λ r. r.0.strand) c.fold_found.ensures.joined;
      kept = first_stay b c.fold_found.new.self c.in-Ok.left.items c.in-Ok.right.items c.in-Ok.left.items first refl c.fold_found.result c.fold_found.ensures.kept;
      going = c.fold_found.ensures.going;
      kit = c.fold_found.ensures.kit;
      counted = c.fold_found.ensures.counted;
      near = first_near b c.in-Ok.left.items c.in-Ok.right.items c.args.worker c.fold_found.result c.upheld.ensures.book first refused;
      same = c.fold_found.ensures.same;
    }

pub returns-in-Err : goal.returns-in-Err
returns-in-Err g c =
    let b = c.args.self.now in
    let left = (get_or b.chronicle.page.lines c.args.k any_line).0 in
    let right = (get_or b.chronicle.page.lines (suc c.args.k) any_line).0 in
    record {
      folded = record {
        left = left;
        right = right;
        first = (c.requires.first any_line).1;
        refused = subst (IsRefusedBy (fold_refusal b left right c.args.worker)) (sym c.without_memory.ensures.error) tt;
        taken = tt;
      };
      joined = tt;
      kept = record {
        left = left;
        right = right;
        first = (c.requires.first any_line).1;
        kept = subst (λ e. KeepsStrands b left e b) (sym c.without_memory.ensures.error) (inl refl);
      };
      going = tt;
      kit = tt;
      counted = tt;
      near = ap is_apart c.without_memory.ensures.error;
      same = refl;
    }
