use Rattle.std.proofs.Common.{◌≡◌, ◌⊎◌, inr, true, false, length, drop, refl, ap, sym, ◌∙◌, subst}
use Rattle.meaning.specs.Outcome.{Place}
use Rattle.meaning.specs.Strands.{Fold, stepped}
use Rattle.numbered_runs.specs.Named.{book_step}
use Rattle.strand_list.specs.Pages.{Apart, position}
use Rattle.strand_list.specs.Steps.{is_allowed_fold}
use Rattle.strand_list.specs.Chronicled.{PlainChronicle, IsRefusedBy, Took, unless_allowed}
use Rattle.sync_fold.specs.Books.{PlainBook, BeginAsOne, BeginWithPair, IsHalved, touch}
use Rattle.sync_fold.specs.Counts.{TakesUp}
use Rattle.strand_list.specs.Chronicles.{told}
use Rattle.sync_fold.proofs.Keeping.{apart_of, same_keeps, fold_keeps, halve_keeps, pair_there, pair_long, touch_missing, kept_same, book_of}
use Rattle.sync_fold.proofs.book.Book.fold_at.Goals as goal

pub fold-requires : goal.fold-requires
fold-requires g c = record {
  apart = subst (λ (b : PlainChronicle). Apart b.page.lines) (sym c.prepare_fold.ensures.same) (apart_of (told c.self.inside.chronicle) c.self.inside.laid.items c.self.invariant);
  may = subst (λ (b : PlainChronicle). is_allowed_fold b.page (book_step c.in-Ok.step) ≡ true) (sym c.prepare_fold.ensures.same)
      (subst (λ s. is_allowed_fold c.self.inside.chronicle.page s ≡ true) (sym c.in-Ok.ensures.step) c.in-Ok.ensures.may);
  room = c.in-Ok.ensures.room;
}

pub fold_kept-requires-clause-within : goal.fold_kept-requires-clause-within
fold_kept-requires-clause-within g c κs h =
    let touch = subst (λ (b : PlainBook). touch b c.args.left.items c.args.right.items ≡ true) (sym c.self.view_is) c.requires.touch in
    let pair = pair_there (told c.self.inside.chronicle) c.self.inside.laid.items c.args.left.items c.args.right.items c.args.worker c.self.invariant c.in-Ok.ensures.may touch in
    pair_long c.in-Some.k c.self.inside.laid.items (subst (λ k. BeginWithPair (drop k c.self.inside.laid.items)) (sym (subst (λ (p : Place). c.in-Some.k ≡ position p c.self.inside.chronicle.page.lines) c.deref.ensures.value c.in-Some.ensures.0)) pair)

pub fold_kept-requires-clause-pair : goal.fold_kept-requires-clause-pair
fold_kept-requires-clause-pair g c κs h =
    let touch = subst (λ (b : PlainBook). touch b c.args.left.items c.args.right.items ≡ true) (sym c.self.view_is) c.requires.touch in
    let pair = pair_there (told c.self.inside.chronicle) c.self.inside.laid.items c.args.left.items c.args.right.items c.args.worker c.self.invariant c.in-Ok.ensures.may touch in
    subst (λ k. BeginWithPair (drop k c.self.inside.laid.items)) (sym (subst (λ (p : Place). c.in-Some.k ≡ position p c.self.inside.chronicle.page.lines) c.deref.ensures.value c.in-Some.ensures.0)) pair

pub invariant_of-self-in-Ok-fold_kept : goal.invariant_of-self-in-Ok-fold_kept
invariant_of-self-in-Ok-fold_kept g c =
    let took = (subst (λ (b : PlainChronicle). Took b (Fold c.args.left.items c.args.right.items c.args.worker) (told c.fold.new.self)) c.prepare_fold.ensures.same
    (subst (λ s. Took (told c.prepare_fold.new.self) s (told c.fold.new.self)) c.in-Ok.ensures.step c.fold.ensures.taken)) in
    fold_keeps (told c.self.inside.chronicle) (told c.fold.new.self) c.self.inside.laid.items c.fold_kept.new.laid.items c.args.left.items c.args.right.items c.args.worker c.in-Some.k c.self.invariant took
    (subst (λ (p : Place). c.in-Some.k ≡ position p c.self.inside.chronicle.page.lines) c.deref.ensures.value c.in-Some.ensures.0) c.in-Ok-fold_kept.ensures.folded

pub invariant_of-self-in-Err-fold_kept : goal.invariant_of-self-in-Err-fold_kept
invariant_of-self-in-Err-fold_kept g c =
    halve_keeps (told c.self.inside.chronicle) (told c.prepare_fold.new.self) c.self.inside.laid.items c.fold_kept.new.laid.items c.in-Some.k c.self.invariant c.prepare_fold.ensures.same c.in-Err-fold_kept.ensures.halved

pub invariant_of-self : goal.invariant_of-self
invariant_of-self g c = same_keeps (told c.self.inside.chronicle) (told c.prepare_fold.new.self) c.self.inside.laid.items c.self.inside.laid.items c.self.invariant c.prepare_fold.ensures.same refl

pub returns-in-Ok-fold_kept : goal.returns-in-Ok-fold_kept
returns-in-Ok-fold_kept g c = record {
  taken = subst (λ (b : PlainBook). Took b.chronicle (Fold c.args.left.items c.args.right.items c.args.worker) (told c.fold.new.self)) c.self.view_is
      (subst (λ (b : PlainChronicle). Took b (Fold c.args.left.items c.args.right.items c.args.worker) (told c.fold.new.self)) c.prepare_fold.ensures.same
      (subst (λ s. Took (told c.prepare_fold.new.self) s (told c.fold.new.self)) c.in-Ok.ensures.step c.fold.ensures.taken));
  joined = subst (λ (b : PlainBook). BeginAsOne (drop (position c.args.left.items b.chronicle.page.lines) b.laid) c.in-Ok-fold_kept.joined.0.strand) c.self.view_is
      (subst (λ k. BeginAsOne (drop k c.self.inside.laid.items) c.in-Ok-fold_kept.joined.0.strand) (subst (λ (p : Place). c.in-Some.k ≡ position p c.self.inside.chronicle.page.lines) c.deref.ensures.value c.in-Some.ensures.0) c.in-Ok-fold_kept.ensures.joined);
  going = c.in-Ok-fold_kept.ensures.going;
  kit = c.in-Ok-fold_kept.ensures.kit;
  counted = subst (λ (b : PlainBook). TakesUp c.in-Ok-fold_kept.joined.0.strand b.laid c.fold_kept.new.laid.items) c.self.view_is c.in-Ok-fold_kept.ensures.counted;
  refused = tt;
  same = tt;
  kept = tt;
}

pub returns-in-Err-fold_kept : goal.returns-in-Err-fold_kept
returns-in-Err-fold_kept g c = record {
  taken = tt;
  joined = tt;
  going = tt;
  kit = tt;
  counted = tt;
  refused = tt;
  same = c.prepare_fold.ensures.same ∙ ap (λ (b : PlainBook). b.chronicle) c.self.view_is;
  kept = subst (λ (b : PlainBook). (c.fold_kept.new.laid.items ≡ b.laid) ⊎ IsHalved (position c.args.left.items b.chronicle.page.lines) b.laid c.fold_kept.new.laid.items) c.self.view_is
      (inr (subst (λ k. IsHalved k c.self.inside.laid.items c.fold_kept.new.laid.items) (subst (λ (p : Place). c.in-Some.k ≡ position p c.self.inside.chronicle.page.lines) c.deref.ensures.value c.in-Some.ensures.0) c.in-Err-fold_kept.ensures.halved));
}

pub returns-in-Err : goal.returns-in-Err
returns-in-Err g c = record {
  taken = tt;
  joined = tt;
  going = tt;
  kit = tt;
  counted = tt;
  refused = subst (λ (b : PlainBook). IsRefusedBy (unless_allowed (stepped b.chronicle.page (Fold c.args.left.items c.args.right.items c.args.worker))) c.in-Err.error) c.self.view_is c.in-Err.ensures.refused;
  same = c.prepare_fold.ensures.same ∙ ap (λ (b : PlainBook). b.chronicle) c.self.view_is;
  kept = kept_same (position c.args.left.items c.args.self.now.chronicle.page.lines) c.in-Err.error c.args.self.now.laid c.self.inside.laid.items (ap (λ (b : PlainBook). b.laid) c.self.view_is);
}

pub returns-in-None : goal.returns-in-None
returns-in-None g c =
    let yes = subst (λ (b : PlainBook). touch b c.args.left.items c.args.right.items ≡ true) (sym c.self.view_is) c.requires.touch in
    let no = touch_missing (book_of (told c.self.inside.chronicle) c.self.inside.laid.items) c.args.left.items c.args.right.items
    (subst (λ (p : Place). position p c.self.inside.chronicle.page.lines ≡ length c.self.inside.chronicle.page.lines) c.deref.ensures.value c.in-None.ensures) in
    absurd (let e : false ≡ true = sym no ∙ yes in cc)
