use Rattle.std.proofs.Common.{◌≡◌, IfErr, true, refl, ap, sym, ◌∙◌, subst}
use Rattle.meaning.specs.Outcome.{Place}
use Rattle.strand_list.specs.Chronicled.{IsRefusedBy}
use Rattle.sync_fold.specs.Books.{PlainBook, touch}
use Rattle.sync_fold.proofs.Keeping.{fold_missing, fold_apart, fold_passes, both_in}
use Rattle.sync_fold.proofs.book.Book.try_fold_pair.Goals as goal

pub fold_at-requires-clause-touch : goal.fold_at-requires-clause-touch
fold_at-requires-clause-touch g c κs h =
    subst (λ (p : Place). touch c.args.self.now p c.args.right.items ≡ true) c.deref-3.ensures.value
    (subst (λ (q : Place). touch c.args.self.now c.deref-3.result.now q ≡ true) c.deref-4.ensures.value (sym c.may_touch.ensures.may ∙ c.if-not-may_touch.false))

pub returns : goal.returns
returns g c =
    let b = c.args.self.now in
    let both : c.has_both.result ≡ both_in c.args.left.items c.args.right.items b.chronicle.page.lines =
    c.has_both.ensures.both ∙ ap (λ (p : Place). both_in p c.deref-2.result.now c.self.inside.chronicle.page.lines) c.deref.ensures.value
    ∙ ap (λ (q : Place). both_in c.args.left.items q c.self.inside.chronicle.page.lines) c.deref-2.ensures.value ∙ ap (λ (b : PlainBook). both_in c.args.left.items c.args.right.items b.chronicle.page.lines) c.self.view_is in
    let may : c.may_touch.result ≡ touch b c.args.left.items c.args.right.items =
    c.may_touch.ensures.may ∙ ap (λ (p : Place). touch b p c.deref-4.result.now) c.deref-3.ensures.value ∙ ap (λ (q : Place). touch b c.args.left.items q) c.deref-4.ensures.value in
    record {
      taken = c.fold_at.ensures.taken;
      joined = c.fold_at.ensures.joined;
      going = c.fold_at.ensures.going;
      kit = c.fold_at.ensures.kit;
      counted = c.fold_at.ensures.counted;
      refused = subst (λ o. IfErr c.fold_at.result (IsRefusedBy o))
          (sym (fold_passes b c.args.left.items c.args.right.items c.args.worker c.has_both.result both c.may_touch.result c.if-not-has_both.false may c.if-not-may_touch.false))
          c.fold_at.ensures.refused;
      same = c.fold_at.ensures.same;
      kept = c.fold_at.ensures.kept;
    }

pub returns-then-not-has_both : goal.returns-then-not-has_both
returns-then-not-has_both g c =
    let b = c.args.self.now in
    let both : c.has_both.result ≡ both_in c.args.left.items c.args.right.items b.chronicle.page.lines =
    c.has_both.ensures.both ∙ ap (λ (p : Place). both_in p c.deref-2.result.now c.self.inside.chronicle.page.lines) c.deref.ensures.value
    ∙ ap (λ (q : Place). both_in c.args.left.items q c.self.inside.chronicle.page.lines) c.deref-2.ensures.value ∙ ap (λ (b : PlainBook). both_in c.args.left.items c.args.right.items b.chronicle.page.lines) c.self.view_is in
    record {
      taken = tt;
      joined = tt;
      going = tt;
      kit = tt;
      counted = tt;
      refused = fold_missing b c.args.left.items c.args.right.items c.args.worker c.has_both.result both c.if-not-has_both.true;
      same = refl;
      kept = refl;
    }

pub returns-then-not-may_touch : goal.returns-then-not-may_touch
returns-then-not-may_touch g c =
    let b = c.args.self.now in
    let both : c.has_both.result ≡ both_in c.args.left.items c.args.right.items b.chronicle.page.lines =
    c.has_both.ensures.both ∙ ap (λ (p : Place). both_in p c.deref-2.result.now c.self.inside.chronicle.page.lines) c.deref.ensures.value
    ∙ ap (λ (q : Place). both_in c.args.left.items q c.self.inside.chronicle.page.lines) c.deref-2.ensures.value ∙ ap (λ (b : PlainBook). both_in c.args.left.items c.args.right.items b.chronicle.page.lines) c.self.view_is in
    let may : c.may_touch.result ≡ touch b c.args.left.items c.args.right.items =
    c.may_touch.ensures.may ∙ ap (λ (p : Place). touch b p c.deref-4.result.now) c.deref-3.ensures.value ∙ ap (λ (q : Place). touch b c.args.left.items q) c.deref-4.ensures.value in
    record {
      taken = tt;
      joined = tt;
      going = tt;
      kit = tt;
      counted = tt;
      refused = fold_apart b c.args.left.items c.args.right.items c.args.worker c.has_both.result both c.may_touch.result c.if-not-has_both.false may c.if-not-may_touch.true;
      same = refl;
      kept = refl;
    }
