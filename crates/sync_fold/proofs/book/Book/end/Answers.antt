use Rattle.std.proofs.Common.{◌≡◌, ◌+◌, ◌≤◌, suc, true, List, length, ap, sym, ◌∙◌, subst}
use Rattle.numbered_runs.specs.Named.{history as steps_of}
use Rattle.right_strands.specs.Laid.{PlainPiece}
use Rattle.sync_fold.specs.Books.{PlainBook, PlainLaid, ends_alone}
use Rattle.sync_fold.specs.Counts.{kits_laid}
use Rattle.sync_fold.proofs.Counting.{kits_alone}
use Rattle.strand_list.specs.Replays.{LeavesRootAlone}
use Rattle.strand_list.specs.Chronicles.{told}
use Rattle.sync_fold.proofs.Fitting.{leaves_root_alone}
use Rattle.sync_fold.proofs.Keeping.{whole_same}
use Rattle.sync_fold.proofs.book.Book.end.Goals as goal

pub into_alone-requires-clause-ended : goal.into_alone-requires-clause-ended
into_alone-requires-clause-ended g c κs h = subst (λ (b : PlainBook). ends_alone b.laid ≡ true) (sym c.self.view_is) c.requires.ended

pub end-answer-requires-clause-ends : goal.end-answer-requires-clause-ends
end-answer-requires-clause-ends g c κs h =
    subst (λ (ds : List PlainLaid). ends_alone ds ≡ true) c.into_alone.ensures.alone (subst (λ (b : PlainBook). ends_alone b.laid ≡ true) (sym c.self.view_is) c.requires.ended)

pub returns : goal.returns
returns g c = record {
  elision = c.end-answer.ensures.elision;
  given = c.end-answer.ensures.given;
  recorded = c.end-answer.ensures.recorded;
  values = c.end-answer.ensures.values;
  history = ap (λ v. steps_of v.items) c.into_history.ensures.steps ∙ ap (λ (b : PlainBook). b.chronicle.history) c.self.view_is;
  legal = subst (λ (b : PlainBook). LeavesRootAlone b.chronicle.history) c.self.view_is
      (leaves_root_alone (told c.self.inside.chronicle) c.self.inside.laid.items c.self.invariant (subst (λ (b : PlainBook). ends_alone b.laid ≡ true) (sym c.self.view_is) c.requires.ended));
  fitting = c.end-answer.ensures.fitting;
  gives_known = c.end-answer.ensures.gives_known;
  home = λ p e h.
      let same : c.into_alone.result ≡ p = whole_same c.into_alone.result p c.self.inside.laid.items c.into_alone.ensures.alone (ap (λ (b : PlainBook). b.laid) c.self.view_is ∙ e) in
      subst (λ (q : PlainPiece). suc (length q.strand.lower) + g.K.KitSource.free c.args.kits.now ≤ g.K.KitSource.total c.args.kits.now → g.K.KitSource.free c.end-answer.new.kits ≡ suc (length q.strand.lower) + g.K.KitSource.free c.args.kits.now)
      same c.end-answer.ensures.home h;
  counted = subst (λ (b : PlainBook). kits_laid b.laid + g.K.KitSource.free c.args.kits.now ≤ g.K.KitSource.total c.args.kits.now → g.K.KitSource.free c.end-answer.new.kits ≡ kits_laid b.laid + g.K.KitSource.free c.args.kits.now)
      c.self.view_is
      (subst (λ n. n + g.K.KitSource.free c.args.kits.now ≤ g.K.KitSource.total c.args.kits.now → g.K.KitSource.free c.end-answer.new.kits ≡ n + g.K.KitSource.free c.args.kits.now)
      (sym (kits_alone c.into_alone.result c.self.inside.laid.items c.into_alone.ensures.alone)) c.end-answer.ensures.home);
  total = c.end-answer.ensures.total;
}
