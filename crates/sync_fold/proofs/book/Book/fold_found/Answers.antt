use Rattle.std.proofs.Common.{sym, subst}
use Rattle.strand_list.specs.Chronicled.{IsRefusedBy}
use Rattle.sync_fold.specs.Books.{fold_refusal, KeepsStrands}
use Rattle.sync_fold.specs.Refusals.{Folds}
use Rattle.sync_fold.proofs.Refusals.{given, refused_there}
use Rattle.sync_fold.proofs.book.Book.fold_found.Goals as goal

pub of-requires : goal.of-requires
of-requires g c =
    let refused = refused_there c.args.self.now c.args.left.items c.args.right.items c.args.worker c.in-Err.error c.requires.touch c.in-Err.ensures.refused in
    record { given = given c.args.self.now c.upheld.ensures.book (Folds c.args.left.items c.args.right.items c.args.worker) c.in-Err.error refused }

pub returns-in-Err : goal.returns-in-Err
returns-in-Err g c = record {
  taken = tt;
  joined = tt;
  going = tt;
  kit = tt;
  counted = tt;
  refused = subst (IsRefusedBy (fold_refusal c.args.self.now c.args.left.items c.args.right.items c.args.worker)) (sym c.of.ensures.error)
      (refused_there c.args.self.now c.args.left.items c.args.right.items c.args.worker c.in-Err.error c.requires.touch c.in-Err.ensures.refused);
  same = c.in-Err.ensures.same;
  kept = subst (λ e. KeepsStrands c.args.self.now c.args.left.items e c.fold_at.new.self) (sym c.of.ensures.error) c.in-Err.ensures.kept;
}
