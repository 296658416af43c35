use Rattle.std.proofs.Common.{sym, subst}
use Rattle.strand_list.specs.Chronicled.{IsRefusedBy, split_refusal}
use Rattle.sync_fold.specs.Refusals.{Splits}
use Rattle.sync_fold.proofs.Refusals.{given}
use Rattle.sync_fold.proofs.book.Book.split.Goals as goal

pub of-requires : goal.of-requires
of-requires g c = record { given = given c.args.self.now c.upheld.ensures.book (Splits c.args.victim.items c.args.new.now c.args.thief) c.in-Err.error c.in-Err.ensures.refused }

pub returns-in-Err : goal.returns-in-Err
returns-in-Err g c = record {
  taken = tt;
  counted = tt;
  refused = subst (IsRefusedBy (split_refusal c.args.self.now.chronicle.page c.args.victim.items c.args.new.now c.args.thief)) (sym c.of.ensures.error) c.in-Err.ensures.refused;
  same = c.in-Err.ensures.same;
}
