use Rattle.std.proofs.Common.{◌≡◌, false, sym, subst}
use Rattle.strand_list.specs.Chronicled.{IsRefusedBy}
use Rattle.sync_fold.specs.Books.{lay_refusal}
use Rattle.sync_fold.specs.Refusals.{Lays, is_apart}
use Rattle.sync_fold.proofs.Refusals.{given, lay_near}
use Rattle.sync_fold.proofs.book.Book.lay.Goals as goal

pub of-requires : goal.of-requires
of-requires g c = record { given = given c.args.self.now c.upheld.ensures.book (Lays c.args.piece) c.in-Err.error c.in-Err.ensures.refused }

pub returns-in-Err : goal.returns-in-Err
returns-in-Err g c = record {
  taken = tt;
  counted = tt;
  refused = subst (IsRefusedBy (lay_refusal c.args.self.now c.args.piece)) (sym c.of.ensures.error) c.in-Err.ensures.refused;
  near = subst (λ e. is_apart e ≡ false) (sym c.of.ensures.error) (lay_near c.args.self.now c.args.piece c.in-Err.error c.in-Err.ensures.refused);
  same = c.in-Err.ensures.same;
  back = c.in-Err.ensures.back;
}
