use Rattle.std.proofs.Common.{◌≡◌, false, refl, sym, subst}
use Rattle.strand_list.specs.Chronicled.{IsRefusedBy}
use Rattle.sync_fold.specs.Refusals.{SplitsHeld, held_refusal, is_apart}
use Rattle.sync_fold.proofs.Refusals.{given, none_held, held_refused, held_near, held_all_near, took_held}
use Rattle.sync_fold.proofs.book.Book.split_held.Goals as goal

pub of-requires : goal.of-requires
of-requires g c =
    let b = c.args.self.now in
    record {
      given = given b c.upheld.ensures.book (SplitsHeld c.args.victim c.args.new.now c.args.thief) c.in-Err.error
          (none_held b.chronicle.page c.args.victim c.args.new.now c.args.thief c.in-Err.error c.in-Err.ensures.none);
    }

pub returns-in-Err : goal.returns-in-Err
returns-in-Err g c =
    let b = c.args.self.now in
    let refused = none_held b.chronicle.page c.args.victim c.args.new.now c.args.thief c.in-Err.error c.in-Err.ensures.none in
    record {
      taken = tt;
      counted = tt;
      refused = subst (IsRefusedBy (held_refusal b.chronicle.page c.args.victim c.args.new.now c.args.thief)) (sym c.of.ensures.error) refused;
      near = subst (λ e. is_apart e ≡ false) (sym c.of.ensures.error) (held_near b.chronicle.page c.args.victim c.args.new.now c.args.thief c.in-Err.error refused);
      same = refl;
    }

pub returns-in-Ok : goal.returns-in-Ok
returns-in-Ok g c =
    let b = c.args.self.now in
    let refused = held_refused b.chronicle.page c.args.victim c.in-Ok.from.items c.args.new.now c.args.thief c.split.result c.in-Ok.ensures.held c.split.ensures.refused in
    record {
      taken = took_held b.chronicle c.split.new.self.chronicle c.args.victim c.in-Ok.from.items c.args.new.now c.args.thief c.split.result c.in-Ok.ensures.held c.split.ensures.taken;
      counted = c.split.ensures.counted;
      refused = refused;
      near = held_all_near b.chronicle.page c.args.victim c.args.new.now c.args.thief c.split.result refused;
      same = c.split.ensures.same;
    }
