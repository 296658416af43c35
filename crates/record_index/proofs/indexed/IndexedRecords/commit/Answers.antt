use Rattle.std.proofs.Common.{inr, map, sym, subst}
use Rattle.record_theory.specs.Record.{as_made}
use Rattle.record_index.specs.Indexed.{IsIndexed, AreTold}
use Rattle.record_index.proofs.Commits.{all_told, told_put, room_made}
use Rattle.record_index.proofs.indexed.IndexedRecords.commit.Goals as goal

pub returns-clause-indexed : goal.returns-clause-indexed
returns-clause-indexed c =
    let tables = c.args.tables.now.tables in
    let revisions = c.args.program.now.revisions in
    let indexed : IsIndexed revisions tables (record {
      records = c.self.inside.records;
      told = c.self.inside.told;
      room = c.self.inside.changes.room;
    }) = subst (IsIndexed revisions tables) (sym c.self.view_is) c.requires.indexed in
    record {
      in_step = c.in_ok-commit.ensures.in_step;
      told =
          subst (λ rs. AreTold revisions c.learn.new.told rs) (sym c.in_ok-commit.ensures.committed)
          (told_put revisions c.self.inside.told c.learn.new.told (map as_made c.self.inside.records) c.args.made.items indexed.told
          (all_told revisions c.self.inside.told c.learn.new.told c.in_ok-told.told c.learn.ensures.learnt c.learn.ensures.same c.in_ok-told.ensures.all c.in_ok-told.ensures.made)
          c.requires.entered_now);
      room =
          inr
          (room_made tables c.self.inside.changes c.make_room.new.changes c.in_ok-changes.changes c.make_room.ensures.made c.make_room.ensures.same c.in_ok-changes.ensures.room
          c.in_ok-changes.ensures.made);
    }
