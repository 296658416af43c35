use Rattle.std.proofs.Common.{◌≡◌, ◌≤◌, ◌∙◌, length, map, ap, sym, subst, arith}
use Rattle.std.proofs.lemmas.List.{length-map}
use Rattle.meaning.specs.Tables.{Listed}
use Rattle.input_tables.proofs.Notes.{no_more_added}
use Rattle.input_tables.proofs.tables.Tables.add.Goals as goal

pub invariant_of-self-2 : goal.invariant_of-self-2
invariant_of-self-2 c =
    let ts = c.self.inside.listed.items in
    let table = c.in_ok-table.table in
    let columns : length table.columns ≡ length c.args.columns.now = ap (λ (t : Listed). length t.columns) c.in_ok-table.ensures ∙ length-map c.args.columns.now (λ n. n.now) in
    let first : length c.args.columns.now ≤ c.make_room.new.self.room = c.in_ok-make_room.ensures.room in
    let second : length c.args.columns.now ≤ c.make_room-2.new.self.room = c.in_ok-make_room-2.ensures.room in
    rw c.in_ok-push.ensures.items (
      no_more_added ts table c.self.inside.before.room c.make_room.new.self.room c.self.invariant.0 c.make_room.ensures.more (omega (arith, columns, first)),
      no_more_added ts table c.self.inside.next.room c.make_room-2.new.self.room c.self.invariant.1 c.make_room-2.ensures.more (omega (arith, columns, second)),
    )
