use Rattle.std.proofs.Common.{◌≡◌, ◌≤◌, ◌∙◌, ap, sym, subst, length, arith}
use Rattle.input_tables.specs.Befores.{PlainNoted}
use Rattle.input_tables.proofs.Notes.{has_room}
use Rattle.input_tables.proofs.before.Before.note.Goals as goal

pub put_values-self-inside-requires : goal.put_values-self-inside-requires
put_values-self-inside-requires c =
    let room : length c.args.table.now.columns ≤ c.self.inside.room = subst (λ (s : PlainNoted). length c.args.table.now.columns ≤ s.room) (sym c.self.view_is) c.requires.room in
    record {
      room = has_room c.width.result _ c.args.table.now.rows _ c.row.result c.width.ensures.rows (omega (arith, room, c.width.ensures.columns, c.self.invariant.1)) c.row.ensures;
    }

pub invariant_of-self : goal.invariant_of-self
invariant_of-self c =
    let few : length c.put_values-self-inside.new.values.items ≤ c.width.result = c.put_values-self-inside.ensures.few c.width.result
    (has_room c.width.result _ c.args.table.now.rows _ c.row.result c.width.ensures.rows (omega arith) c.row.ensures) in
    let long : length c.put_all.new.list.items ≡ length c.args.table.now.columns = ap length c.put_all.ensures.put ∙ c.sums.ensures.many in (
      omega (arith, few, long, c.width.ensures.columns),
      omega (arith, c.put_values-self-inside.ensures.room, c.self.invariant.1),
      omega (arith, c.put_all.ensures.room, c.self.invariant.2),
    )
