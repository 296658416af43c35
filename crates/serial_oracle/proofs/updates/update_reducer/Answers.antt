use Rattle.std.proofs.Common.{map, sym, subst}
use Rattle.meaning.specs.TreeView.{term}
use Rattle.serial_oracle.specs.Keeping.{tree_in, tables_in, records_in}
use Rattle.serial_oracle.specs.Worths.{worths}
use Rattle.serial_oracle.proofs.Noted.{update_ends, update_noted}
use Rattle.serial_oracle.specs.Results.{Notes}
use Rattle.serial_oracle.proofs.updates.update_reducer.Goals as goal

pub returns-in-Err : goal.returns-in-Err
returns-in-Err c = update_ends (tree_in c.args.scope.now) (tables_in c.args.scope.now) c.args.env.now c.args.name.now (map term c.args.numbers.now) c.in-Err.trouble (worths (tree_in c.args.scope.now) (records_in c.args.scope.now) c.args.changes.now.items) c.in-Err.ensures

pub returns-in-Ok : goal.returns-in-Ok
returns-in-Ok c =
    subst (Notes c.note.result (worths (tree_in c.args.scope.now) (records_in c.args.scope.now) c.note.new.changes.items))
    (sym (update_noted (tree_in c.args.scope.now) (tables_in c.args.scope.now) c.args.env.now c.args.name.now (map term c.args.numbers.now) c.in-Ok.numbers.items (worths (tree_in c.args.scope.now) (records_in c.args.scope.now) c.args.changes.now.items) c.in-Ok.ensures))
    c.note.ensures
