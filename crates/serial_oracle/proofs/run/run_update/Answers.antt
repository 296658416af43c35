use Rattle.std.proofs.Common.{pos, map}
use Rattle.meaning.specs.TreeView.{term}
use Rattle.meaning.specs.Run.{pure}
use Rattle.serial_oracle.specs.Keeping.{tree_in, tables_in, records_in}
use Rattle.serial_oracle.specs.Results.{site_at}
use Rattle.serial_oracle.specs.Worths.{worths, summary}
use Rattle.serial_oracle.proofs.Steps.{update_troubled, update_goes}
use Rattle.serial_oracle.proofs.run.run_update.Goals as goal

pub returns-in-Err : goal.returns-in-Err
returns-in-Err c =
    update_troubled (tree_in c.args.scope.now) (tables_in c.args.scope.now) (λ site f args. pure (pos 0)) (site_at c.args.here.now c.args.number) c.args.env.now c.args.r.now (map term c.args.es.now) c.in-Err.trouble c.at.result c.args.env.now (summary c.args.scope.now c.args.journal.now) (worths (tree_in c.args.scope.now) (records_in c.args.scope.now) c.update_reducer.new.changes.items) c.in-Err.ensures c.at.ensures

pub returns-in-Ok : goal.returns-in-Ok
returns-in-Ok c =
    update_goes (tree_in c.args.scope.now) (tables_in c.args.scope.now) (λ site f args. pure (pos 0)) (site_at c.args.here.now c.args.number) c.args.env.now c.args.r.now (map term c.args.es.now) (summary c.args.scope.now c.args.journal.now) (worths (tree_in c.args.scope.now) (records_in c.args.scope.now) c.update_reducer.new.changes.items) c.in-Ok.ensures
