use Rattle.std.proofs.Common.{pos, sym, SFits, w64, rules}
use Rattle.std.proofs.lemmas.Int.{to_z-of_z}
use Rattle.meaning.specs.TreeView.{term}
use Rattle.meaning.specs.Run.{pure}
use Rattle.serial_oracle.specs.Listing.{tables_plain}
use Rattle.serial_oracle.specs.Results.{site_at}
use Rattle.serial_oracle.proofs.Steps.{give_fails, give_goes}
use Rattle.serial_oracle.proofs.run.run_return.Goals as goal

pub returns-in-Err : goal.returns-in-Err
returns-in-Err c = λ program s. give_fails program (tables_plain c.args.tables.now) (λ site f args. pure (pos 0)) (site_at c.args.here.now c.args.number) c.args.env.now (term c.args.e.now) c.in-Err.kind c.stopped.result c.args.env.now s (sym c.in-Err.ensures) c.stopped.ensures

pub returns-in-Ok : goal.returns-in-Ok
returns-in-Ok c =
    let f : SFits w64 c.in-Ok.v = search rules in
    λ program s. rw (to_z-of_z w64 c.in-Ok.v f) (give_goes program (tables_plain c.args.tables.now) (λ site f args. pure (pos 0)) (site_at c.args.here.now c.args.number) c.args.env.now (term c.args.e.now) c.in-Ok.v s (sym c.in-Ok.ensures))
