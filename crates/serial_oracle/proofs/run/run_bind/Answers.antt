use Rattle.std.proofs.Common.{pos, sym, SFits, w64, rules}
use Rattle.std.proofs.lemmas.Int.{to_z-of_z}
use Rattle.meaning.specs.TreeView.{term}
use Rattle.meaning.specs.Run.{pure}
use Rattle.serial_oracle.specs.Listing.{tables_plain}
use Rattle.serial_oracle.specs.Results.{site_at}
use Rattle.serial_oracle.proofs.Steps.{bind_fails, bind_goes}
use Rattle.serial_oracle.proofs.run.run_bind.Goals as goal

pub returns-in-Err : goal.returns-in-Err
returns-in-Err c = λ program s. bind_fails program (tables_plain c.args.tables.now) (λ site f args. pure (pos 0)) (site_at c.args.here.now c.args.number) c.args.env.now.items c.args.x (term c.args.e.now) c.in-Err.kind c.stopped.result c.args.env.now.items s (sym (rw c.deref.ensures.value at c.in-Err.ensures)) c.stopped.ensures

pub returns-in-Ok : goal.returns-in-Ok
returns-in-Ok c =
    let f : SFits w64 c.in-Ok.v = search rules in
    λ program s. rw (c.put.ensures, to_z-of_z w64 c.in-Ok.v f) (bind_goes program (tables_plain c.args.tables.now) (λ site f args. pure (pos 0)) (site_at c.args.here.now c.args.number) c.args.env.now.items c.args.x (term c.args.e.now) c.in-Ok.v s (sym (rw c.deref.ensures.value at c.in-Ok.ensures)))
