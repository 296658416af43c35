use Rattle.std.proofs.Common.{map, subst}
use Rattle.meaning.specs.TreeView.{tree}
use Rattle.meaning.specs.Statements.{beginning}
use Rattle.linked_program.specs.TableNames.{columned}
use Rattle.linked_program.specs.Initials.{plain_initial, AreUpdatesBy}
use Rattle.linked_program.specs.Checked.{PlainChecked}
use Rattle.linked_program.proofs.Begun.{begun}
use Rattle.linked_program.proofs.checked.Checked.beginning.Goals as goal

pub returns : goal.returns
returns c =
    let s = c.self.inside in
    let is = c.self.invariant.0 in
    record {
      updates = subst (λ (p : PlainChecked). AreUpdatesBy p.kinds p.initials (beginning (tree p.program))) c.self.view_is
          (begun (map columned s.tables.items) s.program s.kinds.items (map plain_initial s.initials.items) is.clean is.kinds_are is.initials_are);
    }
