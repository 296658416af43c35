use Rattle.std.proofs.Common.{List, IfSome, map, sym, subst}
use Rattle.monoid_laws.specs.declared.Kind.{Kind}
use Rattle.meaning.specs.TreeView.{tree}
use Rattle.linked_program.specs.TableNames.{columned}
use Rattle.linked_program.specs.Procedures.{procedures}
use Rattle.linked_program.specs.CodeView.{HasShort, instruction_at}
use Rattle.linked_program.specs.Checked.{PlainChecked}
use Rattle.linked_program.proofs.Shorts.{short_there}
use Rattle.linked_program.proofs.checked.Checked.short.Goals as goal

pub returns : goal.returns
returns c =
    let s = c.self.inside in
    let is = c.self.invariant.0 in
    record {
      short = λ p b i. subst (λ (q : PlainChecked). IfSome (instruction_at q.codes p b i) (HasShort q.kinds)) c.self.view_is
          (subst (λ (ks : List Kind). IfSome (instruction_at s.codes.items p b i) (HasShort ks)) (sym is.kinds_are)
          (short_there (map columned s.tables.items) (tree s.program) s.codes.items (procedures (tree s.program)) is.linked p b i));
    }
