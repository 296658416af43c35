use Rattle.std.proofs.Common.{◌≡◌, ℕ, map, take}
use Rattle.meaning.specs.Tree.{Body}
use Rattle.meaning.specs.TreeView.{decl, statements}
use Rattle.linked_program.specs.TableNames.{columned}
use Rattle.linked_program.specs.Linked.{linked_body}
use Rattle.linked_program.specs.CodeView.{acts, AreShort}
use Rattle.linked_program.proofs.linking.instructions.Given as goal

abbrev pub invariant-loop-statement : goal.invariant-loop-statement
invariant-loop-statement l = record {
  acts : (inner : ℕ → Body) → acts (λ n. linked_body (map columned l.tables) (map decl l.declarations) (inner n)) l.made.items ≡ linked_body (map columned l.tables) (map decl l.declarations) (statements inner (take l.statement-index l.statements));
  short : AreShort l.kinds l.made.items;
}
