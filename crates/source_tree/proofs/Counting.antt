-- How many statements are left in a loop over them.
use Rattle.std.proofs.Common.{◌≡◌, ℕ, suc, ◌+◌, ◌<◌, List, length, get_or, drop, sym, ap, ◌∙◌, drop-cons}
use Rattle.std.specs.Global.{Vec}
use Rattle.source_tree.specs.declared.source.Expr.{Expr}
use Rattle.source_tree.specs.declared.source.Statement.{Statement}
use Rattle.source_tree.specs.declared.source.Statement.TheOpen as layer
use Rattle.source_tree.specs.declared.source.Statement.TheFolds.{fold-roll-Statement}
use Rattle.source_tree.specs.declared.source.Statement.TheVariants as variant
use Rattle.source_tree.specs.declared.source.Statement.TheVariants.{rolls-If}
use Rattle.source_tree.specs.Source.{Stmt, Tests, phrase, stmt, stmt_step, stmts, stmts_of}
use Rattle.source_tree.specs.Lowering.{count, count_all}

pub count_next : (ss : List Statement) (i : ℕ) (s : Statement) → i < length ss → s ≡ get_or ss i s → count_all (stmts_of (stmts (drop i ss))) ≡ count (stmt s) + count_all (stmts_of (stmts (drop (suc i) ss)))
count_next ss i s lt is = rw (drop-cons ss i s lt) (ap (λ (x : Statement). count (stmt x) + count_all (stmts_of (stmts (drop (suc i) ss)))) (sym is))

if_is : (l : ℕ) (e : Expr) (a b : Vec Statement) → stmt (variant.If l e a b) ≡ Tests l (phrase e) (stmts_of (stmts a.items)) (stmts_of (stmts b.items))
if_is l e a b = ap stmt (sym (rolls-If l e a b)) ∙ fold-roll-Statement Stmt stmt_step (layer.If l e a b)

-- the statements of an `if` are those of its blocks and itself
pub count_if : (s : Statement) (l : ℕ) (e : Expr) (a b : Vec Statement) → s ≡ variant.If l e a b → count (stmt s) ≡ count_all (stmts_of (stmts a.items)) + count_all (stmts_of (stmts b.items)) + 1
count_if s l e a b is = ap (λ (x : Stmt). count x) (ap stmt is ∙ if_is l e a b)
