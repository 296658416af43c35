-- Updates among a block's statements.
use Rattle.std.proofs.Common.{◌≡◌, ℕ, Bool, List, ap, map, sym, subst, slice_get}
use Rattle.std.specs.Prelude.{Vec}
use Rattle.std.specs.declared.alloc.Global.{Global}
use Rattle.linked_program.specs.declared.code.Expression.{Expression}
use Rattle.linked_program.specs.declared.code.Operation.{Operation}
use Rattle.linked_program.specs.declared.code.Operation.TheVariants as o
use Rattle.linked_program.specs.CodeView.{expression}
use Rattle.evaluation.specs.Values.{values_at}
use Rattle.positions.specs.declared.phase.Phase.TheVariants.{Running}
use Rattle.positions.specs.declared.work.Position.{Position}
use Rattle.positions.specs.declared.work.Work.TheVariants.{Block}
use Rattle.positions.specs.Setting.{Setting}
use Rattle.positions.specs.Activations.{PlainActivation, at}
use Rattle.positions.specs.Layers.{PlainLayer}
use Rattle.positions.specs.Advance.{evaluated, combining, performed}
use Rattle.own_statements.specs.declared.statements.Did.{Did}
use Rattle.own_statements.specs.Paths.{Does, topped}
use Rattle.own_statements.proofs.Paths.{does_as}

-- an update's values are combined with a reducer's: that is what the statement means
pub does_update : (S : Setting) (passes : Bool) (p : Position) (n r : ℕ) (es : Vec Expression Global) (xs : List Expression) (op : Operation)
    (a : PlainActivation) (l : PlainLayer) (did : Did) (b : PlainActivation) (m : PlainLayer) → op ≡ o.Update r es → xs ≡ es.items
    → Does passes p (λ kit. evaluated n (values_at S.tables a.slots (map expression xs)) (combining (slice_get S.kinds r) n p r)) a l did b m
    → Does passes p (λ kit. performed S kit p n op) a l did b m
does_update S passes p n r es xs op a l did b m is same h =
    subst (λ (q : Operation). Does passes p (λ kit. performed S kit p n q) a l did b m) (sym is)
    (does_as S passes p (λ (kit : Bool). evaluated n (values_at S.tables a.slots (map expression xs)) (combining (slice_get S.kinds r) n p r)) (λ kit. performed S kit p n (o.Update r es)) a l did b m
    (λ kit s. ap (λ (ys : List Expression). evaluated n (values_at S.tables a.slots (map expression ys)) (combining (slice_get S.kinds r) n p r) (topped Running (at (Block p) a) l s)) same) h)
