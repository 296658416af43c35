use Rattle.std.proofs.Common.{◌≡◌, ◌∙◌, ◌<◌, Bool, List, Some, if◌then◌else◌, length, slice_get, refl, sym, ap, subst}
use Rattle.std.proofs.lemmas.Option.{slice_get_read}
use Rattle.monoid_laws.specs.declared.Kind.{Kind}
use Rattle.own_statements.specs.declared.statements.Did.TheVariants.{Nothing, Next}
use Rattle.own_statements.proofs.AtOnce.{does_at_once}
use Rattle.own_statements.proofs.Shorts.{taken}
use Rattle.own_statements.proofs.statements.updates_by.Goals as goal

pub returns-clause-done : goal.returns-clause-done
returns-clause-done g c a o read =
    let ks = c.kinds.result.now in
    let r = c.args.reducer in
    let kind = c.index-kinds-reducer.result in
    let vs = c.args.numbers.now in
    let there : r < length ks = subst (λ (xs : List Kind). r < length xs) (sym c.kinds.ensures.kinds) (taken (length vs) c.args.setting.program.now.kinds r c.requires.takes) in
    let is : slice_get c.args.setting.program.now.kinds r ≡ Some kind =
    ap (λ (xs : List Kind). slice_get xs r) (sym c.kinds.ensures.kinds) ∙ slice_get_read ks (length ks) r kind refl there c.index-kinds-reducer.is in
    does_at_once c.args.here.passes_syncs c.args.here.position c.args.here.statement r kind vs a c.args.layer.now c.update_fitting.new.self
    c.update_fitting.result (if c.is_ok.result then Next else Nothing) o (slice_get c.args.setting.program.now.kinds r) is read
    (ap (λ (b : Bool). if b then Next else Nothing) c.is_ok.ensures.value)
    c.update_fitting.ensures.updated c.update_fitting.ensures.named c.update_fitting.ensures.unchanged
