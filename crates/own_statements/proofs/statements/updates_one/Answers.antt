use Rattle.std.proofs.Common.{rules, ◌≡◌, ◌∙◌, ℤ, [], ◌∷◌, ap, subst, to_z, of_z, w64, if◌then◌else◌, slice_get}
use Rattle.evaluation.specs.Values.{pure}
use Rattle.positions.specs.Advance.{combining}
use Rattle.own_statements.specs.Fills.{Fills}
use Rattle.own_statements.specs.declared.statements.Did.TheVariants.{Nothing, Next}
use Rattle.own_statements.proofs.Shorts.{updates_found}
use Rattle.own_statements.proofs.statements.updates_one.Goals as goal

pub returns-clause-done : goal.returns-clause-done
returns-clause-done g c a o found =
    let p = c.args.here.position in
    let n = c.args.here.statement in
    let v = c.args.number in
    let l = c.args.layer.now in
    let same : v ≡ to_z w64 (of_z w64 v) = search rules in
    updates_found c.args.here.passes_syncs p n a l o v found
    (combining (slice_get c.args.setting.program.now.kinds c.args.reducer) n p c.args.reducer) (if c.updates_by.result then Next else Nothing) a c.updates_by.new.layer
    (c.updates_by.ensures.done a (pure (v ∷ [])) (ap (λ (x : ℤ). pure (x ∷ [])) same))
