use Rattle.std.proofs.Common.{◌≡◌, length, ap, arith}
use Rattle.linked_program.specs.Fitting.{DeclarationFits}
use Rattle.linked_program.proofs.Fits.{none_left, names_fit, initials_fit}
use Rattle.linked_program.proofs.fitting.numbers_fit.Goals as goal

pub returns : goal.returns
returns c =
    let ds = c.args.program.now.declarations.items in
    let i = c.loop-declaration.declaration-index in
    let size : length c.deref-declaration-items.result.now ≡ length ds = ap length c.deref-declaration-items.ensures.value in
    let all = c.loop-declaration.invariant (none_left DeclarationFits ds i (omega (arith, size, c.loop-declaration-test.false))) in
    record { bodies = λ f. names_fit ds f all; initials = initials_fit ds all }
