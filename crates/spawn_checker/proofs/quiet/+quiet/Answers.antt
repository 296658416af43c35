use Rattle.std.proofs.Common.{◌≡◌, length, Some, refl, slice_get, ◌∙◌, arith}
use Rattle.std.proofs.lemmas.Option.{slice_get_read}
use Rattle.spawn_checker.proofs.Blocks.{block_found}
use Rattle.spawn_checker.proofs.quiet.+quiet.Goals as goal

pub is_quiet_block-returns-in-Some : goal.is_quiet_block-returns-in-Some
is_quiet_block-returns-in-Some t c =
    let bs = c.args.blocks.now in
    let b = c.in-Some.inner.now in
    let found : slice_get bs c.args.number ≡ Some b = slice_get_read bs (length bs) c.args.number b refl c.in-Some.ensures.lookup.3.0 c.in-Some.ensures.lookup.1 in
    let some : c.args.levels ≡ 0 → ⊥ = λ e. absurd (omega (arith, c.if-levels-eq0.false, e)) in
    record { quiet = rw (block_found bs c.args.levels c.args.number b some found) (c.are_quiet.ensures.quiet ∙ rw c.deref.ensures.value refl) }
