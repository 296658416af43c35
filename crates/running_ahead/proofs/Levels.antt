-- Levels of a loop's halves.
use Rattle.std.proofs.Common.{◌≡◌, ◌∙◌, ℕ, ◌+◌, ◌*◌, sym, ap, arith, add-one}
use Rattle.running_ahead.specs.Chains.{reach}

pub reach_doubled : (r g most : ℕ) → most ≡ reach r g → most * 2 ≡ reach (r + 1) g
reach_doubled r g most e =
    let twice : most * 2 ≡ most + most = omega arith in
    twice ∙ ap (λ x. x + x) e ∙ ap (λ n. reach n g) (sym (add-one r))
