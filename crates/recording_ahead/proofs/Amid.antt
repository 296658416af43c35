-- Where a strand begins: in no instance above its topmost one.
use Rattle.std.proofs.Common.{◌≡◌, ◌∙◌, ◌+◌, ◌<◌, ◌≤◌, ◌==◌, ◌++◌, ◌∷◌, ℕ, false, length, ap, arith}
use Rattle.std.proofs.lemmas.Bool.Decides.{nat_tests}
use Rattle.std.proofs.lemmas.List.{length-append}
use Rattle.positions.specs.declared.start.Start.{Start}
use Rattle.positions.specs.declared.start.Start.TheVariants.{Root, Behind}
use Rattle.positions.specs.Strands.{PlainStrand, entry_by}
use Rattle.running_ahead.specs.Leaves.{IsAmid}

pub root_amid : (s : PlainStrand) → s.start ≡ Root → IsAmid s
root_amid s begins n ns = ap (λ (b : Start). entry_by b (s.path ++ n ∷ ns)) begins

pub behind_amid : (depth child : ℕ) (s : PlainStrand) → s.start ≡ Behind depth child → depth ≤ length s.path → IsAmid s
behind_amid depth child s begins short n ns =
    let long : length (s.path ++ n ∷ ns) ≡ length s.path + length (n ∷ ns) = length-append s.path (n ∷ ns) in
    let other : depth < length (s.path ++ n ∷ ns) = omega (arith, long, short) in
    let none : (length (s.path ++ n ∷ ns) == depth) ≡ false = grind (arith, nat_tests, other) in
    ap (λ (b : Start). entry_by b (s.path ++ n ∷ ns)) begins ∙ none
