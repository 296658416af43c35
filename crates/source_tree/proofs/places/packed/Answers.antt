use Rattle.std.proofs.Common.{◌-◌, ◌<◌, ℕ, List, length, option_map, arith, ap, sym, subst}
use Rattle.source_tree.specs.Packing.{packed_behind}
use Rattle.source_tree.proofs.Packed.{no_number}
use Rattle.source_tree.proofs.places.packed.Goals as goal

pub returns-then-number-ge72057594037927936 : goal.returns-then-number-ge72057594037927936
returns-then-number-ge72057594037927936 c =
    let at = c.loop-byte.byte-index in
    let within : at < length c.args.name.now = subst (λ (xs : List ℕ). at < length xs) c.as_bytes-byte-items.ensures.value c.loop-byte-test.true in
    let none = no_number c.args.name.now at c.loop-byte.number (packed_behind 1 c.args.name.now) within c.loop-byte.invariant (omega (arith, c.if-number-ge72057594037927936.true)) in
    sym (ap (λ o. option_map (λ n. 18446744073709551615 - n) o) none)
