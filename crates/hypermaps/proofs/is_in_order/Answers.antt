use Rattle.std.proofs.Common.{◌≡◌, Some, length, slice_get, refl}
use Rattle.std.proofs.lemmas.Option.{slice_get_read}
use Rattle.hypermaps.proofs.Layers.{any_at}
use Rattle.hypermaps.proofs.is_in_order.Goals as goal

pub returns-in-Some : goal.returns-in-Some
returns-in-Some c =
    let xs = c.args.used.now in
    let there = c.in-Some.there.now in
    let found : slice_get xs c.args.reducer ≡ Some there = slice_get_read xs (length xs) c.args.reducer there refl c.in-Some.ensures.lookup.3.0 c.in-Some.ensures.lookup.1 in
    record { used = λ e. any_at xs c.args.reducer there c.args.reducer found e }
