use Rattle.std.proofs.Common.{refl, w64}
use Rattle.std.proofs.lemmas.Int.{to_z-of_z}
use Rattle.input_tables.proofs.Guesses.{row_here}
use Rattle.input_tables.proofs.page.Page.get_at.Goals as goal

pub returns-then-is_at : goal.returns-then-is_at
returns-then-is_at c =
    let there = rw (to_z-of_z w64 _ c.ranges.number) at (c.if-is_at.ensures.there refl) in
    row_here c.args.self.now c.args.number c.args.place c.requires there c.values_at.result.now c.values_at.ensures
