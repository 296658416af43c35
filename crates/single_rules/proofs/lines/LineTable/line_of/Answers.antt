use Rattle.std.proofs.Common.{◌≡◌, Some, slice_get, length, refl}
use Rattle.std.proofs.lemmas.Option.{slice_get_read}
use Rattle.single_rules.proofs.FilledLines.{line_by_number}
use Rattle.single_rules.proofs.lines.LineTable.line_of.Goals as goal

pub returns-in-Some-Some : goal.returns-in-Some-Some
returns-in-Some-Some c =
    let xs = c.deref.result.now in
    let n = c.args.number in
    let x = c.in-Some-Some.field-0.now in
    let found : slice_get xs n ≡ Some x = slice_get_read xs (length xs) n x refl c.in-Some-Some.ensures.lookup.3.0 c.in-Some-Some.ensures.lookup.1 in
    record { line = rw (← c.self.view_is) (line_by_number c.self.inside.pairs.items n c.in-Some-Some.line (rw (c.deref.ensures.value, c.self.invariant, c.in-Some-Some.field-0-is) at found)) }
