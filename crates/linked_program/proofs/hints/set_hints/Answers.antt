use Rattle.std.proofs.Common.{rules, ◌≡◌, ◌<◌, ◌∙◌, Some, length, ap, refl, sym, slice_get}
use Rattle.std.proofs.lemmas.Option.{slice_get-get_or}
use Rattle.linked_program.proofs.Hinted.{bare_set}
use Rattle.linked_program.proofs.hints.set_hints.Goals as goal

pub returns-then-number-len : goal.returns-then-number-len
returns-then-number-len c =
    let cs = c.args.codes.now.items in
    let n = c.args.number in
    let x = c.index_mut.result.now in
    let there : n < length cs = search rules in
    let at : slice_get cs n ≡ Some x = slice_get-get_or cs n x there ∙ ap Some (sym c.index_mut.ensures.value) in
    record { same = bare_set cs n x (record { memo = x.memo; slots = x.slots; blocks = x.blocks; hints = c.args.hints }) at refl }
