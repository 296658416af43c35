use Rattle.std.proofs.Common.{◌+◌, ◌∙◌, ap, sym, drop, get_or}
use Rattle.std.proofs.lemmas.List.{drop_more}
use Rattle.script_reader.specs.Digits.{more_digits}
use Rattle.script_reader.proofs.Digits.{no_more, filled}
use Rattle.script_reader.proofs.numbers.digits_up_to.Goals as goal

pub returns-in-None : goal.returns-in-None
returns-in-None c =
    let digits = c.args.digits.now in
    let i = c.loop-digit.digit-index in
    sym (filled c.args.limit digits i c.loop-digit-test.true ∙ sym c.loop-digit.invariant.left
    ∙ ap (more_digits c.args.limit c.loop-digit.value) (drop_more digits i 0 c.loop-digit-test.true)
    ∙ no_more c.args.limit c.loop-digit.value (get_or digits i 0) (drop (i + 1) digits) (sym c.with_digit.ensures ∙ c.in-None.is))
