use Rattle.std.proofs.Common.{rules, ◌+◌, ap, sym, ◌∙◌, drop, w64, FitsSigned}
use Rattle.std.proofs.lemmas.Int.{to_z-of_z}
use Rattle.script_lines.specs.Words.{bytes_of}
use Rattle.script_reader.specs.Digits.{more_numbers}
use Rattle.script_reader.proofs.Rest.{none_left, one_left, all_found}
use Rattle.script_reader.proofs.numbers.numbers.Goals as goal

pub returns-in-None : goal.returns-in-None
returns-in-None c =
    none_left c.loop-word.found.items c.args.words.now c.loop-word.word-index _ c.loop-word-test.true (sym c.number.ensures ∙ c.in-None.is) ∙ c.loop-word.invariant

pub loop-word-preserved : goal.loop-word-preserved
loop-word-preserved c =
    let words = c.args.words.now in
    let i = c.loop-word.word-index in
    let fits : FitsSigned w64 c.in-Some.value = search rules in
    let items = rw (to_z-of_z w64 c.in-Some.value fits) at c.in_ok-push-in-Some.ensures.items in
    ap (λ found. more_numbers found (bytes_of (drop (i + 1) words))) items
    ∙ one_left c.loop-word.found.items words i _ c.in-Some.value c.loop-word-test.true (sym c.number.ensures ∙ c.in-Some.is)
    ∙ c.loop-word.invariant

pub returns : goal.returns
returns c = all_found c.loop-word.found.items c.args.words.now c.loop-word.word-index c.loop-word-test.false ∙ c.loop-word.invariant
