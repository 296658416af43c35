use Rattle.std.proofs.Common.{rules, tests, ap, ◌∙◌}
use Rattle.std.specs.Slice.Iter.{split_rest, split_done, split_callee}
use Rattle.std.proofs.lemmas.Iterator.Consumers.{map_from_collect, YieldsList-from_filter}
use Rattle.std.proofs.lemmas.Iterator.Splits.{YieldsList-from_slice_split}
use Rattle.meaning.specs.Script.{is_filled}
use Rattle.script_lines.proofs.words.words.Goals as goal

pub returns : goal.returns
returns c =
    let from = c.filter.ensures.source in
    map_from_collect _ c.collect.ensures.ran (YieldsList-from_filter _ is_filled (YieldsList-from_slice_split _ _ c.args.line.now (ap split_rest from ∙ c.split.ensures.rest) (ap split_done from ∙ c.split.ensures.done) (ap split_callee from ∙ c.split.ensures.closure) (λ x r q k. search (rules, tests))) c.filter.ensures.closure (λ x r q k. search (rules, tests)))
