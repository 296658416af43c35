use Rattle.std.proofs.Common.{◌∙◌, ap, ◌/◌}
use Rattle.strand_list.proofs.Numbered.{number_is}
use Rattle.strand_list.proofs.numbers.number_of.Goals as goal

pub returns : goal.returns
returns c = record { number = ap (λ n. n / 4294967296) c.all_mixed.ensures.mixed ∙ number_is c.args.place.now }
