use Rattle.rerun_records.proofs.Moving.{number_there_is, number_within}
use Rattle.rerun_records.proofs.keeping.number_at.Goals as goal

pub bounds-numbers-next : goal.bounds-numbers-next
bounds-numbers-next c = number_within c.args._list.now c.args.next c.args.numbers.now c.requires.within c.requires.numbers

pub returns : goal.returns
returns c = record { number = λ made there. number_there_is c.args._list.now c.args.next c.args.numbers.now made c.requires.numbers there }
