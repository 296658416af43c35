use Rattle.rerun_records.proofs.Moving.{rest_stays, put_among, among_numbers, put_behind, behind_numbers}
use Rattle.rerun_records.proofs.keeping.move_to.Goals as goal

pub returns-then-place-kept-clause-rest : goal.returns-then-place-kept-clause-rest
returns-then-place-kept-clause-rest c =
    rest_stays c.args.list.now c.bring.new.list c.args.place c.args.kept c.args.next c.bring.ensures.swapped c.requires.place c.requires.kept c.requires.within

pub returns-clause-rest : goal.returns-clause-rest
returns-clause-rest c =
    rest_stays c.args.list.now c.bring.new.list c.args.place c.args.kept c.args.next c.bring.ensures.swapped c.requires.place c.requires.kept c.requires.within

pub returns-then-place-kept-clause-put : goal.returns-then-place-kept-clause-put
returns-then-place-kept-clause-put c = λ made there found.
    put_among c.args.list.now c.bring.new.list c.args.place c.args.kept c.args.next made c.bring.ensures.swapped c.requires.kept c.requires.within there found c.if-place-kept.true

pub returns-then-place-kept-clause-numbered : goal.returns-then-place-kept-clause-numbered
returns-then-place-kept-clause-numbered c = λ made there found number.
    among_numbers c.args.list.now c.bring.new.list c.args.place c.args.kept c.args.next made c.bring.ensures.swapped c.requires.kept c.requires.within there found c.args.places.now.numbers
    c.requires.numbered c.if-place-kept.true

pub returns-clause-put : goal.returns-clause-put
returns-clause-put c = λ made there found.
    put_behind c.args.list.now c.bring.new.list c.args.place c.args.kept c.args.next made c.bring.ensures.swapped c.requires.kept c.requires.within there found c.requires.place c.if-place-kept.false

pub returns-clause-numbered : goal.returns-clause-numbered
returns-clause-numbered c = λ made there found number.
    behind_numbers c.args.list.now c.bring.new.list c.args.place c.args.kept c.args.next made c.bring.ensures.swapped c.requires.kept c.requires.within there found c.args.places.now.numbers
    c.push.new.self.numbers c.args.number c.requires.numbered number c.push.ensures.pushed c.requires.place c.if-place-kept.false
