use Rattle.std.proofs.Common.{◌+◌, arith, drop, refl, subst, sym, take}
use Rattle.record_theory.specs.Commits.{AreSingle, put_records}
use Rattle.record_theory.proofs.InStep.{next_read, put_in_step}
use Rattle.rerun_records.proofs.Instances.{single_put}
use Rattle.rerun_records.proofs.Moving.{next_is, numbers_behind, some_there, within_kept}
use Rattle.record_theory.proofs.Puts.{still_put, still_as_made}
use Rattle.rerun_records.proofs.keeping.keep.Goals as goal

pub move_to-requires-clause-place : goal.move_to-requires-clause-place
move_to-requires-clause-place c =
    let at = some_there c.args.list.now c.args.next c.requires.within in
    within_kept c.args.list.now c.place_of_next-place.result c.args.kept at.0 (let k = c.requires.kept in let w = c.requires.within in omega (arith, k, w)) (c.place_of_next-place.ensures.place at.0 at.1)

pub returns-clause-put : goal.returns-clause-put
returns-clause-put c =
    let at = some_there c.args.list.now c.args.next c.requires.within in
    still_put (take c.args.kept c.args.list.now) (take c.move_to.result c.move_to.new.list) (drop (c.args.next + 1) c.move_to.new.list) (drop c.args.next c.args.list.now) (put_records (take c.args.kept c.args.list.now) (drop c.args.next c.args.list.now)) at.0 refl
    (next_is c.args.list.now c.move_to.new.list c.args.next at.0 at.1 c.requires.within c.move_to.ensures.rest)
    (c.move_to.ensures.put at.0 at.1 (c.place_of_next-place.ensures.place at.0 at.1))

pub returns-clause-numbered : goal.returns-clause-numbered
returns-clause-numbered c =
    let at = some_there c.args.list.now c.args.next c.requires.within in
    c.move_to.ensures.numbered at.0 at.1 (c.place_of_next-place.ensures.place at.0 at.1) (c.number_at-number.ensures.number at.0 at.1)

pub returns-clause-as_made : goal.returns-clause-as_made
returns-clause-as_made c =
    let at = some_there c.args.list.now c.args.next c.requires.within in
    still_as_made (take c.args.kept c.args.list.now) (take c.move_to.result c.move_to.new.list) at.0 c.requires.as_made
    (c.move_to.ensures.put at.0 at.1 (c.place_of_next-place.ensures.place at.0 at.1)) (c.place_of_next-place.ensures.as_made at.0 at.1)

pub returns-clause-single : goal.returns-clause-single
returns-clause-single c =
    let at = some_there c.args.list.now c.args.next c.requires.within in
    subst AreSingle (sym (c.move_to.ensures.put at.0 at.1 (c.place_of_next-place.ensures.place at.0 at.1))) (single_put (take c.args.kept c.args.list.now) at.0 c.requires.single)

pub returns-clause-in_step : goal.returns-clause-in_step
returns-clause-in_step c = λ tables h n.
    let at = some_there c.args.list.now c.args.next c.requires.within in
    let read = next_read tables (drop (c.args.next + 1) c.move_to.new.list) (drop c.args.next c.args.list.now) at.0 (next_is c.args.list.now c.move_to.new.list c.args.next at.0 at.1 c.requires.within c.move_to.ensures.rest) n in (
      put_in_step tables (take c.args.kept c.args.list.now) (take c.move_to.result c.move_to.new.list) at.0 (c.move_to.ensures.put at.0 at.1 (c.place_of_next-place.ensures.place at.0 at.1))
          (c.place_of_next-place.ensures.as_made at.0 at.1) h read.0,
      read.1,
    )

pub returns-clause-numbers : goal.returns-clause-numbers
returns-clause-numbers c =
    numbers_behind c.args.list.now c.move_to.new.list c.args.next c.args.numbers.now c.move_to.ensures.rest c.requires.numbers
